-- The table of refusals: the number by which each case is reported, and the value that it carries.
use Rattle.std.specs.Prelude.{ℕ}
use Rattle.refusal.specs.declared.Refusal.{Refusal}
use Rattle.refusal.specs.declared.Refusal.TheVariants.{Truncated, UnknownKind, OutOfOrder, BadVertex, BadCurve, ThirdFace, TooMany, TrailingByte, OpenEdge, BadValence, BadDimension, LevelCount, TooFine, TableTooShort, RefinedValence, CurveSize, NotUniform, WrongLength, NoSuchDepth, NoSuchPlace, ListFull, NoSurvivingMove, SpoiledSlot}

-- one row of the table, as it is reported
pub record Row : Type 0 where
  pub number : ℕ
  pub value : ℕ

abbrev at : ℕ → ℕ → Row
at n v = record { number = n; value = v }

abbrev pub row : Refusal → Row
row (Truncated record') = at 1 record'
row (UnknownKind record') = at 2 record'
row (OutOfOrder record') = at 3 record'
row (BadVertex record') = at 4 record'
row (BadCurve record') = at 5 record'
row (ThirdFace record') = at 6 record'
row (TooMany record') = at 7 record'
row (TrailingByte index) = at 8 index
row (OpenEdge edge) = at 9 edge
row (BadValence vertex) = at 10 vertex
row (BadDimension vertex) = at 11 vertex
row (LevelCount levels) = at 12 levels
row (TooFine level) = at 13 level
row (TableTooShort needed) = at 14 needed
row (RefinedValence vertex) = at 15 vertex
row (CurveSize points) = at 16 points
row NotUniform = at 17 0
row (WrongLength given) = at 18 given
row (NoSuchDepth depth) = at 19 depth
row (NoSuchPlace place) = at 20 place
row (ListFull count) = at 21 count
row NoSurvivingMove = at 22 0
row (SpoiledSlot slot) = at 23 slot
