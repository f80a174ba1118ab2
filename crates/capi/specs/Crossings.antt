-- How the values of each kind cross to C.
use Rattle.std.specs.Prelude.{refl}
use Rattle.kinds.specs.MarkSums.{unmarked}
use Rattle.kinds.specs.PairSums.{pair}
use Rattle.kinds.specs.PointSums.{origin}
use Rattle.kinds.specs.declared.marks.Marks.{Marks}
use Rattle.kinds.specs.declared.pair.Pair.{Pair}
use Rattle.kinds.specs.declared.point.Point.{Point}
use Rattle.capi.specs.declared.crossing.Crossing as Crossing

-- a point crosses with no marks
abbrev pub of_points : Crossing.Ghosts Point
of_points = record { arrives = λ c. c.point; leaves = λ p. record { point = p; marks = unmarked }; kept = λ _. refl }

-- marks cross with the origin
abbrev pub of_marks : Crossing.Ghosts Marks
of_marks = record { arrives = λ c. c.marks; leaves = λ m. record { point = origin; marks = m }; kept = λ _. refl }

-- a pair crosses as both
abbrev pub of_pairs : Crossing.Ghosts (Pair Point Marks)
of_pairs = record { arrives = λ c. pair c.point c.marks; leaves = λ p. record { point = p.first; marks = p.second }; kept = λ _. refl }
