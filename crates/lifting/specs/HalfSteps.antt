-- Half steps, and the analysis and synthesis of one level that are made of them.
use Rattle.std.specs.Prelude.{ℕ, ◌-◌, cond, List, [], ◌∷◌, map, reverse, length, slice_index_or}
use Rattle.std.specs.List.{range_with_len}
use Rattle.hierarchy.specs.Meaning.{Meaning}
use Rattle.kinds.specs.declared.kind.ValueKind as ValueKind
use Rattle.schemes.specs.Readings.{Reads}
use Rattle.schemes.specs.declared.scheme.Scheme as Scheme
use Rattle.schemes.specs.declared.steps.Class.{Class}
use Rattle.schemes.specs.declared.steps.Class.TheVariants.{Vertex, Edge, Face}
use Rattle.schemes.specs.declared.steps.Step.{Step}
use Rattle.schemes.specs.declared.steps.Step.TheVariants.{First, Second, Third}
use Rattle.lifting.specs.Places.{first_place, has_place, dimension_of}
use Rattle.lifting.specs.Reading.{read_by, values_read}
use Rattle.lifting.specs.declared.way.Way.{Way}
use Rattle.lifting.specs.declared.way.Way.TheVariants.{Down, Up}

-- how values are added, and how much a step adds to a point of a class and dimension that reads these values
pub record Rule (V : Type 0) : Type 0 where
  pub plus : V → V → V
  pub zero : V
  pub opposite : V → V
  pub amount : Step → Class → ℕ → Reads V → V

-- that of a scheme, over its value kind
abbrev pub rule : {S V U : Type 0} → Scheme.Ghosts S V U → ValueKind.Ghosts V → S → Rule V
rule scheme kind s = record { plus = kind.plus; zero = kind.zero; opposite = kind.opposite; amount = scheme.amount s }

-- the amount on the way down, its opposite on the way up
abbrev pub on_the_way : {V : Type 0} → (V → V) → Way → V → V
on_the_way opposite Down a = a
on_the_way opposite Up a = opposite a

-- how much a step adds to the point of this class and number from the points with these numbers, when these values stand
abbrev pub amount_from : {V : Type 0} → Meaning → Rule V → Step → ℕ → Class → ℕ → Reads ℕ → List V → V
amount_from m r step j c i q vs = r.amount step c (dimension_of m j c i) (values_read m r.zero vs j q)

-- how much a step adds to the point of this class and number, when these values stand
abbrev pub amount_at : {V : Type 0} → Meaning → Rule V → Step → ℕ → Class → ℕ → List V → V
amount_at m r step j c i vs = r.amount step c (dimension_of m j c i) (values_read m r.zero vs j (read_by m step j c i))

-- what stands at a place after a half step: where a point of the class stands, the old value with the amount added on the right,
-- from what the point reads as it was before; anywhere else the old value
abbrev pub changed_at : {V : Type 0} → Meaning → Rule V → Way → Step → ℕ → Class → List V → ℕ → V
changed_at m r way step j c vs p =
    let old = slice_index_or vs p r.zero in
    cond (has_place m j c p) (r.plus old (on_the_way r.opposite way (amount_at m r step j c (p - first_place m j c) vs))) old

-- a half step, at every place
unfoldable pub half : {V : Type 0} → Meaning → Rule V → Way → ℕ → Step × Class → List V → List V
half m r way j s vs = map (changed_at m r way s.0 j s.1 vs) (range_with_len 0 (length vs))

-- several, one after the other
abbrev pub halves : {V : Type 0} → Meaning → Rule V → Way → ℕ → List (Step × Class) → List V → List V
halves m r way j [] vs = vs
halves m r way j (s ∷ ss) vs = halves m r way j ss (half m r way j s vs)

-- an s-lift changes all vertices, then all edges; a w-lift all faces, then all edges
abbrev pub lifts : List (Step × Class)
lifts = (First, Vertex) ∷ (First, Edge) ∷ (Second, Face) ∷ (Second, Edge) ∷ (Third, Vertex) ∷ (Third, Edge) ∷ []

-- from depth j + 1 to depth j
unfoldable pub analysed : {V : Type 0} → Meaning → Rule V → ℕ → List V → List V
analysed m r j vs = halves m r Down j lifts vs

-- from depth j to depth j + 1: the last half step first
unfoldable pub synthesised : {V : Type 0} → Meaning → Rule V → ℕ → List V → List V
synthesised m r j vs = halves m r Up j (reverse lifts) vs

-- a level, either way
abbrev pub crossed : {V : Type 0} → Meaning → Rule V → Way → ℕ → List V → List V
crossed m r Down j vs = analysed m r j vs
crossed m r Up j vs = synthesised m r j vs
