-- What a worked figure says, and when it holds. Each row speaks by the definitions that the contracts of the public calls cite.
use Rattle.std.specs.Prelude.{◌≡◌, ℕ, Bool, List, map, ℤ, Result, nat_eq}
use Rattle.std.specs.List.{range_with_len}
use Rattle.refusal.specs.declared.Refusal.{Refusal}
use Rattle.mesh.specs.Reading.{reading}
use Rattle.mesh.specs.Records.{written}
use Rattle.mesh.specs.Shape.{Shape}
use Rattle.hierarchy.specs.Meaning.{Meaning}
use Rattle.hierarchy.specs.declared.link.Link.{Link}
use Rattle.levels.specs.Curves.{curve_level}
use Rattle.levels.specs.Finer.{level}
use Rattle.levels.specs.Incidence.{those}
use Rattle.levels.specs.Surfaces.{surface}
use Rattle.plan.specs.Planning.{need}
use Rattle.curve.specs.Positions.{number_at}
use Rattle.kinds.specs.PointSums.{modulo}
use Rattle.kinds.specs.declared.marks.Marks.{Marks}
use Rattle.kinds.specs.declared.point.Point.{Point}
use Rattle.kinds.specs.contracts.marks.MarksValueKind.TheImpl as marks-kind
use Rattle.kinds.specs.contracts.point.PointValueKind.TheImpl as point-kind
use Rattle.schemes.specs.Fractions.{Fraction}
use Rattle.schemes.specs.Rounding.{rounded}
use Rattle.schemes.specs.contracts.cubic.Cubic as cubic-type
use Rattle.schemes.specs.contracts.cubic.CubicFactors.TheImpl as cubic-factors
use Rattle.schemes.specs.contracts.linear.Linear as linear-type
use Rattle.schemes.specs.contracts.linear.LinearFactors.TheImpl as linear-factors
use Rattle.schemes.specs.contracts.marks_scheme.MarksSchemeScheme.TheImpl as scheme-of-marks
use Rattle.schemes.specs.contracts.spline.AnyScheme.TheImpl as scheme-of-factors
use Rattle.lifting.specs.HalfSteps.{Rule, rule}
use Rattle.lifting.specs.Travel.{travelled}
use Rattle.history.specs.Histories.{Opening, History, begun, values}
use Rattle.history.specs.Reach.{in_reach}
use Rattle.history.specs.Rows.{finest}
use Rattle.history.specs.Runs.{after, answers}
use Rattle.history.specs.Answers.{Answer}
use Rattle.history.specs.declared.call.Call.{Call}
use Rattle.history.specs.declared.call.Request.{Request}

-- the point with the same number, from −2^31 to 2^31 − 1, in each coordinate
abbrev pub point : ℤ → Point
point n = modulo n n n

-- the points have these numbers in each coordinate
abbrev pub Have : List Point → List ℤ → Type 0
Have ps ns = (map (λ p. p.x) ps ≡ ns) × (map (λ p. p.y) ps ≡ ns) × (map (λ p. p.z) ps ≡ ns)

abbrev pub marks : ℕ → Marks
marks n = record { flags = n }

-- the rules of the two schemes of points, and that of marks
abbrev pub by_linear : Rule Point
by_linear = rule (scheme-of-factors.ghosts linear-type.the_row linear-factors.ghosts linear-factors.dict) point-kind.ghosts record {}

abbrev pub by_cubic : Rule Point
by_cubic = rule (scheme-of-factors.ghosts cubic-type.the_row cubic-factors.ghosts cubic-factors.dict) point-kind.ghosts record {}

abbrev pub marks_rule : Rule Marks
marks_rule = rule scheme-of-marks.ghosts marks-kind.ghosts record {}

-- a request that is lent as much as was opened
abbrev pub whole_call : Meaning → ℕ → Request Point → Call Point
whole_call m slots request = record { request = request; points = finest m; slots = slots }

abbrev pub whole_calls : Meaning → Opening Point → List (Request Point) → List (Call Point)
whole_calls m opening requests = map (whole_call m opening.slots) requests

-- the history of a form that was opened and then asked these requests
abbrev pub history_of : Meaning → Opening Point → List (Request Point) → History Point
history_of m opening requests = after m (begun opening) (whole_calls m opening requests)

pub data Row : Type 0 where
  -- the bytes of a base are read, or refused
  Read : Shape → Result Shape Refusal → Row
  -- a level has so many vertices, edges and faces
  Counts : Meaning → ℕ → ℕ → ℕ → ℕ → Row
  -- what a relation gives a vertex, an edge or a face of a level
  Listed : Meaning → ℕ → Link → ℕ → List ℕ → Row
  -- a plan of a base with so many levels needs a table of so many numbers, or is refused
  Need : Shape → ℕ → Result ℕ Refusal → Row
  -- a fraction is rounded to a whole number
  Rounding : Fraction → ℤ → Row
  -- a curve, closed or not, of so many points: the vertices along one of its levels
  Along : Bool → ℕ → ℕ → List ℕ → Row
  -- points travel from one depth to another
  Points : Meaning → Rule Point → ℕ → ℕ → List ℤ → List ℤ → Row
  -- so do marks
  Flags : Meaning → ℕ → ℕ → List ℕ → List ℕ → Row
  -- a form was opened and asked these requests: what stands at every place
  Stored : Meaning → Rule Point → Opening Point → List (Request Point) → List ℤ → Row
  -- what it answered
  Answered : Meaning → Rule Point → Opening Point → List (Request Point) → List (Answer Point) → Row
  -- the reach of one place
  Reached : Meaning → Opening Point → List (Request Point) → ℕ → List ℕ → Row

abbrev pub Holds : Row → Type 0
Holds (Read base verdict) = reading (written base) ≡ verdict
Holds (Counts m j vertices edges faces) = (m.vertices j ≡ vertices) × (m.edges j ≡ edges) × (m.faces j ≡ faces)
Holds (Listed m j link i numbers) = m.list j link i ≡ numbers
Holds (Need base levels verdict) = need (surface base) levels ≡ verdict
Holds (Rounding q r) = rounded q ≡ r
Holds (Along closed n j numbers) = map (number_at (curve_level closed n) j) (range_with_len 0 (level (curve_level closed n) j).vertices) ≡ numbers
Holds (Points m by from to before left) = Have (travelled m by from to (map point before)) left
Holds (Flags m from to before left) = travelled m marks_rule from to (map marks before) ≡ map marks left
Holds (Stored m by opening requests left) = Have (values m by (history_of m opening requests)) left
Holds (Answered m by opening requests replies) = answers m by (begun opening) (whole_calls m opening requests) ≡ replies
Holds (Reached m opening requests place reach) = those (in_reach m (nat_eq place) (history_of m opening requests)) (finest m) ≡ reach
