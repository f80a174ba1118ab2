-- The integer lifting operations on points with sharp features, and the analysis and synthesis that are made of them: relations between
-- the values before and after, which speak of centroids, dimensions and coordinates alone. A factor a belongs to each operation.
use Rattle.std.specs.Prelude.{◌≡◌, ℕ, ◌+◌, ◌<◌, ◌≤◌, true, false, ◌⊎◌, List, map, length, ℤ, ◌+ℤ◌, ◌-ℤ◌, filter, slice_index_or}
use Rattle.hierarchy.specs.Meaning.{Meaning}
use Rattle.hierarchy.specs.declared.link.Link.TheVariants.{EdgeEnds, EdgeFaces, FaceVertices, FaceEdges, VertexEdges, VertexFaces}
use Rattle.kinds.specs.PointSums.{added, origin, opposed}
use Rattle.kinds.specs.Residues.{Residue}
use Rattle.kinds.specs.declared.point.Point.{Point}
use Rattle.schemes.specs.Equations.{by_one, by_two}
use Rattle.schemes.specs.Fractions.{Fraction, mean}
use Rattle.schemes.specs.PointAmounts.{point_amount}
use Rattle.schemes.specs.Rounding.{Rounds}
use Rattle.schemes.specs.declared.steps.Class.{Class}
use Rattle.schemes.specs.declared.steps.Class.TheVariants.{Vertex, Edge, Face}
use Rattle.schemes.specs.declared.steps.Step.{Step}
use Rattle.schemes.specs.declared.steps.Step.TheVariants.{First, Second, Third}
use Rattle.lifting.specs.Places.{first_place, count_of}
use Rattle.lifting.specs.Reading.{values_of}
use Rattle.lifting.specs.HalfSteps.{Rule, analysed, synthesised}
use Rattle.lifting.specs.declared.way.Way.{Way}
use Rattle.lifting.specs.declared.way.Way.TheVariants.{Down, Up}

pub data Axis : Type 0 where
  X : Axis
  Y : Axis
  Z : Axis

abbrev pub along : Axis → Point → ℤ
along X p = p.x
along Y p = p.y
along Z p = p.z

-- what stands for the point of a class and number
abbrev pub standing : Meaning → ℕ → List Point → Class → ℕ → Point
standing m j vs c i = slice_index_or vs (first_place m j c + i) origin

-- the exact mean of some points of a class, in one coordinate
abbrev pub centroid : Meaning → ℕ → List Point → Axis → Class → List ℕ → Fraction
centroid m j vs k c ns = mean (map (along k) (values_of m origin vs j c ns))

-- an operation adds, and its inverse takes away
abbrev pub changed_by : Way → ℤ → ℤ → ℤ
changed_by Down x n = x +ℤ n
changed_by Up x n = x -ℤ n

-- x ← x + [q], or inversely x ← x − [q], modulo 2^32
pub record Moved (way : Way) (old : ℤ) (q : Fraction) (new : ℤ) : Type 0 where
  pub amount : ℤ
  pub rounds : Rounds q amount
  pub residue : Residue (changed_by way old amount) new

-- each coordinate of a point by its equation
abbrev pub Lifted : Meaning → ℕ → Way → Class → ℕ → (Axis → Fraction) → List Point → List Point → Type 0
Lifted m j way c i equation before after = (k : Axis) → Moved way (along k (standing m j before c i)) (equation k) (along k (standing m j after c i))

abbrev pub Stays : Meaning → ℕ → Class → ℕ → List Point → List Point → Type 0
Stays m j c i before after = standing m j after c i ≡ standing m j before c i

-- nothing but points of the class is changed
pub record Only (m : Meaning) (j : ℕ) (c : Class) (before after : List Point) : Type 0 where
  pub as_long : length after ≡ length before
  pub elsewhere : (p : ℕ) → (p < first_place m j c) ⊎ (first_place m j c + count_of m j c ≤ p) → slice_index_or after p origin ≡ slice_index_or before p origin

-- v ← v + [4a² · centroid of its faces + 4a · centroid of its edges] on a smooth part, v ← v + [2a · centroid of its curve edges] on
-- a curve; a corner stays
pub record SLiftOfVertices (m : Meaning) (j : ℕ) (way : Way) (a : Fraction) (before after : List Point) : Type 0 where
  pub smooth : (v : ℕ) → v < m.vertices j → m.dimension j v ≡ 2 → Lifted m j way Vertex v (λ k. by_two a (centroid m j before k Face (m.list j VertexFaces v)) (centroid m j before k Edge (m.list j VertexEdges v))) before after
  pub on_curve : (v : ℕ) → v < m.vertices j → m.dimension j v ≡ 1 → Lifted m j way Vertex v (λ k. by_one a (centroid m j before k Edge (filter (m.curve j) (m.list j VertexEdges v)))) before after
  pub corner : (v : ℕ) → v < m.vertices j → m.dimension j v ≡ 0 → Stays m j Vertex v before after
  pub only : Only m j Vertex before after

-- e ← e + [2a · centroid of its faces]; a curve edge stays
pub record SLiftOfEdges (m : Meaning) (j : ℕ) (way : Way) (a : Fraction) (before after : List Point) : Type 0 where
  pub smooth : (e : ℕ) → e < m.edges j → m.curve j e ≡ false → Lifted m j way Edge e (λ k. by_one a (centroid m j before k Face (m.list j EdgeFaces e))) before after
  pub on_curve : (e : ℕ) → e < m.edges j → m.curve j e ≡ true → Stays m j Edge e before after
  pub only : Only m j Edge before after

-- f ← f + [4a² · centroid of its vertices + 4a · centroid of its edges]
pub record WLiftOfFaces (m : Meaning) (j : ℕ) (way : Way) (a : Fraction) (before after : List Point) : Type 0 where
  pub each : (f : ℕ) → f < m.faces j → Lifted m j way Face f (λ k. by_two a (centroid m j before k Vertex (m.list j FaceVertices f)) (centroid m j before k Edge (m.list j FaceEdges f))) before after
  pub only : Only m j Face before after

-- e ← e + [2a · centroid of its ends]
pub record WLiftOfEdges (m : Meaning) (j : ℕ) (way : Way) (a : Fraction) (before after : List Point) : Type 0 where
  pub each : (e : ℕ) → e < m.edges j → Lifted m j way Edge e (λ k. by_one a (centroid m j before k Vertex (m.list j EdgeEnds e))) before after
  pub only : Only m j Edge before after

-- the four operations, each of them two half steps; an inverse has them in the other order
pub record SLift (m : Meaning) (j : ℕ) (a : Fraction) (before after : List Point) : Type 0 where
  pub between : List Point
  pub vertices : SLiftOfVertices m j Down a before between
  pub edges : SLiftOfEdges m j Down a between after

pub record WLift (m : Meaning) (j : ℕ) (a : Fraction) (before after : List Point) : Type 0 where
  pub between : List Point
  pub faces : WLiftOfFaces m j Down a before between
  pub edges : WLiftOfEdges m j Down a between after

pub record InverseSLift (m : Meaning) (j : ℕ) (a : Fraction) (before after : List Point) : Type 0 where
  pub between : List Point
  pub edges : SLiftOfEdges m j Up a before between
  pub vertices : SLiftOfVertices m j Up a between after

pub record InverseWLift (m : Meaning) (j : ℕ) (a : Fraction) (before after : List Point) : Type 0 where
  pub between : List Point
  pub edges : WLiftOfEdges m j Up a before between
  pub faces : WLiftOfFaces m j Up a between after

-- by a table of factors, one for each step
pub record Analysis (m : Meaning) (j : ℕ) (factor : Step → Fraction) (before after : List Point) : Type 0 where
  pub one : List Point
  pub two : List Point
  pub first : SLift m j (factor First) before one
  pub second : WLift m j (factor Second) one two
  pub third : SLift m j (factor Third) two after

pub record Synthesis (m : Meaning) (j : ℕ) (factor : Step → Fraction) (before after : List Point) : Type 0 where
  pub two : List Point
  pub one : List Point
  pub third : InverseSLift m j (factor Third) before two
  pub second : InverseWLift m j (factor Second) two one
  pub first : InverseSLift m j (factor First) one after

-- how points are added and how much a step adds, by a table of factors: the table `linear` gives the rule of the linear scheme, and
-- `cubic` that of the cubic scheme
abbrev pub spline : (Step → Fraction) → Rule Point
spline factor = record { plus = added; zero = origin; opposite = opposed; amount = point_amount factor }

-- a level is analysed and synthesised by these operations, whatever points stand
pub record LiftingEquations (m : Meaning) (j : ℕ) : Type 0 where
  pub analysis : (factor : Step → Fraction) (vs : List Point) → j < m.levels → length vs ≡ m.vertices m.levels → Analysis m j factor vs (analysed m (spline factor) j vs)
  pub synthesis : (factor : Step → Fraction) (vs : List Point) → j < m.levels → length vs ≡ m.vertices m.levels → Synthesis m j factor vs (synthesised m (spline factor) j vs)
