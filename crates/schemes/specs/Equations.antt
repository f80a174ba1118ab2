-- The lifting equations, as exact fractions: what a step adds to a point of a class, from the means of what the point reads.
use Rattle.std.specs.Prelude.{ℕ, Bool, cond, ℤ, pos, negsuc, ◌==◌, unsigned_abs}
use Rattle.std.proofs.Common.{lit<}
use Rattle.schemes.specs.declared.steps.Class.{Class}
use Rattle.schemes.specs.declared.steps.Class.TheVariants.{Vertex, Edge, Face}
use Rattle.schemes.specs.declared.steps.Step.{Step}
use Rattle.schemes.specs.declared.steps.Step.TheVariants.{First, Second, Third}
use Rattle.schemes.specs.Fractions.{Fraction, quotient, whole, ◌⊕◌, ◌⊗◌, mean}
use Rattle.schemes.specs.Readings.{Reads}

-- the factor a of each step
abbrev pub linear : Step → Fraction
linear First = whole (pos 0)
linear Second = quotient (negsuc 0) 2 (lit< tt)
linear Third = quotient (pos 1) 4 (lit< tt)

abbrev pub cubic : Step → Fraction
cubic First = quotient (negsuc 0) 4 (lit< tt)
cubic Second = whole (negsuc 0)
cubic Third = quotient (pos 3) 16 (lit< tt)

-- whether a step is idle: by a factor of 0 each equation below is 0
abbrev pub rests : (Step → Fraction) → Step → Bool
rests factor step = unsigned_abs (factor step).over == 0

abbrev two : Fraction
two = whole (pos 2)

abbrev four : Fraction
four = whole (pos 4)

abbrev nothing : Fraction
nothing = whole (pos 0)

-- 2a · m
unfoldable pub by_one : Fraction → Fraction → Fraction
by_one a m = (two ⊗ a) ⊗ m

-- 4a² · m + 4a · n
unfoldable pub by_two : Fraction → Fraction → Fraction → Fraction
by_two a m n = (four ⊗ (a ⊗ a)) ⊗ m ⊕ (four ⊗ a) ⊗ n

-- the means of what is read, by class
pub record Means : Type 0 where
  pub vertices : Fraction
  pub edges : Fraction
  pub faces : Fraction

abbrev pub means : Reads ℤ → Means
means q = record { vertices = mean q.vertices; edges = mean q.edges; faces = mean q.faces }

-- An s-lift changes vertices and edges. A vertex of dimension 2 reads its faces and edges, one of dimension 1 its curve edges, any
-- other nothing. An edge of dimension 2 reads its faces; a curve edge has dimension 1 and reads nothing
abbrev pub s_lift : Fraction → Class → ℕ → Means → Fraction
s_lift a Vertex dimension m = cond (dimension == 2) (by_two a m.faces m.edges) (cond (dimension == 1) (by_one a m.edges) nothing)
s_lift a Edge dimension m = cond (dimension == 2) (by_one a m.faces) nothing
s_lift a Face dimension m = nothing

-- A w-lift changes faces and edges, of every dimension. A face reads its vertices and edges, an edge its two ends
abbrev pub w_lift : Fraction → Class → ℕ → Means → Fraction
w_lift a Vertex dimension m = nothing
w_lift a Edge dimension m = by_one a m.vertices
w_lift a Face dimension m = by_two a m.vertices m.edges

-- steps 1 and 3 are s-lifts, step 2 is a w-lift
abbrev pub lift : (Step → Fraction) → Step → Class → ℕ → Means → Fraction
lift factor First = s_lift (factor First)
lift factor Second = w_lift (factor Second)
lift factor Third = s_lift (factor Third)
