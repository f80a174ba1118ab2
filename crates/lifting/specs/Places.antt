-- Where the points of a level stand among the values: first its vertices, then its edges, then its faces.
use Rattle.std.specs.Prelude.{ℕ, ◌+◌, Bool, cond, ◌&&◌, nat_le, nat_lt}
use Rattle.hierarchy.specs.Meaning.{Meaning}
use Rattle.schemes.specs.declared.steps.Class.{Class}
use Rattle.schemes.specs.declared.steps.Class.TheVariants.{Vertex, Edge, Face}

-- how many points of a class a level has
abbrev pub count_of : Meaning → ℕ → Class → ℕ
count_of m j Vertex = m.vertices j
count_of m j Edge = m.edges j
count_of m j Face = m.faces j

-- the place of the first of them; number i stands i places further on
abbrev pub first_place : Meaning → ℕ → Class → ℕ
first_place m j Vertex = 0
first_place m j Edge = m.vertices j
first_place m j Face = m.vertices j + m.edges j

-- how many places the points of a level take
abbrev pub places : Meaning → ℕ → ℕ
places m j = m.vertices j + m.edges j + m.faces j

-- whether a place is one of n from the first on
abbrev pub in_run : ℕ → ℕ → ℕ → Bool
in_run first n p = nat_le first p && nat_lt p (first + n)

-- whether a point of the class stands at the place
abbrev pub has_place : Meaning → ℕ → Class → ℕ → Bool
has_place m j c p = in_run (first_place m j c) (count_of m j c) p

-- vertices have a dimension of their own; an edge has 1 on a curve, else 2, and a face has 2
abbrev pub dimension_of : Meaning → ℕ → Class → ℕ → ℕ
dimension_of m j Vertex v = m.dimension j v
dimension_of m j Edge e = cond (m.curve j e) 1 2
dimension_of m j Face f = 2
