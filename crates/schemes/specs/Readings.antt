-- The values that a changed point reads, those of vertices, edges and faces apart, each ascending by place.
use Rattle.std.specs.Prelude.{cond, List, [], ◌∷◌, ◌++◌, map, length, nat_lt}
use Rattle.schemes.specs.declared.steps.Class.{Class}
use Rattle.schemes.specs.declared.steps.Class.TheVariants.{Vertex, Edge, Face}

pub record Reads (V : Type 0) : Type 0 where
  pub vertices : List V
  pub edges : List V
  pub faces : List V

abbrev pub none_read : {V : Type 0} → Reads V
none_read = record { vertices = []; edges = []; faces = [] }

-- a place has at most 8 neighbours of a class: a ninth value is passed over
abbrev pub joined_by : {V : Type 0} → List V → V → List V
joined_by vs v = cond (nat_lt (length vs) 8) (vs ++ v ∷ []) vs

-- one more value read, of a place of this class
abbrev pub more : {V : Type 0} → Class → V → Reads V → Reads V
more Vertex v q = record { vertices = joined_by q.vertices v; edges = q.edges; faces = q.faces }
more Edge v q = record { vertices = q.vertices; edges = joined_by q.edges v; faces = q.faces }
more Face v q = record { vertices = q.vertices; edges = q.edges; faces = joined_by q.faces v }

-- one part of every value read
abbrev pub parts : {V W : Type 0} → (V → W) → Reads V → Reads W
parts f q = record { vertices = map f q.vertices; edges = map f q.edges; faces = map f q.faces }
