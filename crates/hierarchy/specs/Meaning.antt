-- What a hierarchy means: its levels, their counts, and the topology of each level below the finest.
use Rattle.std.specs.Prelude.{ℕ, Bool, List}
use Rattle.hierarchy.specs.declared.link.Link.{Link}
use Rattle.hierarchy.specs.declared.link.Link.TheVariants.{EdgeEnds, EdgeFaces, FaceVertices, FaceEdges, VertexEdges, VertexFaces}

pub record Meaning : Type 0 where
  -- the number of levels of subdivision; level 0 is the coarsest, and this one the finest
  pub levels : ℕ
  -- of each level
  pub vertices : ℕ → ℕ
  pub edges : ℕ → ℕ
  pub faces : ℕ → ℕ
  -- of a level, for an edge, a face or a vertex: the numbers that a relation gives it
  pub list : ℕ → Link → ℕ → List ℕ
  -- of a level, for an edge: whether it is a curve
  pub curve : ℕ → ℕ → Bool
  -- of a level, for a vertex: 2 smooth, 1 on a curve, 0 corner
  pub dimension : ℕ → ℕ → ℕ

-- how many there are of what a relation lists something of
abbrev pub sources : Meaning → ℕ → Link → ℕ
sources m j EdgeEnds = m.edges j
sources m j EdgeFaces = m.edges j
sources m j FaceVertices = m.faces j
sources m j FaceEdges = m.faces j
sources m j VertexEdges = m.vertices j
sources m j VertexFaces = m.vertices j

-- how many there are of what a relation lists
abbrev pub targets : Meaning → ℕ → Link → ℕ
targets m j EdgeEnds = m.vertices j
targets m j EdgeFaces = m.faces j
targets m j FaceVertices = m.vertices j
targets m j FaceEdges = m.edges j
targets m j VertexEdges = m.edges j
targets m j VertexFaces = m.faces j
