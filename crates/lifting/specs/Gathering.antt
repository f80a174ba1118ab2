-- What the code hands round while the values read are gathered.
use Rattle.std.specs.Prelude.{◌≡◌, ℕ, ◌+◌, ◌^◌, ◌<◌, Bool, List, []}
use Rattle.hierarchy.specs.Meaning.{Meaning}
use Rattle.hierarchy.specs.declared.link.Link.{Link}
use Rattle.hierarchy.specs.declared.link.Link.TheVariants.{EdgeEnds, EdgeFaces, FaceVertices, FaceEdges, VertexEdges, VertexFaces}
use Rattle.schemes.specs.Readings.{Reads}
use Rattle.schemes.specs.declared.steps.Class.{Class}
use Rattle.schemes.specs.declared.steps.Class.TheVariants.{Vertex, Edge, Face}
use Rattle.lifting.specs.declared.layout.Layout.{Layout}

-- the layout is that of its level, one below the finest, and there are as many values as finest vertices
pub record Laid (m : Meaning) (l : Layout) (n : ℕ) : Type 0 where
  pub level : l.level < m.levels
  pub edges : l.edges ≡ m.vertices l.level
  pub faces : l.faces ≡ m.vertices l.level + m.edges l.level
  pub whole : n ≡ m.vertices m.levels

-- the place of the first point of a class, as the layout has it
abbrev pub start_of : Layout → Class → ℕ
start_of l Vertex = 0
start_of l Edge = l.edges
start_of l Face = l.faces

-- the class of what a relation lists
abbrev pub target_class : Link → Class
target_class EdgeEnds = Vertex
target_class EdgeFaces = Face
target_class FaceVertices = Vertex
target_class FaceEdges = Edge
target_class VertexEdges = Edge
target_class VertexFaces = Face

-- these values read in the place of those of one class
abbrev pub with_read : {V : Type 0} → Class → List V → Reads V → Reads V
with_read Vertex xs q = record { vertices = xs; edges = q.edges; faces = q.faces }
with_read Edge xs q = record { vertices = q.vertices; edges = xs; faces = q.faces }
with_read Face xs q = record { vertices = q.vertices; edges = q.edges; faces = xs }

-- a question about numbers is answered as this test answers it, at every number that can be asked
abbrev pub Tells : (ℕ → Bool → Type 0) → (ℕ → Bool) → Type 0
Tells answers test = (n : ℕ) (b : Bool) → n < 2 ^ 64 → answers n b → b ≡ test n

-- a sum that held none of a class holds these of it, whatever it holds of the others
abbrev pub Gathered : {V U : Type 0} → (U → Reads V → Type 0) → Class → List V → U → U → Type 0
Gathered {V} holds c xs start sum = (q : Reads V) → holds start (with_read c [] q) → holds sum (with_read c xs q)
