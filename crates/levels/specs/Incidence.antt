-- The meaning of a hierarchy whose levels are given: what is listed follows from edges and corners.
use Rattle.std.specs.Prelude.{ℕ, Bool, false, cond, ◌&&◌, ◌||◌, List, [], filter, ◌==◌, nat_le, nat_lt}
use Rattle.std.specs.List.{range_with_len}
use Rattle.hierarchy.specs.declared.link.Link.{Link}
use Rattle.hierarchy.specs.declared.link.Link.TheVariants.{EdgeEnds, EdgeFaces, FaceVertices, FaceEdges, VertexEdges, VertexFaces}
use Rattle.hierarchy.specs.Meaning.{Meaning}
use Rattle.mesh.specs.Shape.{any}
use Rattle.levels.specs.Level.{Level}
use Rattle.levels.specs.Finer.{level}

-- the numbers below n that pass a test, ascending
abbrev pub those : (ℕ → Bool) → ℕ → List ℕ
those p n = filter p (range_with_len 0 n)

-- some corner passes
abbrev pub some_corner : Level → (ℕ → Bool) → Bool
some_corner m p = any p (range_with_len 0 m.corners)

abbrev pub touches : Level → ℕ → ℕ → Bool
touches m e v = m.tail e == v || m.head e == v

abbrev pub has_edge : Level → ℕ → ℕ → Bool
has_edge m f e = some_corner m (λ c. (m.face c == f) && m.side c == e)

abbrev pub has_vertex : Level → ℕ → ℕ → Bool
has_vertex m f v = some_corner m (λ c. (m.face c == f) && m.vertex c == v)

-- what a relation gives number i
abbrev pub incident : Level → Link → ℕ → List ℕ
incident m EdgeEnds e = cond (nat_lt e m.edges) (those (λ v. touches m e v) m.vertices) []
incident m EdgeFaces e = cond (nat_lt e m.edges) (those (λ f. has_edge m f e) m.faces) []
incident m FaceVertices f = those (λ v. has_vertex m f v) m.vertices
incident m FaceEdges f = those (λ e. has_edge m f e) m.edges
incident m VertexEdges v = cond (nat_lt v m.vertices) (those (λ e. touches m e v) m.edges) []
incident m VertexFaces v = cond (nat_lt v m.vertices) (those (λ f. has_vertex m f v) m.faces) []

-- the hierarchy of so many levels of subdivision over a coarsest one
abbrev pub hierarchy : Level → ℕ → Meaning
hierarchy m levels = record {
  levels = levels;
  vertices = λ j. cond (nat_le j levels) (level m j).vertices 0;
  edges = λ j. cond (nat_le j levels) (level m j).edges 0;
  faces = λ j. cond (nat_le j levels) (level m j).faces 0;
  list = λ j link i. cond (nat_lt j levels) (incident (level m j) link i) [];
  curve = λ j e. cond (nat_lt j levels && nat_lt e (level m j).edges) ((level m j).curve e) false;
  dimension = λ j v. cond (nat_lt j levels && nat_lt v (level m j).vertices) ((level m j).dimension v) 0;
}
