-- Refinement: one level of subdivision more.
use Rattle.std.specs.Prelude.{ℕ, zero, suc, ◌+◌, ◌-◌, ◌*◌, ◌/◌, ◌%◌, false, cond, ◌==◌, nat_lt}
use Rattle.levels.specs.Level.{Level}

-- the vertex that an edge gets, and the one that a face gets: vertices keep their numbers, edges come next, then faces
abbrev pub edge_vertex : Level → ℕ → ℕ
edge_vertex m e = m.vertices + e

abbrev pub face_vertex : Level → ℕ → ℕ
face_vertex m f = m.vertices + m.edges + f

-- edge e from p to q becomes edge 2e from p to its vertex, and edge 2e + 1 from its vertex to q.
-- Corner c gives edge 2E + c from the vertex of its side to that of its face
abbrev pub inner_edge : Level → ℕ → ℕ
inner_edge m c = 2 * m.edges + c

-- the half of edge e that ends at its end v
abbrev pub half_at : Level → ℕ → ℕ → ℕ
half_at m e v = 2 * e + cond (m.tail e == v) 0 1

-- by whether edge e is a half, and the first one
abbrev pub halves : {A : Type 0} → Level → ℕ → A → A → A → A
halves m e first second inner = cond (nat_lt e (2 * m.edges)) (cond (e % 2 == 0) first second) inner

-- by which corner of its face corner c is, in a level whose faces have four corners each
abbrev pub quarters : {A : Type 0} → ℕ → A → A → A → A → A
quarters c zeroth first second third = cond (c % 4 == 0) zeroth (cond (c % 4 == 1) first (cond (c % 4 == 2) second third))

-- Corner c gives face c: the corner, the vertex of its side, the face's vertex, the vertex of the side before
abbrev pub finer : Level → Level
finer m = record {
  vertices = m.vertices + m.edges + m.faces;
  edges = 2 * m.edges + m.corners;
  faces = m.corners;
  corners = 4 * m.corners;
  tail = λ e. halves m e (m.tail (e / 2)) (edge_vertex m (e / 2)) (edge_vertex m (m.side (e - 2 * m.edges)));
  head = λ e. halves m e (edge_vertex m (e / 2)) (m.head (e / 2)) (face_vertex m (m.face (e - 2 * m.edges)));
  face = λ c. c / 4;
  vertex = λ c. quarters c (m.vertex (c / 4)) (edge_vertex m (m.side (c / 4))) (face_vertex m (m.face (c / 4))) (edge_vertex m (m.side (m.back (c / 4))));
  side = λ c. quarters c (half_at m (m.side (c / 4)) (m.vertex (c / 4))) (inner_edge m (c / 4)) (inner_edge m (m.back (c / 4))) (half_at m (m.side (m.back (c / 4))) (m.vertex (c / 4)));
  back = λ c. cond (c % 4 == 0) (c + 3) (c - 1);
  forth = λ c. cond (c % 4 == 3) (c - 3) (c + 1);
  curve = λ e. cond (nat_lt e (2 * m.edges)) (m.curve (e / 2)) false;
  dimension = λ v. cond (nat_lt v m.vertices) (m.dimension v) (cond (nat_lt v (m.vertices + m.edges)) (cond (m.curve (v - m.vertices)) 1 2) 2);
}

unfoldable pub level : Level → ℕ → Level
level m zero = m
level m (suc j) = finer (level m j)
