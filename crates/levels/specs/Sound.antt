-- What every level keeps.
use Rattle.std.specs.Prelude.{◌≡◌, ℕ, ◌<◌, ◌≤◌, Bool, ◌≢◌, ◌⊎◌, count_by, nat_eq}
use Rattle.std.specs.List.{range_with_len}
use Rattle.levels.specs.Level.{Level}
use Rattle.levels.specs.Incidence.{touches}

-- how many of the numbers below n pass
abbrev pub count : (ℕ → Bool) → ℕ → ℕ
count p n = count_by p (range_with_len 0 n)

-- edge e runs between p and q, in one direction or the other
abbrev pub Runs : Level → ℕ → ℕ → ℕ → Type 0
Runs m e p q = ((m.tail e ≡ p) × (m.head e ≡ q)) ⊎ ((m.tail e ≡ q) × (m.head e ≡ p))

pub record Sound (m : Level) : Type 0 where
  -- edges run between two vertices
  pub tails : (e : ℕ) → e < m.edges → m.tail e < m.vertices
  pub heads : (e : ℕ) → e < m.edges → m.head e < m.vertices
  pub apart : (e : ℕ) → e < m.edges → m.tail e ≢ m.head e
  -- a corner lies in a face, at a vertex, between two sides, and the corners of a face go round it
  pub faced : (c : ℕ) → c < m.corners → m.face c < m.faces
  pub placed : (c : ℕ) → c < m.corners → m.vertex c < m.vertices
  pub sided : (c : ℕ) → c < m.corners → m.side c < m.edges
  pub backs : (c : ℕ) → c < m.corners → (m.back c < m.corners) × (m.forth (m.back c) ≡ c) × (m.face (m.back c) ≡ m.face c)
  pub forths : (c : ℕ) → c < m.corners → (m.forth c < m.corners) × (m.back (m.forth c) ≡ c) × (m.face (m.forth c) ≡ m.face c)
  pub joined : (c : ℕ) → c < m.corners → Runs m (m.side c) (m.vertex c) (m.vertex (m.forth c))
  -- an edge lies in two faces at most; a face has 8 corners at most; a vertex has 8 edges and 8 corners at most
  pub edge_corners : (e : ℕ) → e < m.edges → count (λ c. nat_eq (m.side c) e) m.corners ≤ 2
  pub face_corners : (f : ℕ) → f < m.faces → count (λ c. nat_eq (m.face c) f) m.corners ≤ 8
  pub vertex_edges : (v : ℕ) → v < m.vertices → count (λ e. touches m e v) m.edges ≤ 8
  pub vertex_corners : (v : ℕ) → v < m.vertices → count (λ c. nat_eq (m.vertex c) v) m.corners ≤ 8
  pub dimensions : (v : ℕ) → v < m.vertices → m.dimension v ≤ 2

-- What every level of a surface keeps besides: each edge lies in a face, and each vertex and face has a corner.
pub record Covered (m : Level) : Type 0 where
  pub used_edges : (e : ℕ) → e < m.edges → 1 ≤ count (λ c. nat_eq (m.side c) e) m.corners
  pub used_faces : (f : ℕ) → f < m.faces → 1 ≤ count (λ c. nat_eq (m.face c) f) m.corners
  pub used_vertices : (v : ℕ) → v < m.vertices → 1 ≤ count (λ c. nat_eq (m.vertex c) v) m.corners
