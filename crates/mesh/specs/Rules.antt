-- The rules that every base keeps.
use Rattle.std.specs.Prelude.{◌≡◌, ℕ, ◌<◌, ◌≤◌, Bool, true, false, cond, not, ◌&&◌, List, [], ◌∷◌, length, ◌==◌, nat_lt, slice_index, slice_index_or}
use Rattle.std.specs.List.{AllByRecursion}
use Rattle.mesh.specs.Shape.{Shape, edges, uses, degree, occurs, corners, curve_edges, nowhere}

abbrev pub distinct : List ℕ → Bool
distinct [] = true
distinct (x ∷ xs) = not (occurs x xs) && distinct xs

abbrev pub all_below : ℕ → List ℕ → Bool
all_below n [] = true
all_below n (x ∷ xs) = nat_lt x n && all_below n xs

-- corners that are vertices, each once
abbrev pub proper : ℕ → List ℕ → Bool
proper vertices cs = all_below vertices cs && distinct cs

-- a vertex of dimension 2 has no curve edge, one of dimension 1 has two, one of dimension 0 any number
abbrev pub fits : ℕ → ℕ → Bool
fits dim curve-count = cond (dim == 2) (curve-count == 0) (cond (dim == 1) (curve-count == 2) true)

pub record Polygon (vertices : ℕ) (cs : List ℕ) : Type 0 where
  pub least : 3 ≤ length cs
  pub most : length cs ≤ 8
  pub proper : proper vertices cs ≡ true

pub record Rules (s : Shape) : Type 0 where
  pub some_face : 0 < length s.faces
  pub most_vertices : length s.dims ≤ 256
  pub most_faces : length s.faces ≤ 256
  pub most_edges : length (edges s.faces) ≤ 512
  pub dimensions : AllByRecursion (λ d. d ≤ 2) s.dims
  pub polygons : AllByRecursion (Polygon (length s.dims)) s.faces
  -- one mark for each edge
  pub marks : length s.curves ≡ length (edges s.faces)
  -- an edge lies in one or two faces, and is a curve where it lies in one
  pub shared : (e : ℕ) → e < length (edges s.faces) → (1 ≤ uses s.faces (slice_index_or (edges s.faces) e nowhere)) × (uses s.faces (slice_index_or (edges s.faces) e nowhere) ≤ 2)
  pub rim : (e : ℕ) → e < length (edges s.faces) → uses s.faces (slice_index_or (edges s.faces) e nowhere) ≡ 1 → slice_index_or s.curves e false ≡ true
  -- a vertex lies in a face and has at most 8 edges, and its dimension fits its curve edges
  pub in_face : (v : ℕ) → v < length s.dims → occurs v (corners s.faces) ≡ true
  pub valence : (v : ℕ) → v < length s.dims → degree (edges s.faces) v ≤ 8
  pub fitting : (v : ℕ) → v < length s.dims → fits (slice_index s.dims v) (degree (curve_edges s) v) ≡ true
