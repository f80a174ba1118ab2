-- When a block stands for a level.
use Rattle.std.specs.Prelude.{◌≡◌, ℕ, ◌+◌, ◌-◌, ◌*◌, ◌%◌, ◌<◌, ◌≤◌, cond, ◌⊎◌, List, length, ◌==◌, slice_index}
use Rattle.std.specs.List.{range_with_len}
use Rattle.std.specs.Borrow.{Bor}
use Rattle.std.specs.Fn.{Shared}
use Rattle.plan.specs.Sorting.{sorted}
use Rattle.levels.specs.Level.{Level}
use Rattle.levels.specs.Sound.{Sound, Covered}
use Rattle.plan.specs.declared.block.Block.{Block}
use Rattle.plan.specs.declared.block.Array.{Array}
use Rattle.plan.specs.declared.block.Array.TheVariants.{Ends, Halves, Faces, VertexHalfEnds, VertexHalves, VertexCornerEnds, VertexCorners, EdgeCornerEnds, EdgeCorners, FaceEnds, FaceByVertex, FaceByEdge, Curves, Dimensions}
use Rattle.plan.specs.Decoded.{end_at, corner_half, mark}
use Rattle.plan.specs.Giving.{Gives}
use Rattle.plan.specs.Layout.{begins, rooms, reads}
use Rattle.plan.specs.Plain.{Plain}

-- the part of the table from low to high lies outside this array
abbrev pub Clear : Block → Array → ℕ → ℕ → Type 0
Clear b a low high = (begins b a + rooms b a ≤ low) ⊎ (high ≤ begins b a)

-- it lies outside the arrays that stand for a level
pub record Clears (b : Block) (low high : ℕ) : Type 0 where
  pub ends : Clear b Ends low high
  pub halves : Clear b Halves low high
  pub faces : Clear b Faces low high
  pub face_ends : Clear b FaceEnds low high
  pub curves : Clear b Curves low high
  pub dimensions : Clear b Dimensions low high

-- the block has the level's counts, and its arrays have room
pub record Counts (b : Block) (m : Level) : Type 0 where
  pub vertices : b.vertices ≡ m.vertices
  pub edges : b.edges ≡ m.edges
  pub faces : b.faces ≡ m.faces
  pub corners : b.corners ≡ m.corners
  pub vertex_room : m.vertices ≤ m.corners
  pub edge_room : m.edges ≤ m.corners
  pub face_room : m.faces ≤ m.corners

-- the half edges end where the level's edges do
pub record Ended (t : List ℕ) (b : Block) (m : Level) : Type 0 where
  pub counts : Counts b m
  pub ends : (h : ℕ) → h < 2 * m.edges → reads t b Ends h ≡ end_at m h

-- the arrays say what the level's edges, corners and vertices are
pub record Shows (t : List ℕ) (b : Block) (m : Level) : Type 0 where
  pub counts : Counts b m
  pub ends : (h : ℕ) → h < 2 * m.edges → reads t b Ends h ≡ end_at m h
  pub halves : (c : ℕ) → c < m.corners → reads t b Halves c ≡ corner_half m c
  pub faces : (c : ℕ) → c < m.corners → reads t b Faces c ≡ m.face c
  pub curves : (e : ℕ) → e < m.edges → reads t b Curves e ≡ mark m e
  pub dimensions : (v : ℕ) → v < m.vertices → reads t b Dimensions v ≡ m.dimension v

-- the arrays hold these items by key, and where those of each key end
pub record Grouped (ends list key : ℕ → ℕ) (n : ℕ) (xs : List ℕ) : Type 0 where
  pub ended : (k : ℕ) → k < n → ends k ≡ length (sorted key (k + 1) xs)
  pub listed : (i : ℕ) → i < length (sorted key n xs) → list i ≡ slice_index (sorted key n xs) i

abbrev pub corners_by_vertex : Level → List ℕ
corners_by_vertex m = sorted m.vertex m.vertices (range_with_len 0 m.corners)

abbrev pub corners_by_edge : Level → List ℕ
corners_by_edge m = sorted m.side m.edges (range_with_len 0 m.corners)

-- the half edges are listed by vertex
abbrev pub HalvesListed : List ℕ → Block → Level → Type 0
HalvesListed t b m = Grouped (reads t b VertexHalfEnds) (reads t b VertexHalves) (end_at m) m.vertices (range_with_len 0 (2 * m.edges))

-- the arrays list the half edges and corners of vertices, the corners of edges, and those of faces by vertex and by edge
pub record Lists (t : List ℕ) (b : Block) (m : Level) : Type 0 where
  pub vertex_halves : HalvesListed t b m
  pub vertex_corners : Grouped (reads t b VertexCornerEnds) (reads t b VertexCorners) m.vertex m.vertices (range_with_len 0 m.corners)
  pub edge_corners : Grouped (reads t b EdgeCornerEnds) (reads t b EdgeCorners) m.side m.edges (range_with_len 0 m.corners)
  pub by_vertex : Grouped (reads t b FaceEnds) (reads t b FaceByVertex) m.face m.faces (corners_by_vertex m)
  pub by_edge : Grouped (reads t b FaceEnds) (reads t b FaceByEdge) m.face m.faces (corners_by_edge m)

-- where the corners may be sorted to: behind the arrays that stand for the level, and before the ends of faces
pub record Sortable (b : Block) (ends : Array) (count : ℕ) (out : Array) : Type 0 where
  pub behind : begins b VertexHalfEnds ≤ begins b ends
  pub ends_first : begins b ends + count ≤ begins b out
  pub before : begins b out + b.corners ≤ begins b FaceEnds
  pub few : count ≤ b.corners
  pub end_room : count ≤ rooms b ends
  pub out_room : b.corners ≤ rooms b out

-- what a closure gives for each corner, where the keys of a sort stand, is this key
pub record Keyed {F : Type 0} (g : Shared F (Bor (List ℕ) × (ℕ × Unit {0})) ℕ) (number : F) (t : List ℕ) (b : Block) (key : ℕ → ℕ) (n : ℕ) : Type 0 where
  pub same : (c r : ℕ) → c < b.corners → Gives g number t (begins b FaceByVertex) c r → r ≡ key c
  pub small : (c : ℕ) → c < b.corners → key c < n

-- where the sorted corners may be sorted by face: from an array before the ends of faces to one behind them
pub record Regrouped (b : Block) (order out : Array) : Type 0 where
  pub before : begins b order + b.corners ≤ begins b FaceEnds
  pub behind : begins b FaceEnds + b.corners ≤ begins b out
  pub inside : begins b out + b.corners ≤ begins b Curves
  pub order_room : b.corners ≤ rooms b order
  pub out_room : b.corners ≤ rooms b out

-- the array holds these corners, and each corner's face is its key
pub record Lined (t : List ℕ) (b : Block) (order : Array) (key : ℕ → ℕ) (xs : List ℕ) : Type 0 where
  pub many : length xs ≡ b.corners
  pub listed : (i : ℕ) → i < length xs → reads t b order i ≡ slice_index xs i
  pub below : (i : ℕ) → i < length xs → slice_index xs i < b.corners
  pub keyed : (c : ℕ) → c < b.corners → reads t b Faces c ≡ key c
  pub small : (c : ℕ) → c < b.corners → key c < b.faces

-- the block of the next finer level stands behind this one
abbrev pub next : Block → Block
next b = record { at = b.at + 16 * b.corners; vertices = b.vertices + b.edges + b.faces; edges = 2 * b.edges + b.corners; faces = b.corners; corners = 4 * b.corners }

-- the block stands for the level and lists it
pub record Standing (t : List ℕ) (b : Block) (m : Level) : Type 0 where
  pub shows : Shows t b m
  pub lists : Lists t b m
  pub sound : Sound m
  pub covered : Covered m
  pub plain : Plain m

-- the other half of the same edge
abbrev pub twin : ℕ → ℕ
twin h = cond (h % 2 == 0) (h + 1) (h - 1)
