-- When a block is settled: its lists hold what a question asks for, and no longer the half edges and corners that it is at.
use Rattle.std.specs.Prelude.{◌≡◌, ℕ, ◌+◌, ◌*◌, ◌/◌, ◌<◌, min, max, List}
use Rattle.levels.specs.Level.{Level}
use Rattle.plan.specs.declared.block.Block.{Block}
use Rattle.plan.specs.declared.block.Array.{Array}
use Rattle.plan.specs.declared.block.Array.TheVariants.{Ends, VertexHalfEnds, VertexHalves, VertexCornerEnds, VertexCorners, EdgeCornerEnds, EdgeCorners, FaceEnds, FaceByVertex, FaceByEdge, Curves, Dimensions}
use Rattle.plan.specs.Decoded.{decoded}
use Rattle.plan.specs.Layout.{begins, rooms}
use Rattle.plan.specs.Loaded.{at}
use Rattle.plan.specs.Written.{Standing}

-- the first numbers of an array have been turned
abbrev pub Turned : (ℕ → ℕ) → List ℕ → List ℕ → Block → Array → ℕ → Type 0
Turned turn before after b a n = (i : ℕ) → i < n → at after (begins b a) i ≡ turn (at before (begins b a) i)

-- an array is as it was
abbrev pub Same : List ℕ → List ℕ → Block → Array → Type 0
Same before after b a = (i : ℕ) → i < rooms b a → at after (begins b a) i ≡ at before (begins b a) i

-- the ends of each edge are in ascending order
pub record Ascending (before after : List ℕ) (b : Block) : Type 0 where
  pub lower : (e : ℕ) → e < b.edges → at after (begins b Ends) (2 * e) ≡ min (at before (begins b Ends) (2 * e)) (at before (begins b Ends) (2 * e + 1))
  pub higher : (e : ℕ) → e < b.edges → at after (begins b Ends) (2 * e + 1) ≡ max (at before (begins b Ends) (2 * e)) (at before (begins b Ends) (2 * e + 1))

-- the block was settled from one that stood for the level
pub record Settled (t : List ℕ) (b : Block) (m : Level) : Type 0 where
  pub before : List ℕ
  pub standing : Standing before b m
  pub ends : Ascending before t b
  pub vertex_edges : Turned (λ h. h / 2) before t b VertexHalves (2 * b.edges)
  pub vertex_faces : Turned (decoded before b).face before t b VertexCorners b.corners
  pub edge_faces : Turned (decoded before b).face before t b EdgeCorners b.corners
  pub face_vertices : Turned (decoded before b).vertex before t b FaceByVertex b.corners
  pub face_edges : Turned (decoded before b).side before t b FaceByEdge b.corners
  pub vertex_half_ends : Same before t b VertexHalfEnds
  pub vertex_corner_ends : Same before t b VertexCornerEnds
  pub edge_corner_ends : Same before t b EdgeCornerEnds
  pub face_ends : Same before t b FaceEnds
  pub curves : Same before t b Curves
  pub dimensions : Same before t b Dimensions
