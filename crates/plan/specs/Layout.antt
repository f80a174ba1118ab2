-- The block of a level: sixteen parts of as many numbers as the level has corners.
use Rattle.std.specs.Prelude.{ℕ, ◌+◌, ◌*◌, cond, List, nat_lt, slice_index}
use Rattle.plan.specs.declared.block.Block.{Block}
use Rattle.plan.specs.declared.block.Array.{Array}
use Rattle.plan.specs.declared.block.Array.TheVariants.{Ends, Halves, Faces, VertexHalfEnds, VertexHalves, VertexCornerEnds, VertexCorners, EdgeCornerEnds, EdgeCorners, FaceEnds, FaceByVertex, FaceByEdge, Curves, Dimensions}

-- where an array begins in the table
abbrev pub begins : Block → Array → ℕ
begins b Ends = b.at
begins b Halves = b.at + 2 * b.corners
begins b Faces = b.at + 3 * b.corners
begins b VertexHalfEnds = b.at + 4 * b.corners
begins b VertexHalves = b.at + 5 * b.corners
begins b VertexCornerEnds = b.at + 7 * b.corners
begins b VertexCorners = b.at + 8 * b.corners
begins b EdgeCornerEnds = b.at + 9 * b.corners
begins b EdgeCorners = b.at + 10 * b.corners
begins b FaceEnds = b.at + 11 * b.corners
begins b FaceByVertex = b.at + 12 * b.corners
begins b FaceByEdge = b.at + 13 * b.corners
begins b Curves = b.at + 14 * b.corners
begins b Dimensions = b.at + 15 * b.corners

-- how many numbers it has room for
abbrev pub rooms : Block → Array → ℕ
rooms b Ends = 2 * b.corners
rooms b Halves = b.corners
rooms b Faces = b.corners
rooms b VertexHalfEnds = b.corners
rooms b VertexHalves = 2 * b.corners
rooms b VertexCornerEnds = b.corners
rooms b VertexCorners = b.corners
rooms b EdgeCornerEnds = b.corners
rooms b EdgeCorners = b.corners
rooms b FaceEnds = b.corners
rooms b FaceByVertex = b.corners
rooms b FaceByEdge = b.corners
rooms b Curves = b.corners
rooms b Dimensions = b.corners

-- the numbers of a block's arrays; 0 past an array
abbrev pub reads : List ℕ → Block → Array → ℕ → ℕ
reads t b a i = cond (nat_lt i (rooms b a)) (slice_index t (begins b a + i)) 0
