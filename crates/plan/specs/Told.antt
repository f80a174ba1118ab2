-- What a block tells before it is settled, half edges and corners still: lists, marks and dimensions.
use Rattle.std.specs.Prelude.{ℕ, ◌+◌, ◌-◌, ◌*◌, ◌/◌, Bool, cond, ◌&&◌, List, [], ◌∷◌, map, ◌==◌, nat_lt}
use Rattle.std.specs.List.{range_with_len}
use Rattle.hierarchy.specs.declared.link.Link.{Link}
use Rattle.hierarchy.specs.declared.link.Link.TheVariants.{EdgeEnds, EdgeFaces, FaceVertices, FaceEdges, VertexEdges, VertexFaces}
use Rattle.plan.specs.declared.block.Block.{Block}
use Rattle.plan.specs.declared.block.Array.TheVariants.{Ends, Halves, Faces, VertexHalfEnds, VertexHalves, VertexCornerEnds, VertexCorners, EdgeCornerEnds, EdgeCorners, FaceEnds, FaceByVertex, FaceByEdge, Curves, Dimensions}
use Rattle.plan.specs.Decoded.{start_of}
use Rattle.plan.specs.Layout.{reads}

-- list k of those that stand in a row, by where each ends
abbrev pub run : (ℕ → ℕ) → (ℕ → ℕ) → ℕ → List ℕ
run ends list k = map (λ i. list (start_of ends k + i)) (range_with_len 0 (ends k - start_of ends k))

-- two numbers, ascending
abbrev pub ascending : ℕ → ℕ → List ℕ
ascending x y = cond (nat_lt x y) (x ∷ y ∷ []) (y ∷ x ∷ [])

abbrev pub told : List ℕ → Block → Link → ℕ → List ℕ
told t b EdgeEnds e = cond (nat_lt e b.edges) (ascending (reads t b Ends (2 * e)) (reads t b Ends (2 * e + 1))) []
told t b EdgeFaces e = cond (nat_lt e b.edges) (map (reads t b Faces) (run (reads t b EdgeCornerEnds) (reads t b EdgeCorners) e)) []
told t b FaceVertices f = cond (nat_lt f b.faces) (map (λ c. reads t b Ends (reads t b Halves c)) (run (reads t b FaceEnds) (reads t b FaceByVertex) f)) []
told t b FaceEdges f = cond (nat_lt f b.faces) (map (λ c. reads t b Halves c / 2) (run (reads t b FaceEnds) (reads t b FaceByEdge) f)) []
told t b VertexEdges v = cond (nat_lt v b.vertices) (map (λ h. h / 2) (run (reads t b VertexHalfEnds) (reads t b VertexHalves) v)) []
told t b VertexFaces v = cond (nat_lt v b.vertices) (map (reads t b Faces) (run (reads t b VertexCornerEnds) (reads t b VertexCorners) v)) []

abbrev pub told_curve : List ℕ → Block → ℕ → Bool
told_curve t b e = nat_lt e b.edges && reads t b Curves e == 1

abbrev pub told_dimension : List ℕ → Block → ℕ → ℕ
told_dimension t b v = cond (nat_lt v b.vertices) (reads t b Dimensions v) 0
