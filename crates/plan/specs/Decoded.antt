-- The level that a block's arrays stand for.
use Rattle.std.specs.Prelude.{ℕ, ◌+◌, ◌-◌, ◌*◌, ◌/◌, ◌%◌, cond, List, ◌==◌}
use Rattle.levels.specs.Level.{Level}
use Rattle.levels.specs.Finer.{half_at}
use Rattle.plan.specs.declared.block.Block.{Block}
use Rattle.plan.specs.declared.block.Array.TheVariants.{Ends, Halves, Faces, FaceEnds, Curves, Dimensions}
use Rattle.plan.specs.declared.view.View.{View}
use Rattle.plan.specs.Layout.{reads}

-- where list k begins: where the one before it ends
abbrev pub start_of : (ℕ → ℕ) → ℕ → ℕ
start_of ends k = cond (k == 0) 0 (ends (k - 1))

-- by its arrays: the half edges' vertices (2e is edge e at its tail, 2e + 1 at its head), the corners' half edges, the corners' faces,
-- the ends of the faces' corners, marks, dimensions
abbrev pub of_arrays : Block → (ℕ → ℕ) → (ℕ → ℕ) → (ℕ → ℕ) → (ℕ → ℕ) → (ℕ → ℕ) → (ℕ → ℕ) → Level
of_arrays b at half face ends curve dim = record {
  vertices = b.vertices;
  edges = b.edges;
  faces = b.faces;
  corners = b.corners;
  tail = λ e. at (2 * e);
  head = λ e. at (2 * e + 1);
  face = face;
  vertex = λ c. at (half c);
  side = λ c. half c / 2;
  back = λ c. cond (c == start_of ends (face c)) (ends (face c) - 1) (c - 1);
  forth = λ c. cond (c + 1 == ends (face c)) (start_of ends (face c)) (c + 1);
  curve = λ e. (curve e == 1);
  dimension = dim;
}

abbrev pub decoded : List ℕ → Block → Level
decoded t b = of_arrays b (reads t b Ends) (reads t b Halves) (reads t b Faces) (reads t b FaceEnds) (reads t b Curves) (reads t b Dimensions)

-- what a view shows
abbrev pub shown : View → Level
shown v = decoded v.table.now v.block

-- the numbers that stand for a level
abbrev pub end_at : Level → ℕ → ℕ
end_at m h = cond (h % 2 == 0) (m.tail (h / 2)) (m.head (h / 2))

abbrev pub corner_half : Level → ℕ → ℕ
corner_half m c = half_at m (m.side c) (m.vertex c)

abbrev pub mark : Level → ℕ → ℕ
mark m e = cond (m.curve e) 1 0
