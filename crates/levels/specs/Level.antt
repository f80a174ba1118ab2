-- A level of subdivision by its edges and the corners of its faces.
use Rattle.std.specs.Prelude.{ℕ, Bool}

pub record Level : Type 0 where
  pub vertices : ℕ
  pub edges : ℕ
  pub faces : ℕ
  -- the corners of all faces, numbered face after face
  pub corners : ℕ
  -- where an edge runs from, and to
  pub tail : ℕ → ℕ
  pub head : ℕ → ℕ
  -- of a corner: its face, its vertex, the edge to the next corner of the face, and the corners before and after it
  pub face : ℕ → ℕ
  pub vertex : ℕ → ℕ
  pub side : ℕ → ℕ
  pub back : ℕ → ℕ
  pub forth : ℕ → ℕ
  -- whether an edge is a curve, and a vertex's dimension
  pub curve : ℕ → Bool
  pub dimension : ℕ → ℕ
