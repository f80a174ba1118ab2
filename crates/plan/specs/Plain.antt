-- What the levels of a base keep besides: corners stand face after face, a face meets a vertex or an edge once, and its corners are numbered round it.
use Rattle.std.specs.Prelude.{◌≡◌, ℕ, ◌+◌, ◌-◌, ◌<◌, ◌≤◌, cond, length, ◌==◌}
use Rattle.std.specs.List.{range_with_len}
use Rattle.plan.specs.Sorting.{sorted}
use Rattle.levels.specs.Level.{Level}

-- how many corners lie in faces before face f
abbrev pub first_corner : Level → ℕ → ℕ
first_corner m f = length (sorted m.face f (range_with_len 0 m.corners))

pub record Plain (m : Level) : Type 0 where
  pub ordered : (c : ℕ) → c + 1 < m.corners → m.face c ≤ m.face (c + 1)
  pub vertices_once : (c d : ℕ) → c < m.corners → d < m.corners → m.face c ≡ m.face d → m.vertex c ≡ m.vertex d → c ≡ d
  pub sides_once : (c d : ℕ) → c < m.corners → d < m.corners → m.face c ≡ m.face d → m.side c ≡ m.side d → c ≡ d
  pub backs : (c : ℕ) → c < m.corners → m.back c ≡ cond (c == first_corner m (m.face c)) (first_corner m (m.face c + 1) - 1) (c - 1)
