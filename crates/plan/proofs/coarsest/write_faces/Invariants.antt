use Rattle.std.proofs.Common.{◌≡◌, ℕ, ◌+◌, ◌<◌, get_or}
use Rattle.base.specs.Bases.{shape}
use Rattle.levels.specs.Surfaces.{surface}
use Rattle.plan.specs.Sorting.{Keeps}
use Rattle.plan.proofs.Coarse.{starts}
use Rattle.plan.proofs.coarsest.write_faces.Given as goal

abbrev pub invariant-loop-face : goal.invariant-loop-face
invariant-loop-face l = (l.at ≡ l.initial.at + starts (shape l.base).faces l.face) × ((k : ℕ) → k < starts (shape l.base).faces l.face → get_or l.table (l.initial.at + k) 0 ≡ (surface (shape l.base)).face k) × Keeps l.initial.table l.table l.initial.at l.at
