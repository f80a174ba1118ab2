-- What a survey of a base finds before anything is written.
use Rattle.std.specs.Prelude.{◌≡◌, ℕ, ◌≤◌, List, Ok}
use Rattle.mesh.specs.Shape.{Shape}
use Rattle.levels.specs.Finer.{level}
use Rattle.levels.specs.Surfaces.{surface}
use Rattle.plan.specs.declared.block.Block.{Block}
use Rattle.plan.specs.Planning.{need, needs, block_of, first_block, block_at}

-- these blocks are where the levels stand, and there are neither too many levels nor too many vertices
pub record Surveyed (s : Shape) (levels : ℕ) (bs : List Block) : Type 0 where
  pub some : 1 ≤ levels
  pub few : levels ≤ 5
  pub laid : (j : ℕ) → j ≤ levels → block_of bs j ≡ block_at (first_block s) j
  pub fits : (level (surface s) levels).vertices ≤ 65536
  pub needed : need (surface s) levels ≡ Ok (needs (surface s) levels)
