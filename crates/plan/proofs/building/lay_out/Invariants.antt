use Rattle.std.proofs.Common.{◌≡◌, ℕ, ◌≤◌, length}
use Rattle.base.specs.Bases.{shape}
use Rattle.plan.specs.Planning.{first_block, block_at, block_of}
use Rattle.plan.proofs.building.lay_out.Given as goal

abbrev pub invariant-loop-j : goal.invariant-loop-j
invariant-loop-j l = (length l.blocks ≡ 6) × ((i : ℕ) → i ≤ l.j → block_of l.blocks i ≡ block_at (first_block (shape l.base)) i)
