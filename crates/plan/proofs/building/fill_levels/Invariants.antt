use Rattle.std.proofs.Common.{◌+◌}
use Rattle.mesh.proofs.Certain.{rules_from}
use Rattle.base.specs.Bases.{shape}
use Rattle.levels.specs.Surfaces.{surface}
use Rattle.plan.specs.Planning.{needs}
use Rattle.plan.specs.Sorting.{Keeps}
use Rattle.plan.proofs.Blocks.{Building}
use Rattle.plan.proofs.building.fill_levels.Given as goal

abbrev pub invariant-loop-block : goal.invariant-loop-block
invariant-loop-block l = Building (shape l.base) (rules_from (shape l.base) l.base.rules) l.table l.block-index × Keeps l.initial.table l.table 0 (needs (surface (shape l.base)) (l.block-index + 1))
