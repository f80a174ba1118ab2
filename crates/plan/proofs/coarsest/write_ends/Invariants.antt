use Rattle.std.proofs.Common.{◌*◌}
use Rattle.base.specs.Bases.{shape}
use Rattle.levels.specs.Surfaces.{surface}
use Rattle.plan.specs.Decoded.{end_at}
use Rattle.plan.proofs.Places.{Wrote}
use Rattle.plan.proofs.coarsest.write_ends.Given as goal

abbrev pub invariant-loop-e : goal.invariant-loop-e
invariant-loop-e l = Wrote (end_at (surface (shape l.base))) l.initial.table l.table l.at (2 * l.e)
