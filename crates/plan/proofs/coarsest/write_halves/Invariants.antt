use Rattle.base.specs.Bases.{shape}
use Rattle.levels.specs.Surfaces.{surface}
use Rattle.plan.specs.Decoded.{corner_half}
use Rattle.plan.proofs.Places.{Wrote}
use Rattle.plan.proofs.coarsest.write_halves.Given as goal

abbrev pub invariant-loop-c : goal.invariant-loop-c
invariant-loop-c l = Wrote (corner_half (surface (shape l.base))) l.initial.table l.table l.at l.c
