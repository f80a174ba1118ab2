use Rattle.std.proofs.Common.{◌≡◌}
use Rattle.lifting.specs.HalfSteps.{rule}
use Rattle.lifting.proofs.Changing.{partly}
use Rattle.lifting.proofs.transform.Transform.change.Given as goal

abbrev pub invariant-loop-number : goal.invariant-loop-number
invariant-loop-number g l = l.values ≡ partly (g.H.Hierarchy.meaning l.h) (rule g.S.Scheme g.S.Value.ValueKind l.s) l.way l.step l.level l.class l.number l.initial.values
