use Rattle.std.proofs.Common.{◌≡◌}
use Rattle.lifting.specs.HalfSteps.{rule}
use Rattle.lifting.specs.Travel.{climbed}
use Rattle.lifting.proofs.transform.Transform.climb.Given as goal

abbrev pub invariant-loop-level : goal.invariant-loop-level
invariant-loop-level g l =
    let m = g.H.Hierarchy.meaning l.initial.self.h.now in
    let r = rule g.S.Scheme g.S.Value.ValueKind l.initial.self.s.now in
    record {
      hierarchy : l.self.h ≡ l.initial.self.h;
      scheme : l.self.s ≡ l.initial.self.s;
      place : l.self.values.ghost_name ≡ l.initial.self.values.ghost_name;
      values : l.self.values.now ≡ climbed m r l.from l.level l.initial.self.values.now;
    }
