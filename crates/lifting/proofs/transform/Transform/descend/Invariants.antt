use Rattle.std.proofs.Common.{◌≡◌}
use Rattle.lifting.specs.HalfSteps.{rule}
use Rattle.lifting.specs.Travel.{descended}
use Rattle.lifting.proofs.transform.Transform.descend.Given as goal

abbrev pub invariant-loop-level : goal.invariant-loop-level
invariant-loop-level g l =
    let m = g.H.Hierarchy.meaning l.initial.self.h.now in
    let r = rule g.S.Scheme g.S.Value.ValueKind l.initial.self.s.now in
    record {
      hierarchy : l.self.h ≡ l.initial.self.h;
      scheme : l.self.s ≡ l.initial.self.s;
      place : l.self.values.ghost_name ≡ l.initial.self.values.ghost_name;
      values : descended m r l.level l.to l.self.values.now ≡ descended m r l.from l.to l.initial.self.values.now;
    }
