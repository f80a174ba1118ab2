use Rattle.std.proofs.Common.{◌≡◌, take, map}
use Rattle.lifting.specs.HalfSteps.{rule, halves, lifts}
use Rattle.lifting.specs.declared.way.Way.TheVariants.{Down, Up}
use Rattle.lifting.proofs.transform.Transform.cross.Given as goal

abbrev pub invariant-loop-step : goal.invariant-loop-step
invariant-loop-step g l =
    let m = g.H.Hierarchy.meaning l.initial.self.h.now in
    let r = rule g.S.Scheme g.S.Value.ValueKind l.initial.self.s.now in
    record {
      hierarchy : l.self.h ≡ l.initial.self.h;
      scheme : l.self.s ≡ l.initial.self.s;
      place : l.self.values.ghost_name ≡ l.initial.self.values.ghost_name;
      values : l.self.values.now ≡ halves m r Down l.level (take l.step-index lifts) l.initial.self.values.now;
    }

abbrev pub invariant-loop-step-2 : goal.invariant-loop-step-2
invariant-loop-step-2 g l =
    let m = g.H.Hierarchy.meaning l.initial.self.h.now in
    let r = rule g.S.Scheme g.S.Value.ValueKind l.initial.self.s.now in
    record {
      hierarchy : l.self.h ≡ l.initial.self.h;
      scheme : l.self.s ≡ l.initial.self.s;
      place : l.self.values.ghost_name ≡ l.initial.self.values.ghost_name;
      values : l.self.values.now ≡ halves m r Up l.level (map (λ x. x.now) l.yielded) l.initial.self.values.now;
    }
