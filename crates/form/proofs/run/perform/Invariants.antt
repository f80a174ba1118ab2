use Rattle.std.proofs.Common.{◌≡◌, take}
use Rattle.lifting.specs.HalfSteps.{rule}
use Rattle.history.specs.Memory.{lending}
use Rattle.history.specs.Promise.{lent_to, opened}
use Rattle.history.proofs.Running.{Running}
use Rattle.form.proofs.run.perform.Given as goal

-- the form is on the hierarchy and the scheme handed in, and the calls so far have been made
abbrev pub invariant-loop-i : goal.invariant-loop-i
invariant-loop-i g l =
    let m = g.H.Hierarchy.meaning l.h in
    let r = rule g.S.Scheme g.S.Value.ValueKind l.s in
    let before = lent_to l.initial.points l.initial.slots l.initial.answers in
    (l.form.setting.hierarchy.now ≡ l.h) × (l.form.setting.scheme.now ≡ l.s) × Running m r (opened l.depth before) (take l.i l.calls) before (lending l.form.state l.points l.slots) l.answers
