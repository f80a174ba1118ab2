use Rattle.std.proofs.Common.{refl}
use Rattle.lifting.specs.HalfSteps.{rule}
use Rattle.history.specs.declared.call.Request.TheVariants.{Synthesise}
use Rattle.history.specs.Memory.{lending}
use Rattle.history.proofs.Serving.{served_kept}
use Rattle.form.proofs.form.Form.synthesise.Goals as goal

pub returns-clause-call : goal.returns-clause-call
returns-clause-call g c =
    let m = g.H.Hierarchy.meaning c.args.self.now.setting.hierarchy.now in
    let r = rule g.S.Scheme g.S.Value.ValueKind c.args.self.now.setting.scheme.now in
    let mem = lending c.args.self.now.state c.args.points.now c.args.slots.now in
    rw c.go.ensures.result (served_kept m r mem (g.H.Hierarchy.lawful c.args.self.now.setting.hierarchy.now) g.S.Value.ValueKind.laws Synthesise _ _ c.in_ok-check.ensures.passed refl refl (λ i. lending (c.go.ensures.state i) (c.go.ensures.points i) c.args.slots.now))
