use Rattle.std.proofs.Common.{◌+◌, refl}
use Rattle.lifting.specs.HalfSteps.{rule}
use Rattle.history.specs.declared.call.Request.TheVariants.{Move}
use Rattle.history.specs.Histories.{listed}
use Rattle.history.specs.Memory.{lending, surviving}
use Rattle.history.proofs.Serving.{served_kept}
use Rattle.form.proofs.form.Form.move_by.Goals as goal

pub returns-clause-call : goal.returns-clause-call
returns-clause-call g c =
    let m = g.H.Hierarchy.meaning c.args.self.now.setting.hierarchy.now in
    let r = rule g.S.Scheme g.S.Value.ValueKind c.args.self.now.setting.scheme.now in
    let st = c.args.self.now.state in
    let mem = lending st c.args.points.now c.args.slots.now in
    served_kept m r mem (g.H.Hierarchy.lawful c.args.self.now.setting.hierarchy.now) g.S.Value.ValueKind.laws (Move c.args.place c.args.amount) _ _ c.in_ok-check.ensures.passed refl refl (λ i. lending (surviving st (st.survivors + 1)) (c.add.ensures i) (listed st (Move c.args.place c.args.amount) c.args.slots.now))
