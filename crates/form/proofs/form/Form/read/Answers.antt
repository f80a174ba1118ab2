use Rattle.std.proofs.Common.{refl, ap, arith}
use Rattle.std.proofs.lemmas.List.{get_or_read}
use Rattle.lifting.specs.HalfSteps.{rule}
use Rattle.history.specs.declared.answer.Reply.TheVariants.{Value}
use Rattle.history.specs.declared.call.Request.TheVariants.{Read}
use Rattle.history.specs.Memory.{lending}
use Rattle.history.proofs.Serving.{served_kept}
use Rattle.form.proofs.form.Form.read.Goals as goal

pub returns : goal.returns
returns g c =
    let m = g.H.Hierarchy.meaning c.args.self.now.setting.hierarchy.now in
    let r = rule g.S.Scheme g.S.Value.ValueKind c.args.self.now.setting.scheme.now in
    let mem = lending c.args.self.now.state c.args.points.now c.args.slots.now in
    let ok = c.in_ok-check.ensures.passed in
    let value = get_or_read c.args.points.now c.args.place c.index-points-place.result (omega (arith, ok.points, ok.allowed)) c.index-points-place.is r.zero in
    served_kept m r mem (g.H.Hierarchy.lawful c.args.self.now.setting.hierarchy.now) g.S.Value.ValueKind.laws (Read c.args.place) _ _ ok refl (ap (λ v. Value v) value) refl
