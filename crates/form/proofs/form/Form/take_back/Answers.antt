use Rattle.std.proofs.Common.{◌≡◌, ◌-◌, length, ap, ◌∙◌, arith, length-set}
use Rattle.std.proofs.lemmas.Result.{err_from_is_err_and}
use Rattle.lifting.specs.HalfSteps.{rule}
use Rattle.lifting.specs.Travel.{travelled}
use Rattle.lifting.proofs.Journeys.{length_travelled}
use Rattle.history.specs.declared.answer.Reply.TheVariants.{Count}
use Rattle.history.specs.declared.call.Request.TheVariants.{TakeBack}
use Rattle.history.specs.Memory.{lending, surviving}
use Rattle.history.proofs.Serving.{three_steps, slot_refused, served_kept}
use Rattle.form.proofs.form.Form.take_back.Goals as goal

pub returns-in_err-last-clause-call : goal.returns-in_err-last-clause-call
returns-in_err-last-clause-call g c =
    let p = err_from_is_err_and c.from_residual-in_err-last.result c.from_residual-in_err-last.ensures.1 in
    let m = g.H.Hierarchy.meaning c.args.self.now.setting.hierarchy.now in
    let r = rule g.S.Scheme g.S.Value.ValueKind c.args.self.now.setting.scheme.now in
    let mem = lending c.args.self.now.state c.args.points.now c.args.slots.now in
    rw (p.1, p.2) (slot_refused m r mem (g.H.Hierarchy.lawful c.args.self.now.setting.hierarchy.now) g.S.Value.ValueKind.laws TakeBack _ c.in_ok-check.ensures.passed c.in_err-last.ensures.verdict)

pub add-requires : goal.add-requires
add-requires g c =
    let m = g.H.Hierarchy.meaning c.args.self.now.setting.hierarchy.now in
    let r = rule g.S.Scheme g.S.Value.ValueKind c.args.self.now.setting.scheme.now in
    let long : length c.go.new.points ≡ length c.args.points.now = ap length c.in_ok-go.ensures.points ∙ length_travelled m r _ _ c.args.points.now in
    omega (arith, c.in_ok-last.ensures.named.0, c.in_ok-check.ensures.passed.points)

pub go-requires-2 : goal.go-requires-2
go-requires-2 g c =
    let m = g.H.Hierarchy.meaning c.args.self.now.setting.hierarchy.now in
    let r = rule g.S.Scheme g.S.Value.ValueKind c.args.self.now.setting.scheme.now in
    let ok = c.in_ok-check.ensures.passed in
    let at = ap (λ st. st.depth) c.in_ok-go.ensures.state in
    rw c.in_ok-go.ensures.setting (record {
      whole = ap length c.add.ensures ∙ length-set c.go.new.points _ _ ∙ ap length c.in_ok-go.ensures.points ∙ length_travelled m r _ _ c.args.points.now ∙ ok.points;
      from = omega (arith, at, c.in_ok-last.ensures.named.1, ok.depth);
      to = ok.depth;
    })

pub returns-clause-call : goal.returns-clause-call
returns-clause-call g c =
    let m = g.H.Hierarchy.meaning c.args.self.now.setting.hierarchy.now in
    let r = rule g.S.Scheme g.S.Value.ValueKind c.args.self.now.setting.scheme.now in
    let st = c.args.self.now.state in
    let mem = lending st c.args.points.now c.args.slots.now in
    let went = c.in_ok-go.ensures in
    let came = c.in_ok-go-2.ensures in
    let again : c.go-2.new.self.state ≡ st = came.state ∙ (λ i. record { depth = st.depth; survivors = (went.state i).survivors; slots = (went.state i).slots }) in
    let back = came.points ∙ (λ i. travelled (g.H.Hierarchy.meaning (went.setting i).hierarchy.now) (rule g.S.Scheme g.S.Value.ValueKind (went.setting i).scheme.now) (went.state i).depth st.depth c.add.new.points) in
    let points = three_steps m r st.depth c.args.points.now c.in_ok-last.ensures.slot went.points c.opposite.ensures c.add.ensures back in
    served_kept m r mem (g.H.Hierarchy.lawful c.args.self.now.setting.hierarchy.now) g.S.Value.ValueKind.laws TakeBack _ _ c.in_ok-check.ensures.passed c.in_ok-last.ensures.verdict (λ i. Count ((again i).survivors - 1)) (λ i. lending (surviving (again i) ((again i).survivors - 1)) (points i) c.args.slots.now)
