use Rattle.std.proofs.Common.{◌≡◌, ◌<◌, length, take, ap, ◌∙◌, subst, arith, length-take}
use Rattle.std.proofs.lemmas.List.{get_or-take}
use Rattle.std.proofs.lemmas.Result.{err_from_is_err_and}
use Rattle.lifting.specs.HalfSteps.{rule}
use Rattle.history.specs.Histories.{History}
use Rattle.history.specs.Memory.{lending, Stands, Made}
use Rattle.history.specs.Promise.{lent_to, opened}
use Rattle.history.proofs.Running.{Running, turn, promise_refused, promise_kept}
use Rattle.form.proofs.run.perform.Goals as goal

pub returns-in_err-form : goal.returns-in_err-form
returns-in_err-form g c =
    let p = err_from_is_err_and c.from_residual.result c.from_residual.ensures.1 in
    let m = g.H.Hierarchy.meaning c.args.h.now in
    let r = rule g.S.Scheme g.S.Value.ValueKind c.args.s.now in
    let before = lent_to c.args.points.now c.args.slots.now c.args.answers.now in
    rw (p.1, p.2) (promise_refused m r (g.S.Scheme.uniform c.args.s.now) c.args.depth c.args.calls.now before _ c.in_err-form.ensures)

pub loop-i-preserved : goal.loop-i-preserved
loop-i-preserved g c =
    let m = g.H.Hierarchy.meaning c.args.h.now in
    let r = rule g.S.Scheme g.S.Value.ValueKind c.args.s.now in
    let before = lent_to c.args.points.now c.args.slots.now c.args.answers.now in
    let mem = lending c.loop-i.form.state c.loop-i.points c.loop-i.slots in
    let mem' = lending c.make-answer.new.self.state c.make-answer.new.points c.make-answer.new.slots in
    let call = c.index-made-i.result in
    let answer = c.make-answer.result in
    let on-scheme = subst (λ s. (x : History _) → Stands (g.H.Hierarchy.meaning c.loop-i.form.setting.hierarchy.now) (rule g.S.Scheme g.S.Value.ValueKind s) mem x → Made (g.H.Hierarchy.meaning c.loop-i.form.setting.hierarchy.now) (rule g.S.Scheme g.S.Value.ValueKind s) x call c.loop-i.slots answer mem') c.loop-i.invariant.1 c.make-answer.ensures.call in
    let made = subst (λ h. (x : History _) → Stands (g.H.Hierarchy.meaning h) r mem x → Made (g.H.Hierarchy.meaning h) r x call c.loop-i.slots answer mem') c.loop-i.invariant.0 on-scheme in
    let few = length-take c.min-count.result c.args.calls.now in
    let among : c.loop-i.i < c.min-count.result = omega (arith, c.loop-i-test.true) in
    let here : c.loop-i.i < length c.args.calls.now = omega (arith, c.min-count.ensures) in
    let free : c.loop-i.i < length c.args.answers.now = omega (arith, c.min-count.ensures) in
    let is = c.index-made-i.is ∙ get_or-take c.min-count.result c.args.calls.now c.loop-i.i call among in (
      ap (λ x. x.hierarchy.now) c.make-answer.ensures.setting ∙ c.loop-i.invariant.0,
      ap (λ x. x.scheme.now) c.make-answer.ensures.setting ∙ c.loop-i.invariant.1,
      turn m r (opened c.args.depth before) c.args.calls.now before mem mem' c.loop-i.answers _ c.loop-i.i call answer here free is c.loop-i.invariant.2 made c.put.ensures,
    )

pub returns : goal.returns
returns g c =
    let m = g.H.Hierarchy.meaning c.args.h.now in
    let r = rule g.S.Scheme g.S.Value.ValueKind c.args.s.now in
    let before = lent_to c.args.points.now c.args.slots.now c.args.answers.now in
    let mem = lending c.loop-i.form.state c.loop-i.points c.loop-i.slots in
    let few = length-take c.min-count.result c.args.calls.now in
    let end : c.loop-i.i ≡ c.min-count.result = omega (arith, c.loop-i-test.false, c.min-count.ensures, c.loop-i.auto.i-end) in
    let run = subst (λ n. Running m r (opened c.args.depth before) (take n c.args.calls.now) before mem c.loop-i.answers) end c.loop-i.invariant.2 in
    promise_kept m r (g.S.Scheme.uniform c.args.s.now) c.args.depth c.args.calls.now before mem c.loop-i.answers c.min-count.result c.in_ok-form.ensures.0.verdict c.min-count.ensures run
