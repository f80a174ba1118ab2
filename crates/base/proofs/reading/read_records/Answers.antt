use Rattle.std.proofs.Common.{◌≡◌, ◌+◌, ◌-◌, length, Ok, Err, sym, ap, ◌∙◌, arith}
use Rattle.std.proofs.lemmas.Result.{err_from_is_err_and}
use Rattle.refusal.specs.declared.Refusal.TheVariants.{Truncated}
use Rattle.mesh.specs.Reading.{added, records}
use Rattle.base.specs.Drafts.{drafted}
use Rattle.base.specs.Views.{view}
use Rattle.base.proofs.Turns.{none_left, cut_short, refused, ended, goes_on, not_end, failed}
use Rattle.base.proofs.reading.read_records.Goals as goal

pub returns-in_err-next : goal.returns-in_err-next
returns-in_err-next c =
    let p = err_from_is_err_and c.from_residual.result c.from_residual.ensures.1 in
    let cut = cut_short (length c.args.bytes.now) c.loop-number.number (drafted c.loop-number.draft) c.loop-number.rest.now c.loop-number-test.true _ (sym c.in_err-next.ensures) in
    rw (p.1, p.2) (sym c.loop-number.invariant ∙ cut)

pub returns-in_err-draft : goal.returns-in_err-draft
returns-in_err-draft c =
    let p = err_from_is_err_and c.from_residual-in_err-draft.result c.from_residual-in_err-draft.ensures.1 in
    let turned = refused (length c.args.bytes.now) c.loop-number.number (drafted c.loop-number.draft) c.loop-number.rest.now c.loop-number-test.true (view c.in_ok-next.next) c.in_ok-next.after.now (sym c.in_ok-next.ensures) in
    rw (p.1, p.2) (failed c.in_err-draft.field-0.0 _ _ c.in_err-draft.ensures (λ x e. sym c.loop-number.invariant ∙ turned x e))

pub returns-in-End : goal.returns-in-End
returns-in-End c =
    let taken = c.in_ok-draft.ensures in
    let done = ended (length c.args.bytes.now) c.loop-number.number (drafted c.loop-number.draft) c.loop-number.rest.now c.loop-number-test.true (view c.in_ok-next.next) c.in_ok-next.after.now (sym c.in_ok-next.ensures) taken.passed (ap view c.in-End.is) in
    sym c.loop-number.invariant ∙ done ∙ ap (λ d. Ok (d, c.in_ok-next.after.now)) (ap (added (drafted c.loop-number.draft)) (sym (ap view c.in-End.is)) ∙ sym taken.value)

pub loop-number-preserved : goal.loop-number-preserved
loop-number-preserved c =
    let taken = c.in_ok-draft.ensures in
    let on = goes_on (length c.args.bytes.now) c.loop-number.number (drafted c.loop-number.draft) c.loop-number.rest.now c.loop-number-test.true (view c.in_ok-next.next) c.in_ok-next.after.now (sym c.in_ok-next.ensures) taken.passed (not_end c.in_ok-next.next _ _ c.in_default.not-End) in
    ap (λ d. records (length c.args.bytes.now - (c.loop-number.number + 1)) (c.loop-number.number + 1) d c.in_ok-next.after.now) taken.value ∙ sym on ∙ c.loop-number.invariant

pub returns : goal.returns
returns c =
    let over : c.loop-number.number ≡ length c.args.bytes.now = omega arith in
    sym c.loop-number.invariant ∙ none_left c.loop-number.number (length c.args.bytes.now - c.loop-number.number) (drafted c.loop-number.draft) c.loop-number.rest.now (omega arith) ∙ ap (λ n. Err (Truncated n)) over
