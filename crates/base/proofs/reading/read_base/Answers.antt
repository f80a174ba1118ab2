use Rattle.std.proofs.Common.{◌≡◌, Bool, List, length, Ok, Err, vec_items, sym, ap, ◌∙◌, arith}
use Rattle.std.proofs.lemmas.Result.{err_from_is_err_and}
use Rattle.std.proofs.lemmas.Bool.{eqb-true, eqb-false}
use Rattle.refusal.specs.declared.Refusal.TheVariants.{TrailingByte}
use Rattle.mesh.specs.Reading.{finished, checked, reading}
use Rattle.mesh.proofs.ReadsWritings.{reads_writings}
use Rattle.base.specs.Drafts.{drafted}
use Rattle.base.specs.Meshes.{with_marks}
use Rattle.base.proofs.Verdicts.{passed_on, stopped, trailed, whole}
use Rattle.base.proofs.reading.read_base.Goals as goal
use Rattle.base.proofs.reading.read_base.Goals.{After-judge, In_ok-curves}

pub returns-in_err-draft : goal.returns-in_err-draft
returns-in_err-draft c =
    let p = err_from_is_err_and c.from_residual.result c.from_residual.ensures.1 in
    rw (p.1, p.2) (passed_on c.in_err-draft.field-0.0 _ _ (stopped c.args.bytes.now) c.in_err-draft.ensures)

pub returns-then-not-is_empty : goal.returns-then-not-is_empty
returns-then-not-is_empty c =
    let left = c.in_ok-draft.ensures in
    let some : length c.in_ok-draft.rest.now ≡ 0 → ⊥ = eqb-false _ 0 (sym c.if-not-is_empty.ensures) in
    trailed c.args.bytes.now (drafted c.in_ok-draft.draft) c.in_ok-draft.rest.now left (omega arith) ∙ ap (λ n. Err (TrailingByte n)) (sym c.saturating_sub.ensures)

all_read : (c : After-judge) → reading c.args.bytes.now ≡ checked (finished (drafted c.in_ok-draft.draft))
all_read c =
    whole c.args.bytes.now (drafted c.in_ok-draft.draft) c.in_ok-draft.rest.now c.in_ok-draft.ensures (eqb-true _ 0 (sym c.if-not-is_empty.ensures))

pub returns-in_err-curves : goal.returns-in_err-curves
returns-in_err-curves c =
    let p = err_from_is_err_and c.from_residual-in_err-curves.result c.from_residual-in_err-curves.ensures.1 in
    let same = all_read (goal.at.returns-in_err-curves c).After-judge in
    rw (p.1, p.2) (passed_on c.in_err-curves.field-0.0 _ _ (λ x e. same ∙ e) c.in_err-curves.ensures)

given_shape : (c : In_ok-curves) → reading c.args.bytes.now ≡ checked (finished (drafted c.in_ok-draft.draft)) → reading c.args.bytes.now ≡ Ok (with_marks c.in_ok-draft.draft.mesh (vec_items c.in_ok-curves.curves))
given_shape c same =
    let judged = c.in_ok-curves.ensures in
    same ∙ judged.passes ∙ ap (λ (marks : List Bool). Ok (with_marks c.in_ok-draft.draft.mesh marks)) (sym judged.marking)

pub invariant_of-result : goal.invariant_of-result
invariant_of-result c =
    let at = goal.at.invariant_of-result c in
    record { rules = ∣ (reads_writings c.args.bytes.now _ (given_shape at.In_ok-curves (all_read at.After-judge))).0 ∣₁ }

pub returns : goal.returns
returns c =
    let at = goal.at.returns c in
    given_shape at.In_ok-curves (all_read at.After-judge)
