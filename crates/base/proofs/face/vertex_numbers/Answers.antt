use Rattle.std.proofs.Common.{rules, ◌≡◌, ◌+◌, ◌*◌, ◌/◌, ℕ, IfOk, List, length, get_or, map, vec_items, ◌∙◌, arith}
use Rattle.std.specs.Simd.{first_chunks}
use Rattle.std.proofs.iter.runs.Made.{chains}
use Rattle.std.proofs.lemmas.Result.{IfOk-weaker}
use Rattle.mesh.specs.Records.{numbers}
use Rattle.base.proofs.Searches.{numbers_pairs}
use Rattle.base.proofs.face.vertex_numbers.Goals as goal

pub returns : goal.returns
returns c =
    let bs = c.args.body.now in
    let spelled = map (λ (p : List ℕ). get_or p 0 0 + get_or p 1 0 * 256) (first_chunks 2 (length bs / 2) bs) in
    let along : IfOk c.collect.result (λ v. vec_items v ≡ spelled) = search (rules, chains) in
    let same : spelled ≡ numbers bs = numbers_pairs (length bs / 2) bs (omega arith) (omega arith) in
    IfOk-weaker c.collect.result (λ v. vec_items v ≡ spelled) (λ v. vec_items v ≡ numbers bs) (λ v e. e ∙ same) along
