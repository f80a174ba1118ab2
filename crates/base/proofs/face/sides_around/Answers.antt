use Rattle.std.proofs.Common.{rules, ◌≡◌, ◌++◌, ℕ, map, vec_items, ◌∙◌}
use Rattle.std.specs.List.{zip}
use Rattle.std.proofs.lemmas.Iterator.{items_from_collect, YieldsList-from_map, YieldsList-from_zip, YieldsList-from_slice}
use Rattle.std.proofs.lemmas.Iterator.Consumers.{YieldsList-from_chain}
use Rattle.std.proofs.lemmas.Result.{IfOk-weaker}
use Rattle.mesh.specs.Shape.{side, around}
use Rattle.base.proofs.Searches.{zipped_around}
use Rattle.base.proofs.face.sides_around.Goals as goal

pub returns : goal.returns
returns c =
    let cs = c.args.corners.now in
    let first = c.split_at.result.0.now in
    let rest = c.split_at.result.1.now in
    let heads = YieldsList-from_chain (YieldsList-from_slice rest (cc)) (YieldsList-from_slice first (cc)) (cc) (cc) in
    let all = items_from_collect c.collect.result c.collect.ensures.ran (YieldsList-from_map _ (λ (p : ℕ × ℕ). side p.0 p.1) (YieldsList-from_zip (YieldsList-from_slice cs (cc)) heads) c.map.ensures.closure (λ x r q k. search rules)) in
    let same = zipped_around cs first rest _ c.min.ensures c.split_at.ensures.front c.split_at.ensures.back in
    IfOk-weaker c.collect.result (λ v. vec_items v ≡ map (λ (p : ℕ × ℕ). side p.0 p.1) (zip cs (rest ++ first))) (λ v. vec_items v ≡ around cs) (λ v e. e ∙ same) all
