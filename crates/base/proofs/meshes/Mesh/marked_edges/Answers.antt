use Rattle.std.proofs.Common.{rules, tests, ◌≡◌, Bool, vec_items, ap, ◌∙◌}
use Rattle.std.specs.Bool.{then_some}
use Rattle.std.specs.List.{filter_map, zip}
use Rattle.std.proofs.lemmas.Iterator.{items_from_collect, YieldsList-from_zip, YieldsList-from_slice}
use Rattle.std.proofs.lemmas.Iterator.Consumers.{YieldsList-from_filter_map}
use Rattle.std.proofs.lemmas.Result.{IfOk-weaker}
use Rattle.mesh.specs.declared.Side.{Side}
use Rattle.mesh.specs.Shape.{marked, edges}
use Rattle.base.specs.Faces.{parts}
use Rattle.base.proofs.Searches.{marked_pairs}
use Rattle.base.proofs.meshes.Mesh.marked_edges.Goals as goal

pub returns : goal.returns
returns c =
    let m = c.args.self.now in
    let es = vec_items m.edges in
    let ms = c.args.marks.now in
    let all = items_from_collect c.collect.result c.collect.ensures.ran (YieldsList-from_filter_map _ (λ (p : Side × Bool). then_some p.1 p.0) (YieldsList-from_zip (YieldsList-from_slice es (cc)) (YieldsList-from_slice ms (cc))) c.filter_map.ensures.closure (λ x r q k. search (rules, tests))) in
    IfOk-weaker c.collect.result (λ v. vec_items v ≡ filter_map (λ (p : Side × Bool). then_some p.1 p.0) (zip es ms)) (λ v. vec_items v ≡ marked (edges (parts (vec_items m.sizes) (vec_items m.sides))) ms) (λ v e. e ∙ marked_pairs es ms ∙ ap (λ l. marked l ms) m.edged) all
