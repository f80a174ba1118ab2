use Rattle.std.proofs.Common.{rules, tests, Bool, false, not, ◌&&◌, eqb, length, min, get_or, count_by, vec_items, ◌∙◌}
use Rattle.std.proofs.lemmas.Iterator.{YieldsList-from_zip, YieldsList-from_slice}
use Rattle.std.proofs.lemmas.Iterator.Search.{position_from_yields_List}
use Rattle.mesh.specs.declared.Side.{Side}
use Rattle.mesh.specs.Lowest.{lowest}
use Rattle.mesh.specs.Shape.{joins, nowhere}
use Rattle.base.proofs.Searches.{lowest_zipped}
use Rattle.base.proofs.draft.Draft.first_open_edge.Goals as goal

pub returns : goal.returns
returns c =
    let m = c.args.self.now.mesh in
    let es = vec_items m.edges in
    let ms = c.args.curves.now in
    let is_open : Side × Bool → Bool = λ p. eqb (count_by (joins p.0) (vec_items m.sides)) 1 && not p.1 in
    let along = position_from_yields_List is_open c.position.new.self _ c.position.result c.position.ensures.ran (YieldsList-from_zip (YieldsList-from_slice es (cc)) (YieldsList-from_slice ms (cc))) (λ x b q k. search (rules, tests)) in
    along ∙ lowest_zipped is_open es ms nowhere false
    ∙ (λ i. lowest (λ k. eqb (count_by (joins (get_or (m.edged i) k nowhere)) (m.sided i)) 1 && not (get_or ms k false)) (min (length (m.edged i)) (length ms)))
