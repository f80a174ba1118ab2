use Rattle.std.proofs.Common.{rules, tests, ◌∙◌}
use Rattle.std.proofs.lemmas.Iterator.{YieldsList-from_slice}
use Rattle.std.proofs.lemmas.Iterator.Search.{position_from_yields_List}
use Rattle.mesh.specs.Shape.{joins, nowhere}
use Rattle.base.proofs.Searches.{lowest_position}
use Rattle.base.proofs.sides.find_edge.Goals as goal

pub returns : goal.returns
returns c =
    let along = position_from_yields_List (λ edge. joins edge c.args.side) _ _ c.position.result c.position.ensures.ran (YieldsList-from_slice c.args.edges.now (cc)) (λ x b q k. search (rules, tests)) in
    along ∙ lowest_position (λ edge. joins edge c.args.side) c.args.edges.now nowhere
