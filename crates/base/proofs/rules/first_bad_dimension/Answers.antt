use Rattle.std.proofs.Common.{rules, tests, ℕ, Bool, not, ◌∙◌}
use Rattle.std.proofs.lemmas.Iterator.{YieldsList-from_slice}
use Rattle.std.proofs.lemmas.Iterator.Consumers.{YieldsList-from_enumerate}
use Rattle.std.proofs.lemmas.Iterator.Search.{position_from_yields_List}
use Rattle.mesh.specs.Rules.{fits}
use Rattle.mesh.specs.Shape.{degree}
use Rattle.base.proofs.Searches.{lowest_numbered}
use Rattle.base.proofs.rules.first_bad_dimension.Goals as goal

pub returns : goal.returns
returns c =
    let bad : ℕ × ℕ → Bool = λ p. not (fits p.1 (degree c.args.curve_edges.now p.0)) in
    position_from_yields_List bad _ _ c.position.result c.position.ensures.ran (YieldsList-from_enumerate (YieldsList-from_slice c.args.dims.now (cc)) (cc)) (λ x b q k. search (rules, tests))
    ∙ lowest_numbered bad c.args.dims.now 0
