use Rattle.std.proofs.Common.{rules, ℕ, cond, arith}
use Rattle.std.proofs.lemmas.Iterator.{YieldsList-from_map, YieldsList-from_slice}
use Rattle.std.proofs.lemmas.Iterator.Consumers.{fits_by_from_yields_list}
use Rattle.std.proofs.lemmas.List.Sums.{count_by-le-length}
use Rattle.mesh.specs.declared.Side.{Side}
use Rattle.mesh.specs.Shape.{touches}
use Rattle.base.proofs.sides.count_at.Goals as goal

pub sum-requires-clause-fits : goal.sum-requires-clause-fits
sum-requires-clause-fits c =
    let es = c.args.edges.now in
    let one : Side → ℕ = λ s. cond (touches c.args.vertex s) 1 0 in
    fits_by_from_yields_list one es c.map.result _ (YieldsList-from_map _ one (YieldsList-from_slice es (cc)) c.map.ensures.closure (λ x r q k. search rules)) (omega (arith, count_by-le-length (touches c.args.vertex) es, c.iter.ensures.bound))
