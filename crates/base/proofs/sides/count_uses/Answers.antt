use Rattle.std.proofs.Common.{rules, ℕ, cond, arith}
use Rattle.std.proofs.lemmas.Iterator.{YieldsList-from_map, YieldsList-from_slice}
use Rattle.std.proofs.lemmas.Iterator.Consumers.{fits_by_from_yields_list}
use Rattle.std.proofs.lemmas.List.Sums.{count_by-le-length}
use Rattle.mesh.specs.declared.Side.{Side}
use Rattle.mesh.specs.Shape.{joins}
use Rattle.base.proofs.sides.count_uses.Goals as goal

pub sum-requires-clause-fits : goal.sum-requires-clause-fits
sum-requires-clause-fits c =
    let ss = c.args.sides.now in
    let one : Side → ℕ = λ s. cond (joins c.args.edge s) 1 0 in
    fits_by_from_yields_list one ss c.map.result _ (YieldsList-from_map _ one (YieldsList-from_slice ss (cc)) c.map.ensures.closure (λ x r q k. search rules)) (omega (arith, count_by-le-length (joins c.args.edge) ss, c.iter.ensures.bound))
