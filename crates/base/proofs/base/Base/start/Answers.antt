use Rattle.base.proofs.Starting.{round_edges, starting_rules}
use Rattle.base.proofs.base.Base.start.Goals as goal

pub invariant_of-mesh : goal.invariant_of-mesh
invariant_of-mesh c =
    let z = c.in_ok-sizes.ensures.items in
    let s = c.in_ok-sides.ensures.items in
    let e = c.in_ok-edges.ensures.items in
    record { total = simp (z, s); sided = simp (z, s); edged = simp (z, s, e) round_edges }

pub invariant_of-result : goal.invariant_of-result
invariant_of-result c =
    let d = c.in_ok-dims.ensures.items in
    let z = c.in_ok-sizes.ensures.items in
    let s = c.in_ok-sides.ensures.items in
    let m = c.in_ok-curves.ensures.items in
    record { rules = simp (d, z, s, m) (∣ starting_rules ∣₁) }
