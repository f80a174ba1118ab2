use Rattle.std.proofs.Common.{◌≡◌, map, ◌∙◌}
use Rattle.kinds.specs.PointSums.{modulo}
use Rattle.schemes.specs.Equations.{by_two}
use Rattle.schemes.specs.Fractions.{mean}
use Rattle.schemes.specs.Rounding.{rounded}
use Rattle.schemes.proofs.Sizes.{held, stored_is}
use Rattle.schemes.proofs.factor.Factor.by_two.Goals as goal

pub returns : goal.returns
returns c a ps qs w h k =
    let m = c.centroid-m.ensures ps h in
    let n = c.centroid-n.ensures qs k in
    let x : held c.round_two.result ≡ rounded (by_two a (mean (map (λ p. p.x) ps)) (mean (map (λ p. p.x) qs))) = stored_is _ c.round_two.type_inv ∙ c.round_two.ensures a _ _ w m.by_x n.by_x in
    let y : held c.round_two-2.result ≡ rounded (by_two a (mean (map (λ p. p.y) ps)) (mean (map (λ p. p.y) qs))) = stored_is _ c.round_two-2.type_inv ∙ c.round_two-2.ensures a _ _ w m.by_y n.by_y in
    let z : held c.round_two-3.result ≡ rounded (by_two a (mean (map (λ p. p.z) ps)) (mean (map (λ p. p.z) qs))) = stored_is _ c.round_two-3.type_inv ∙ c.round_two-3.ensures a _ _ w m.by_z n.by_z in
    c.modulo.ensures.value ∙ (λ i. modulo (x i) (y i) (z i))
