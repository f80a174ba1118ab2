use Rattle.std.proofs.Common.{◌≡◌, map, ◌∙◌}
use Rattle.kinds.specs.PointSums.{modulo}
use Rattle.schemes.specs.Equations.{by_one}
use Rattle.schemes.specs.Fractions.{mean}
use Rattle.schemes.specs.Rounding.{rounded}
use Rattle.schemes.proofs.Sizes.{held, stored_is}
use Rattle.schemes.proofs.factor.Factor.by_one.Goals as goal

pub returns : goal.returns
returns c a ps w h =
    let m = c.centroid-m.ensures ps h in
    let x : held c.round_one.result ≡ rounded (by_one a (mean (map (λ p. p.x) ps))) = stored_is _ c.round_one.type_inv ∙ c.round_one.ensures a _ w m.by_x in
    let y : held c.round_one-2.result ≡ rounded (by_one a (mean (map (λ p. p.y) ps))) = stored_is _ c.round_one-2.type_inv ∙ c.round_one-2.ensures a _ w m.by_y in
    let z : held c.round_one-3.result ≡ rounded (by_one a (mean (map (λ p. p.z) ps))) = stored_is _ c.round_one-3.type_inv ∙ c.round_one-3.ensures a _ w m.by_z in
    c.modulo.ensures.value ∙ (λ i. modulo (x i) (y i) (z i))
