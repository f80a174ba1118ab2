-- What is known of a point once it is known to be one of the definitions.
use Rattle.std.proofs.Common.{◌≡◌, ℤ, sym, subst}
use Rattle.kinds.specs.declared.point.Point.{Point}
use Rattle.kinds.specs.PointSums.{Modulo, modulo, modulo_is}

pub modulo_of : {x y z : ℤ} {r : Point} → r ≡ modulo x y z → Modulo x y z r
modulo_of {x} {y} {z} is = subst (λ (r : Point). Modulo x y z r) (sym is) (modulo_is x y z)
