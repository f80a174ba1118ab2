use Rattle.std.proofs.Common.{◌^◌, ◌≤◌, ◌*ℤ◌, nat_abs, ◌∙◌, arith, lit<}
use Rattle.schemes.specs.Equations.{by_one}
use Rattle.schemes.proofs.Lifts.{one_worth}
use Rattle.schemes.proofs.Sizes.{product_is, times_size, stored_is}
use Rattle.schemes.proofs.factor.Factor.round_one.Goals as goal

pub round-requires : goal.round-requires
round-requires c =
    let k = c.args.self.sixteenths in
    let mean = c.args.mean in
    let e = product_is k mean.sum 16 (2 ^ 34) c.args.self.small mean.small (lit< tt, lit< tt, lit< tt) in
    let s : nat_abs (k *ℤ mean.sum) ≤ 2 ^ 38 = times_size k mean.sum 16 (2 ^ 34) c.args.self.small mean.small in
    let t : nat_abs (k *ℤ mean.sum) ≤ 2 ^ 50 = omega arith in
    (omega arith, omega arith, rw e t)

pub returns : goal.returns
returns c a m f g =
    let k = c.args.self.sixteenths in
    let mean = c.args.mean in
    let e = product_is k mean.sum 16 (2 ^ 34) c.args.self.small mean.small (lit< tt, lit< tt, lit< tt) in
    let v = rw e at c.round.ensures.value in
    stored_is c.round.result c.round.type_inv ∙ v (by_one a m) (one_worth a m k mean.sum mean.count mean.positive f g)
