use Rattle.std.proofs.Common.{◌≡◌, ◌^◌, ◌≤◌, pos, ◌*ℤ◌, nat_abs, ap, ◌∙◌, arith, lit<}
use Rattle.std.proofs.lemmas.Int.{ints}
use Rattle.schemes.proofs.Sizes.{held, product_read, product_size, product_fits, product_is, times_size}
use Rattle.schemes.proofs.factor.Factor.scaled.Goals as goal

pub overflow_mul-result : goal.overflow_mul-result
overflow_mul-result c = product_fits c.args.self.sixteenths c.args.mean.sum 16 (2 ^ 34) c.args.self.small c.args.mean.small (lit< tt, lit< tt, lit< tt)

pub overflow_mul-result-2 : goal.overflow_mul-result-2
overflow_mul-result-2 c =
    let a = c.args.self.sixteenths in
    let b = c.args.mean.sum in
    let s = product_size a b 16 (2 ^ 34) c.args.self.small c.args.mean.small (lit< tt, lit< tt, lit< tt) in
    let n : nat_abs c.from.result ≤ 8 = omega (arith, ints) in
    product_fits (held a *ℤ held b) c.from.result (2 ^ 38) 8 s n (lit< tt, lit< tt, lit< tt)

pub returns : goal.returns
returns c =
    let a = c.args.self.sixteenths in
    let b = c.args.mean.sum in
    let s = product_size a b 16 (2 ^ 34) c.args.self.small c.args.mean.small (lit< tt, lit< tt, lit< tt) in
    let e = product_read a b 16 (2 ^ 34) c.args.self.small c.args.mean.small (lit< tt, lit< tt, lit< tt) in
    let n : nat_abs c.from.result ≤ 8 = omega (arith, ints) in
    let f = product_is (held a *ℤ held b) c.from.result (2 ^ 38) 8 s n (lit< tt, lit< tt, lit< tt) in
    let value : held (held (held a *ℤ held b) *ℤ held c.from.result) ≡ a *ℤ b *ℤ pos c.args.other.count = f ∙ ap (λ z. z *ℤ c.from.result) e ∙ ap (λ z. a *ℤ b *ℤ z) c.from.ensures in
    let size : nat_abs ((held a *ℤ held b) *ℤ c.from.result) ≤ 2 ^ 41 = times_size (held a *ℤ held b) c.from.result (2 ^ 38) 8 s n in
    record { value = value; size = rw f size }
