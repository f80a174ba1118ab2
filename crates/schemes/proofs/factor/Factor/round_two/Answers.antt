use Rattle.std.proofs.Common.{◌≡◌, ◌*◌, ◌^◌, ◌≤◌, pos, ◌+ℤ◌, ◌*ℤ◌, nat_abs, ap, ◌∙◌, arith, lit<}
use Rattle.std.proofs.lemmas.Nat.{mul-le}
use Rattle.schemes.specs.Equations.{by_two}
use Rattle.schemes.specs.Fractions.{both_positive}
use Rattle.schemes.proofs.Lifts.{two_worth}
use Rattle.schemes.proofs.Sizes.{held, product_fits, product_is, times_size, sum_read, sum_size, stored_is}
use Rattle.schemes.proofs.factor.Factor.round_two.Goals as goal

pub overflow_mul-over : goal.overflow_mul-over
overflow_mul-over c =
    let s = sum_size c.scaled.result c.scaled-2.result (2 ^ 41) c.scaled.ensures.size c.scaled-2.ensures.size (lit< tt) in
    product_fits c.args.self.sixteenths (held c.scaled.result +ℤ held c.scaled-2.result) 16 (2 ^ 42) c.args.self.small s (lit< tt, lit< tt, lit< tt)

pub round-requires : goal.round-requires
round-requires c =
    let k = c.args.self.sixteenths in
    let t = held c.scaled.result +ℤ held c.scaled-2.result in
    let s = sum_size c.scaled.result c.scaled-2.result (2 ^ 41) c.scaled.ensures.size c.scaled-2.ensures.size (lit< tt) in
    let e = product_is k t 16 (2 ^ 42) c.args.self.small s (lit< tt, lit< tt, lit< tt) in
    let small : nat_abs (k *ℤ t) ≤ 2 ^ 46 = times_size k t 16 (2 ^ 42) c.args.self.small s in
    let within : nat_abs (k *ℤ t) ≤ 2 ^ 50 = omega arith in
    let i = c.args.first.count in
    let j = c.args.second.count in
    let few : 64 * i ≤ 512 = omega arith in
    (both_positive (64 * i) j (omega arith) c.args.second.positive, mul-le (64 * i) j 512 8 few c.args.second.few, rw e within)

pub returns : goal.returns
returns c a m n u v w =
    let k = c.args.self.sixteenths in
    let first = c.args.first in
    let second = c.args.second in
    let x = c.scaled.result in
    let y = c.scaled-2.result in
    let s = sum_size x y (2 ^ 41) c.scaled.ensures.size c.scaled-2.ensures.size (lit< tt) in
    let r = sum_read x y (2 ^ 41) c.scaled.ensures.size c.scaled-2.ensures.size (lit< tt) in
    let e = product_is k (held x +ℤ held y) 16 (2 ^ 42) c.args.self.small s (lit< tt, lit< tt, lit< tt) in
    let over : held (held k *ℤ held (held x +ℤ held y)) ≡ k *ℤ ((k *ℤ first.sum) *ℤ pos second.count +ℤ (pos 16 *ℤ second.sum) *ℤ pos first.count) =
    e ∙ ap (λ z. k *ℤ z) (r ∙ ap (λ z. z +ℤ y) c.scaled.ensures.value ∙ ap (λ z. (k *ℤ first.sum) *ℤ pos second.count +ℤ z) c.scaled-2.ensures.value) in
    let value = rw over at c.round.ensures.value in
    stored_is c.round.result c.round.type_inv ∙ value (by_two a m n) (two_worth a m n k first.sum second.sum first.count second.count first.positive second.positive u v w)
