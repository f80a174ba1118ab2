use Rattle.std.proofs.Common.{◌≡◌, ℕ, ◌*◌, ◌^◌, ◌≤◌, ℤ, pos, ◌+ℤ◌, ◌*ℤ◌, nat_abs, sym, ap, ◌∙◌, arith}
use Rattle.std.specs.Int.{int_div_euclid}
use Rattle.std.proofs.lemmas.Int.{ints}
use Rattle.schemes.specs.Fractions.{Fraction, Worth, quotient}
use Rattle.schemes.specs.Rounding.{rounded}
use Rattle.schemes.proofs.Roundings.{rounded_same, rounded_rounds, rounding_laws}
use Rattle.schemes.proofs.Sizes.{held, stored_is}
use Rattle.schemes.proofs.rounding.round.Goals as goal

doubled : (n : ℤ) (d : ℕ) (e : ℤ) → d ≤ 2 ^ 12 → nat_abs n ≤ 2 ^ 50 → e ≡ pos d → held (held (pos 2 *ℤ held n) +ℤ held e) ≡ pos 2 *ℤ n +ℤ pos d
doubled n d e small few same =
    let twice : held (pos 2 *ℤ held n) ≡ pos 2 *ℤ n = omega (arith, ints) in
    let under : held e ≡ pos d = omega (arith, ints) in
    let over : held (pos 2 *ℤ n +ℤ pos d) ≡ pos 2 *ℤ n +ℤ pos d = omega (arith, ints) in
    rw (twice, under) over

pub returns : goal.returns
unfolding rounded
returns c =
    let n = c.args.over in
    let d = c.args.under in
    let p = quotient n d c.requires.0 in
    let e : held c.floor.result ≡ rounded p =
    stored_is c.floor.result c.floor.type_inv ∙ c.floor.ensures ∙ ap (λ z. int_div_euclid z (pos (2 * d))) (doubled n d c.from.result c.requires.1 c.requires.2 c.from.ensures) in
    let value : (q : Fraction) → Worth q n d → held c.floor.result ≡ rounded q = λ q w. e ∙ rounded_same p q (sym w) in
    record { value = value; rounds = λ q w. rw (value q w) (rounded_rounds q); laws = rounding_laws }
