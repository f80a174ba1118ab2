-- Whole numbers modulo 2^32, each by its one representative from −2^31 to 2^31 − 1.
use Rattle.std.specs.Prelude.{◌≡◌, ◌/◌, ◌%◌, ◌^◌, ◌<◌, ℤ, pos, negsuc, ◌+ℤ◌, ◌-ℤ◌, ◌*ℤ◌, neg_ℤ, ◌≤ℤ◌, ◌<ℤ◌, FitsSigned, refl}
use Rattle.std.proofs.Common.{div-add-mod', arith}
use Rattle.std.specs.Int.Signed.{mag}
use Rattle.std.specs.Int.{int_rem_euclid, w32}
use Rattle.std.proofs.lemmas.Int.{ints}

-- r lies from −2^31 to 2^31 − 1, and differs from z by a multiple of 2^32
pub record Residue (z r : ℤ) : Type 0 where
  pub least : neg_ℤ (pos (2 ^ 31)) ≤ℤ r
  pub most : r <ℤ pos (2 ^ 31)
  pub turns : ℤ
  pub differs : z ≡ r +ℤ turns *ℤ pos (2 ^ 32)

-- there is no other such number
pub only : {z r s : ℤ} → Residue z r → Residue z s → r ≡ s
only {z} {r} {s} p q = omega (arith, ints)

-- that number, as it is computed: how far z lies above −2^31, less whole turns
unfoldable pub residue : ℤ → ℤ
residue z = int_rem_euclid (z +ℤ pos (2 ^ 31)) (pos (2 ^ 32)) -ℤ pos (2 ^ 31)

counted : (z y : ℤ) → y ≡ z +ℤ pos (2 ^ 31) → Residue z (int_rem_euclid y (pos (2 ^ 32)) -ℤ pos (2 ^ 31))
counted z (pos a) e =
    let split = div-add-mod' a (2 ^ 32) in
    let small : a % 2 ^ 32 < 2 ^ 32 = omega arith in
    record { least = omega (arith, ints); most = omega (arith, ints); turns = pos (a / 2 ^ 32); differs = omega (arith, ints) }
counted z (negsuc a) e =
    let split = div-add-mod' a (2 ^ 32) in
    let small : a % 2 ^ 32 < 2 ^ 32 = omega arith in
    record { least = omega (arith, ints); most = omega (arith, ints); turns = negsuc (a / 2 ^ 32); differs = omega (arith, ints) }

pub residue_is : (z : ℤ) → Residue z (residue z)
unfolding residue
residue_is z = counted z (z +ℤ pos (2 ^ 31)) refl

pub residue_fits : (z : ℤ) → mag (residue z) < 2 ^ 31
residue_fits z =
    let r = residue_is z in
    let fits : FitsSigned w32 (residue z) = omega (arith, ints) in
    fits.sfits

-- what a sum modulo 2^32 keeps: the laws of a value kind, at one coordinate
pub sum_associative : (a b c : ℤ) → residue (residue (a +ℤ b) +ℤ c) ≡ residue (a +ℤ residue (b +ℤ c))
sum_associative a b c =
    let ab = residue_is (a +ℤ b) in
    let bc = residue_is (b +ℤ c) in
    let left = residue_is (residue (a +ℤ b) +ℤ c) in
    let right = residue_is (a +ℤ residue (b +ℤ c)) in
    omega (arith, ints)

pub zero_left : (a : ℤ) → mag a < 2 ^ 31 → residue (pos 0 +ℤ a) ≡ a
zero_left a h = let r = residue_is (pos 0 +ℤ a) in omega (arith, ints)

pub zero_right : (a : ℤ) → mag a < 2 ^ 31 → residue (a +ℤ pos 0) ≡ a
zero_right a h = let r = residue_is (a +ℤ pos 0) in omega (arith, ints)

pub opposite_left : (a : ℤ) → residue (residue (neg_ℤ a) +ℤ a) ≡ pos 0
opposite_left a =
    let n = residue_is (neg_ℤ a) in
    let r = residue_is (residue (neg_ℤ a) +ℤ a) in
    omega (arith, ints)

pub opposite_right : (a : ℤ) → residue (a +ℤ residue (neg_ℤ a)) ≡ pos 0
opposite_right a =
    let n = residue_is (neg_ℤ a) in
    let r = residue_is (a +ℤ residue (neg_ℤ a)) in
    omega (arith, ints)
