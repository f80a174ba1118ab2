-- What the wrapping operations leave is the residue.
use Rattle.std.proofs.Common.{◌≡◌, ℕ, suc, ◌+◌, ◌-◌, ◌/◌, ◌%◌, ◌^◌, ◌<◌, ◌≤◌, Bool, true, false, ltb, ℤ, pos, negsuc, ◌+ℤ◌, ◌-ℤ◌, ◌*ℤ◌, neg_ℤ, refl, ap, ◌∙◌, div-add-mod', arith, w32, w64, SFits, to_z, of_z}
use lib.Bits.{bit_and, and_mask}
use lib.Signed.{mag}
use mir.Val.{sel}
use Rattle.std.specs.Int.{int_wrap}
use Rattle.std.proofs.lemmas.Int.{ints, to_z-of_z, wrapping_add_is, wrapping_neg_is}
use Rattle.std.proofs.lemmas.Bool.{ltb-true, ltb-false}
use Rattle.kinds.specs.Residues.{Residue, residue, residue_is, only}

-- the number that 32 bits are read as
pub read : (n : ℕ) → n < 2 ^ 32 → Residue (pos n) (to_z w32 n)
read n h = by (ltb n (2 ^ 31)) refl
  where
    by : (t : Bool) → ltb n (2 ^ 31) ≡ t → Residue (pos n) (sel t (pos n) (negsuc (2 ^ 32 - suc n)))
    by true e =
        let low : n < 2 ^ 31 = ltb-true n (2 ^ 31) e in
        record { least = omega (arith, ints); most = omega (arith, ints); turns = pos 0; differs = omega (arith, ints) }
    by false e =
        let high : 2 ^ 31 ≤ n = ltb-false n (2 ^ 31) e in
        record { least = omega (arith, ints); most = omega (arith, ints); turns = pos 1; differs = omega (arith, ints) }

further : {y z r : ℤ} (k : ℤ) → z ≡ y +ℤ k *ℤ pos (2 ^ 32) → Residue y r → Residue z r
further k e p = record { least = p.least; most = p.most; turns = p.turns +ℤ k; differs = omega (arith, ints) }

pub wrapped_is : (z : ℤ) → Residue z (int_wrap w32 z)
unfolding int_wrap
wrapped_is (pos a) =
    let split = div-add-mod' a (2 ^ 32) in
    let small : a % 2 ^ 32 < 2 ^ 32 = omega arith in
    further (pos (a / 2 ^ 32)) (omega (arith, ints)) (read (a % 2 ^ 32) small)
wrapped_is (negsuc a) =
    let split = div-add-mod' a (2 ^ 32) in
    let small : 2 ^ 32 - 1 - a % 2 ^ 32 < 2 ^ 32 = omega arith in
    further (negsuc (a / 2 ^ 32)) (omega (arith, ints)) (read (2 ^ 32 - 1 - a % 2 ^ 32) small)

pub wrapped_residue : (z : ℤ) → int_wrap w32 z ≡ residue z
wrapped_residue z = only (wrapped_is z) (residue_is z)

pub add_residue : (a b : ℤ) → mag a < 2 ^ 31 → mag b < 2 ^ 31 → to_z w32 ((of_z w32 a + of_z w32 b) % 2 ^ 32) ≡ residue (a +ℤ b)
add_residue a b f g = wrapping_add_is w32 a b (record { sfits = f }) (record { sfits = g }) ∙ wrapped_residue (a +ℤ b)

-- a call's argument is read back from its bits
pub neg_residue : (a : ℤ) → mag a < 2 ^ 31 → to_z w32 ((2 ^ 32 - of_z w32 (to_z w32 (of_z w32 a))) % 2 ^ 32) ≡ residue (neg_ℤ a)
neg_residue a f =
    let fits : SFits w32 a = record { sfits = f } in
    ap (λ y. to_z w32 ((2 ^ 32 - of_z w32 y) % 2 ^ 32)) (to_z-of_z w32 a fits) ∙ wrapping_neg_is w32 a fits ∙ wrapped_residue (neg_ℤ a)

-- the low 32 bits of a number of 64 bits, as they are read
pub low_residue : (z : ℤ) → SFits w64 z → to_z w32 (bit_and (of_z w64 z) (2 ^ 32 - 1)) ≡ residue z
low_residue (pos a) f =
    let split = div-add-mod' a (2 ^ 32) in
    let small : a % 2 ^ 32 < 2 ^ 32 = omega arith in
    let low = further (pos (a / 2 ^ 32)) (omega (arith, ints)) (read (a % 2 ^ 32) small) in
    ap (to_z w32) (and_mask a 32) ∙ only low (residue_is (pos a))
low_residue (negsuc a) f =
    let n = 2 ^ 64 - suc a in
    let fits = f.sfits in
    let split = div-add-mod' n (2 ^ 32) in
    let small : n % 2 ^ 32 < 2 ^ 32 = omega arith in
    let low = further (pos (n / 2 ^ 32) -ℤ pos (2 ^ 32)) (omega (arith, ints)) (read (n % 2 ^ 32) small) in
    ap (to_z w32) (and_mask n 32) ∙ only low (residue_is (negsuc a))
