-- Products that stay small enough for 64 bits.
use Rattle.std.proofs.Common.{◌≡◌, ℕ, suc, ◌*◌, ◌^◌, ◌<◌, ◌≤◌, ℤ, pos, negsuc, ◌+ℤ◌, ◌*ℤ◌, neg_ℤ, nat_abs, refl, ◌∙◌, arith, w64, SFits, to_z, of_z}
use lib.Signed.{mag}
use Rattle.std.proofs.lemmas.Nat.{mul-le}
use Rattle.std.proofs.lemmas.Int.{ints}

-- a number of 64 bits that was stored and is read again
abbrev pub held : ℤ → ℤ
held z = to_z w64 (of_z w64 z)

abs_neg : (z : ℤ) → nat_abs (neg_ℤ z) ≡ nat_abs z
abs_neg z = omega (arith, ints)

abs_times : (a b : ℤ) → nat_abs (a *ℤ b) ≡ nat_abs a * nat_abs b
abs_times (pos a) (pos b) = refl
abs_times (pos a) (negsuc b) = abs_neg (pos (a * suc b))
abs_times (negsuc a) (pos b) = abs_neg (pos (suc a * b))
abs_times (negsuc a) (negsuc b) = refl

pub times_size : (a b : ℤ) (m n : ℕ) → nat_abs a ≤ m → nat_abs b ≤ n → nat_abs (a *ℤ b) ≤ m * n
times_size a b m n h k = rw abs_times (mul-le (nat_abs a) (nat_abs b) m n h k)

pub held_is : (z : ℤ) (n : ℕ) → nat_abs z ≤ n → n < 2 ^ 63 → held z ≡ z
held_is z n h k = omega (arith, ints)

pub stored_is : (z : ℤ) → mag z < 2 ^ 63 → held z ≡ z
stored_is z h = omega (arith, ints)

pub size_fits : (z : ℤ) (n : ℕ) → nat_abs z ≤ n → n < 2 ^ 63 → SFits w64 z
size_fits z n h k = omega (arith, ints)

-- the product of two numbers whose sizes are at most m and n
abbrev Room : ℕ → ℕ → Type 0
Room m n = (m < 2 ^ 63) × (n < 2 ^ 63) × (m * n < 2 ^ 63)

module _ (a b : ℤ) (m n : ℕ) (h : nat_abs a ≤ m) (k : nat_abs b ≤ n) (room : Room m n) where
  pub product_read : held a *ℤ held b ≡ a *ℤ b
  product_read = rw (held_is a m h room.0, held_is b n k room.1)

  pub product_size : nat_abs (held a *ℤ held b) ≤ m * n
  product_size = rw product_read (times_size a b m n h k)

  pub product_fits : SFits w64 (held a *ℤ held b)
  product_fits = size_fits (held a *ℤ held b) (m * n) product_size room.2

  pub product_is : held (held a *ℤ held b) ≡ a *ℤ b
  product_is = held_is (held a *ℤ held b) (m * n) product_size room.2 ∙ product_read

-- a sum of two numbers of at most n
module _ (a b : ℤ) (n : ℕ) (h : nat_abs a ≤ n) (k : nat_abs b ≤ n) (room : 2 * n < 2 ^ 63) where
  pub sum_read : held a +ℤ held b ≡ a +ℤ b
  sum_read = omega (arith, ints)

  pub sum_size : nat_abs (held a +ℤ held b) ≤ 2 * n
  sum_size = omega (arith, ints)

  pub sum_fits : SFits w64 (held a +ℤ held b)
  sum_fits = size_fits (held a +ℤ held b) (2 * n) sum_size room
