-- The flags that marks have in common.
use Rattle.std.proofs.Common.{sym, ◌≡◌, ℕ, ◌/◌, ◌%◌, ◌^◌, Bool, false, ◌&&◌, eqb, ◌⊎◌, List, [], ◌∷◌, ap, ◌∙◌, inl, inr, arith}
use Rattle.std.proofs.Math.Bool.{and_assoc, and-true}
use native.Mathlib.Nat.{zero-div}
use lib.Bits.{bit_and}
use Rattle.std.proofs.lemmas.Nat.{and_shr, and_mod}
use Rattle.std.proofs.lemmas.Bool.{cases_eq}
use Rattle.kinds.specs.MarkSums.{flag, unmarked}
use Rattle.kinds.specs.declared.marks.Marks.{Marks}
use Rattle.schemes.specs.MarkAmounts.{within, in_common, each_has, all_have}

bit : (u : ℕ) → (u % 2 ≡ 0) ⊎ (u % 2 ≡ 1)
bit u = elim (cases_eq (u % 2) 0) [ inl e ↦ inl e | inr not ↦ inr (omega arith) ]

one_bit : (u v : ℕ) → eqb (bit_and (u % 2) (v % 2)) 1 ≡ (eqb (u % 2) 1 && eqb (v % 2) 1)
one_bit u v = by (bit u) (bit v)
  where
    by : (u % 2 ≡ 0) ⊎ (u % 2 ≡ 1) → (v % 2 ≡ 0) ⊎ (v % 2 ≡ 1) → eqb (bit_and (u % 2) (v % 2)) 1 ≡ (eqb (u % 2) 1 && eqb (v % 2) 1)
    by (inl p) (inl q) = rw p
    by (inl p) (inr q) = rw p
    by (inr p) (inl q) = rw (p, q)
    by (inr p) (inr q) = rw (p, q)

abbrev has : ℕ → ℕ → Bool
has f k = eqb (f / 2 ^ k % 2) 1

has_both : (f g k : ℕ) → has (bit_and f g) k ≡ (has f k && has g k)
has_both f g k =
    ap (λ u. eqb (u % 2) 1) (and_shr f g k) ∙ ap (λ u. eqb u 1) (and_mod (f / 2 ^ k) (g / 2 ^ k) 1) ∙ one_bit (f / 2 ^ k) (g / 2 ^ k)

has_within : (k f : ℕ) (ms : List Marks) → has (within f ms) k ≡ (has f k && each_has k ms)
has_within k f [] = sym (and-true (has f k))
has_within k f (m ∷ ms) = has_within k (bit_and f m.flags) ms ∙ ap (λ b. b && each_has k ms) (has_both f m.flags k) ∙ and_assoc (has f k) (has m.flags k) (each_has k ms)

has_none : (k : ℕ) → flag unmarked k ≡ false
has_none k = ap (λ u. eqb (u % 2) 1) (zero-div (2 ^ k))

pub flag_in_common : (k : ℕ) (ms : List Marks) → flag (in_common ms) k ≡ all_have k ms
flag_in_common k [] = has_none k
flag_in_common k (m ∷ ms) = has_within k m.flags ms
