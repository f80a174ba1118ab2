-- The flags of a sum of marks.
use Rattle.std.proofs.Common.{◌≡◌, ℕ, ◌/◌, ◌%◌, ◌^◌, eqb, ◌⊎◌, ap, ◌∙◌, inl, inr, arith}
use lib.Bits.{bit_xor, xor_shr, xor_mod}
use Rattle.std.proofs.lemmas.Bool.{cases_eq}
use Rattle.kinds.specs.declared.marks.Marks.{Marks}
use Rattle.kinds.specs.MarkSums.{differing, flag, exactly_one}

bit : (u : ℕ) → (u % 2 ≡ 0) ⊎ (u % 2 ≡ 1)
bit u = elim (cases_eq (u % 2) 0) [ inl e ↦ inl e | inr not ↦ inr (omega arith) ]

-- by the four pairs of bits
one_bit : (u v : ℕ) → eqb (bit_xor (u % 2) (v % 2)) 1 ≡ exactly_one (eqb (u % 2) 1) (eqb (v % 2) 1)
one_bit u v = by (bit u) (bit v)
  where
    by : (u % 2 ≡ 0) ⊎ (u % 2 ≡ 1) → (v % 2 ≡ 0) ⊎ (v % 2 ≡ 1) → eqb (bit_xor (u % 2) (v % 2)) 1 ≡ exactly_one (eqb (u % 2) 1) (eqb (v % 2) 1)
    by (inl p) (inl q) = rw (p, q)
    by (inl p) (inr q) = rw (p, q)
    by (inr p) (inl q) = rw (p, q)
    by (inr p) (inr q) = rw (p, q)

pub flag_sum : (m n : Marks) (k : ℕ) → flag (differing m n) k ≡ exactly_one (flag m k) (flag n k)
flag_sum m n k =
    let a = m.flags / 2 ^ k in
    let b = n.flags / 2 ^ k in
    ap (λ u. eqb (u % 2) 1) (xor_shr m.flags n.flags k) ∙ ap (λ u. eqb u 1) (xor_mod a b 1) ∙ one_bit a b
