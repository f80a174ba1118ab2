-- Fractions of whole numbers, and the mean of some whole numbers.
use Rattle.std.specs.Prelude.{◌≡◌, ℕ, zero, suc, ◌*◌, ◌<◌, List, [], ◌∷◌, length, ℤ, pos, ◌+ℤ◌, ◌*ℤ◌, ◌≤ℤ◌, ◌<ℤ◌, fold}
use Rattle.std.proofs.Common.{arith, lit<}

-- over / under
pub record Fraction : Type 0 where
  pub over : ℤ
  pub under : ℕ
  pub positive : 0 < under

-- one value, however the two are written
abbrev pub Same : Fraction → Fraction → Type 0
Same p q = p.over *ℤ pos q.under ≡ q.over *ℤ pos p.under

-- the value n / d
abbrev pub Worth : Fraction → ℤ → ℕ → Type 0
Worth q n d = q.over *ℤ pos d ≡ n *ℤ pos q.under

abbrev pub AtMost : Fraction → Fraction → Type 0
AtMost p q = (p.over *ℤ pos q.under) ≤ℤ (q.over *ℤ pos p.under)

abbrev pub Below : Fraction → Fraction → Type 0
Below p q = (p.over *ℤ pos q.under) <ℤ (q.over *ℤ pos p.under)

pub both_positive : (m n : ℕ) → 0 < m → 0 < n → 0 < m * n
both_positive zero n h k = elim h [ ]
both_positive (suc m) zero h k = elim k [ ]
both_positive (suc m) (suc n) h k = omega arith

abbrev pub quotient : ℤ → (d : ℕ) → 0 < d → Fraction
quotient n d p = record { over = n; under = d; positive = p }

abbrev pub whole : ℤ → Fraction
whole n = quotient n 1 (lit< tt)

abbrev pub half : Fraction
half = quotient (pos 1) 2 (lit< tt)

infixl 6 ◌⊕◌
unfoldable pub ◌⊕◌ : Fraction → Fraction → Fraction
p ⊕ q = record {
  over = p.over *ℤ pos q.under +ℤ q.over *ℤ pos p.under;
  under = p.under * q.under;
  positive = both_positive p.under q.under p.positive q.positive;
}

infixl 7 ◌⊗◌
unfoldable pub ◌⊗◌ : Fraction → Fraction → Fraction
p ⊗ q = record {
  over = p.over *ℤ q.over;
  under = p.under * q.under;
  positive = both_positive p.under q.under p.positive q.positive;
}

abbrev pub total : List ℤ → ℤ
total ns = fold ◌+ℤ◌ (pos 0) ns

-- the mean of no numbers is 0
unfoldable pub mean : List ℤ → Fraction
mean [] = whole (pos 0)
mean (n ∷ ns) = record { over = total (n ∷ ns); under = suc (length ns); positive = omega arith }
