-- Rounding, in this one place: [q] is the whole number r with r ≤ q + 1/2 < r + 1.
-- What uses it uses the laws alone: [q] lies within one half of q, and depends on the value of q and not on how q is written.
use Rattle.std.specs.Prelude.{◌≡◌, ◌*◌, ℤ, pos, ◌+ℤ◌, ◌*ℤ◌}
use Rattle.std.specs.Int.{int_div_euclid}
use Rattle.schemes.specs.Fractions.{Fraction, Same, AtMost, Below, whole, half, ◌⊕◌}

pub record Rounds (q : Fraction) (r : ℤ) : Type 0 where
  pub reached : AtMost (whole r) (q ⊕ half)
  pub passed : Below (q ⊕ half) (whole (r +ℤ pos 1))

-- r and q differ by one half at most
pub record Near (q : Fraction) (r : ℤ) : Type 0 where
  pub above : AtMost (whole r) (q ⊕ half)
  pub below : AtMost q (whole r ⊕ half)

-- [q], as it is computed
unfoldable pub rounded : Fraction → ℤ
rounded q = int_div_euclid (pos 2 *ℤ q.over +ℤ pos q.under) (pos (2 * q.under))

-- [q] is that number, and there is no other
pub record RoundingLaws : Type 0 where
  pub rounds : (q : Fraction) → Rounds q (rounded q)
  pub alone : (q : Fraction) (r : ℤ) → Rounds q r → r ≡ rounded q
  pub near : (q : Fraction) → Near q (rounded q)
  pub by_value : (p q : Fraction) → Same p q → rounded p ≡ rounded q
