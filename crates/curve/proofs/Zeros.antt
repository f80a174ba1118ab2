-- The zeros at the end of a position say at which level its vertex was born. Assumes nothing.
use Rattle.std.proofs.Common.{◌≡◌, ℕ, zero, suc, ◌+◌, ◌-◌, ◌/◌, ◌%◌, ◌^◌, ◌<◌, ◌≤◌, ap, ◌∙◌, ⊎_elim, add-one, arith}
use lib.Count.{count_trailing_zeros, under}
use Rattle.std.proofs.lemmas.Nat.{shr-shr, shr_le}
use Rattle.levels.specs.Level.{Level}
use Rattle.levels.specs.Finer.{level}
use Rattle.curve.specs.Positions.{number_at}
use Rattle.curve.proofs.Places.{cases_even, number_even, number_odd}

pub zeros_even : (k p : ℕ) → p % 2 ≡ 0 → count_trailing_zeros (suc k) p ≡ suc (count_trailing_zeros k (p / 2))
unfolding count_trailing_zeros
zeros_even k p e = ap (λ d. under d (count_trailing_zeros k (p / 2))) e

pub zeros_odd : (k p : ℕ) → p % 2 ≡ 1 → count_trailing_zeros (suc k) p ≡ 0
unfolding count_trailing_zeros
zeros_odd k p e = ap (λ d. under d (count_trailing_zeros k (p / 2))) e

-- a number that is halved once more
half_more : (p k : ℕ) → p / 2 / 2 ^ k ≡ p / 2 ^ suc k
half_more p k = shr-shr p 1 k ∙ ap (λ i. p / 2 ^ i) (omega arith)

pub half_below : (p k : ℕ) → p / 2 ^ (k + 1) ≤ p / 2
half_below p k = let less = shr_le (p / 2) k in omega (arith, half_more p k, ap (λ i. p / 2 ^ i) (add-one k))

-- as many zeros as levels: a vertex of the coarsest level
pub number_kept : (m : Level) (j k p : ℕ) → j ≤ k → j ≤ count_trailing_zeros k p → number_at m j p ≡ p / 2 ^ j
number_kept m zero k p w l = omega arith
number_kept m (suc j) zero p w l = absurd (omega arith)
number_kept m (suc j) (suc k) p w l =
    ⊎_elim
    (λ (e : p % 2 ≡ 0). number_even m j p e ∙ number_kept m j k (p / 2) (omega arith) (omega (arith, zeros_even k p e)) ∙ half_more p j)
    (λ (e : p % 2 ≡ 1). absurd (omega (arith, zeros_odd k p e)))
    (cases_even p)

-- fewer zeros than levels: the vertex of an edge, born that many levels before this one
pub number_born : (m : Level) (j k p : ℕ) → j ≤ k → count_trailing_zeros k p < j → number_at m j p ≡ (level m (j - count_trailing_zeros k p - 1)).vertices + p / 2 ^ (count_trailing_zeros k p + 1)
number_born m zero k p w l = absurd (omega arith)
number_born m (suc j) zero p w l = absurd (omega arith)
number_born m (suc j) (suc k) p w l =
    ⊎_elim
    (λ (e : p % 2 ≡ 0).
    let t : count_trailing_zeros (suc k) p ≡ suc (count_trailing_zeros k (p / 2)) = zeros_even k p e in
    number_even m j p e
    ∙ number_born m j k (p / 2) (omega arith) (omega arith)
    ∙ ap (λ i. (level m (j - count_trailing_zeros k (p / 2) - 1)).vertices + i) (half_more p (count_trailing_zeros k (p / 2) + 1) ∙ ap (λ i. p / 2 ^ i) (omega arith))
    ∙ ap (λ i. (level m i).vertices + p / 2 ^ (count_trailing_zeros (suc k) p + 1)) (omega arith))
    (λ (e : p % 2 ≡ 1).
    let t : count_trailing_zeros (suc k) p ≡ 0 = zeros_odd k p e in
    let one : 1 ≡ count_trailing_zeros (suc k) p + 1 = omega arith in
    number_odd m j p e
    ∙ ap (λ i. (level m j).vertices + p / 2 ^ i) one
    ∙ ap (λ i. (level m i).vertices + p / 2 ^ (count_trailing_zeros (suc k) p + 1)) (omega arith))
    (cases_even p)
