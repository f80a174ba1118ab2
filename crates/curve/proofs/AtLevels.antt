-- Positions and numbers at every level of a curve: all that is stated of them. Assumes nothing.
use Rattle.std.proofs.Common.{◌≡◌, ℕ, zero, suc, ◌-◌, ◌/◌, ◌%◌, ◌<◌, ◌≤◌, Bool, ap, ⊎_elim, arith}
use Rattle.levels.specs.Level.{Level}
use Rattle.levels.specs.Finer.{level}
use Rattle.levels.specs.Curves.{curve_level}
use Rattle.levels.proofs.CurveCounts.{vertices_more}
use Rattle.curve.specs.Positions.{number_at, born, Along}
use Rattle.curve.proofs.Places.{cases_even, number_even, number_odd, half_even, half_odd, number_below, position_below, position_number, number_position, tail_at, head_at}
use Rattle.curve.proofs.Zeros.{zeros_even, zeros_odd}

-- half of an even position was born at the same level, and an odd one at this level
born_even : (j p : ℕ) → p % 2 ≡ 0 → born (suc j) p ≡ born j (p / 2)
born_even j p e = omega (arith, zeros_even j p e)

born_odd : (j p : ℕ) → p % 2 ≡ 1 → born (suc j) p ≡ suc j
born_odd j p e = omega (arith, zeros_odd j p e)

module _ (closed : Bool) (n : ℕ) (some : 1 ≤ n) where
  abbrev m : Level
  m = curve_level closed n

  abbrev at : ℕ → Level
  at j = level m j

  number_known : (j p : ℕ) → p < (at j).vertices → number_at m j p < (at (born j p)).vertices
  unfolding level
  number_known zero p l = let first : born 0 p ≡ 0 = omega arith in omega (arith, ap (λ i. (at i).vertices) first)
  number_known (suc j) p l =
      ⊎_elim
      (λ (e : p % 2 ≡ 0). omega (arith, number_even m j p e, number_known j (p / 2) (half_even closed n some j p l e), ap (λ i. (at i).vertices) (born_even j p e)))
      (λ (e : p % 2 ≡ 1). omega (arith, number_odd m j p e, half_odd closed n some j p l e, vertices_more closed n j, ap (λ i. (at i).vertices) (born_odd j p e)))
      (cases_even p)

  number_new : (j p : ℕ) → 0 < born j p → (at (born j p - 1)).vertices ≤ number_at m j p
  number_new zero p l = absurd (omega arith)
  number_new (suc j) p l =
      ⊎_elim
      (λ (e : p % 2 ≡ 0). let same = born_even j p e in omega (arith, number_even m j p e, number_new j (p / 2) (omega arith), ap (λ i. (at (i - 1)).vertices) same))
      (λ (e : p % 2 ≡ 1). let last : born (suc j) p - 1 ≡ j = omega (arith, born_odd j p e) in omega (arith, number_odd m j p e, ap (λ i. (at i).vertices) last))
      (cases_even p)

  pub along : (j : ℕ) → Along closed m j
  along j = record {
    numbers = number_below closed n some j;
    positions = position_below closed n some j;
    back = position_number closed n some j;
    forth = number_position closed n some j;
    known = number_known j;
    new = number_new j;
    tails = tail_at closed n some j;
    heads = head_at closed n some j;
  }
