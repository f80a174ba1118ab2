-- The laws of rounding. Whatever uses it uses these alone.
use Rattle.std.proofs.Common.{◌≡◌, ℕ, ◌*◌, ◌<◌, ℤ, pos, negsuc, ◌+ℤ◌, ◌*ℤ◌, ◌≤ℤ◌, ◌<ℤ◌, sym, ap, ◌∙◌, arith}
use Rattle.std.proofs.lemmas.Nat.{mod_below, div-add-mod'}
use Rattle.std.proofs.lemmas.Int.{ints}
use Rattle.std.specs.Int.{int_div_euclid}
use Rattle.schemes.specs.Fractions.{Fraction, Same, whole, ◌⊕◌}
use Rattle.schemes.specs.Rounding.{Rounds, Near, rounded, RoundingLaws}
use Rattle.schemes.proofs.Products.{gap_of, gap_pos, gap_times, gap_plus, gap_same, at_most_times, below_times, at_most_over, below_over, plus_times, at_most_at, below_at}

-- d goes so many times into n, and not once more
goes : (n : ℤ) (d : ℕ) → 0 < d → ((int_div_euclid n (pos d) *ℤ pos d) ≤ℤ n) × (n <ℤ (int_div_euclid n (pos d) *ℤ pos d +ℤ pos d))
goes (pos a) d h = let m = mod_below a d h in let s = div-add-mod' a d in (omega (arith, ints), omega (arith, ints))
goes (negsuc a) d h = let m = mod_below a d h in let s = div-add-mod' a d in (omega (arith, ints), omega (arith, ints))

one_more : (r : ℤ) (d : ℕ) → (r +ℤ pos 1) *ℤ pos d ≡ r *ℤ pos d +ℤ pos d
one_more r d = plus_times r (pos 1) (pos d) ∙ omega (arith, ints)

doubled : (n : ℕ) → n * 2 ≡ 2 * n
doubled n = omega arith

-- what the law says, without fractions
pub record Nearest (n : ℤ) (d : ℕ) (r : ℤ) : Type 0 where
  pub least : (r *ℤ pos (2 * d)) ≤ℤ (pos 2 *ℤ n +ℤ pos d)
  pub most : (pos 2 *ℤ n +ℤ pos d) <ℤ (r *ℤ pos (2 * d) +ℤ pos (2 * d))

pub nearest_rounds : (q : Fraction) (r : ℤ) → Nearest q.over q.under r → Rounds q r
unfolding ◌⊕◌
nearest_rounds q r h =
    let e = doubled q.under in
    let m = one_more r (2 * q.under) in
    record { reached = rw e (omega (arith, ints)); passed = rw e (omega (arith, ints)) }

pub rounds_nearest : (q : Fraction) (r : ℤ) → Rounds q r → Nearest q.over q.under r
unfolding ◌⊕◌
rounds_nearest q r h =
    let e = doubled q.under in
    let m = one_more r (2 * q.under) in
    let a = rw e at h.reached in
    let b = rw e at h.passed in
    record { least = omega (arith, ints); most = omega (arith, ints) }

pub rounded_rounds : (q : Fraction) → Rounds q (rounded q)
unfolding rounded
rounded_rounds q =
    let p : 0 < 2 * q.under = omega (arith, q.positive) in
    let g = goes (pos 2 *ℤ q.over +ℤ pos q.under) (2 * q.under) p in
    nearest_rounds q (rounded q) (record { least = g.0; most = g.1 })

nearest_alone : (n : ℤ) (d : ℕ) (r s : ℤ) → 0 < d → Nearest n d r → Nearest n d s → r ≡ s
nearest_alone n d r s p h k =
    let er = one_more r (2 * d) in
    let es = one_more s (2 * d) in
    let l = below_over r (s +ℤ pos 1) (2 * d) (omega (arith, ints)) in
    let g = below_over s (r +ℤ pos 1) (2 * d) (omega (arith, ints)) in
    omega (arith, ints)

pub rounds_alone : (q : Fraction) (r s : ℤ) → Rounds q r → Rounds q s → r ≡ s
rounds_alone q r s h k = nearest_alone q.over q.under r s q.positive (rounds_nearest q r h) (rounds_nearest q s k)

-- (2 n + d) m = 2 (n m) + d m
twice_and : (n : ℤ) (d m : ℕ) → (pos 2 *ℤ n +ℤ pos d) *ℤ pos m ≡ pos 2 *ℤ (n *ℤ pos m) +ℤ pos (d * m)
twice_and n d m = rw (gap_of n, gap_pos d, gap_pos m, gap_pos (d * m), gap_pos 2) (simp (gap_times, gap_plus) (gap_same _ _ _ _ (omega arith)))

-- (r (2 d)) m = (r (2 m)) d
exchanged : (r : ℤ) (d m : ℕ) → (r *ℤ pos (2 * d)) *ℤ pos m ≡ (r *ℤ pos (2 * m)) *ℤ pos d
exchanged r d m = rw (gap_of r, gap_pos (2 * d), gap_pos (2 * m), gap_pos d, gap_pos m) (simp gap_times (gap_same _ _ _ _ (omega arith)))

-- (r (2 d) + 2 d) m = (r (2 m) + 2 m) d
exchanged_more : (r : ℤ) (d m : ℕ) → (r *ℤ pos (2 * d) +ℤ pos (2 * d)) *ℤ pos m ≡ (r *ℤ pos (2 * m) +ℤ pos (2 * m)) *ℤ pos d
exchanged_more r d m =
    rw (gap_of r, gap_pos (2 * d), gap_pos (2 * m), gap_pos d, gap_pos m) (simp (gap_times, gap_plus) (gap_same _ _ _ _ (omega arith)))

nearest_same : (p q : Fraction) (r : ℤ) → Same p q → Nearest p.over p.under r → Nearest q.over q.under r
nearest_same p q r e h =
    let n = p.over in let d = p.under in let n' = q.over in let d' = q.under in
    let c : d * d' ≡ d' * d = omega arith in
    let x : (pos 2 *ℤ n +ℤ pos d) *ℤ pos d' ≡ (pos 2 *ℤ n' +ℤ pos d') *ℤ pos d = twice_and n d d' ∙ ap (λ t. pos 2 *ℤ t +ℤ pos (d * d')) e ∙ ap (λ k. pos 2 *ℤ (n' *ℤ pos d) +ℤ pos k) c ∙ sym (twice_and n' d' d) in
    record {
      least = at_most_over _ _ d p.positive (at_most_at (exchanged r d d') x (at_most_times _ _ d' h.least));
      most = below_over _ _ d (below_at x (exchanged_more r d d') (below_times _ _ d' q.positive h.most));
    }

pub rounds_same : (p q : Fraction) (r : ℤ) → Same p q → Rounds p r → Rounds q r
rounds_same p q r e h = nearest_rounds q r (nearest_same p q r e (rounds_nearest p r h))

pub rounded_same : (p q : Fraction) → Same p q → rounded p ≡ rounded q
rounded_same p q e = rounds_alone q (rounded p) (rounded q) (rounds_same p q (rounded p) e (rounded_rounds p)) (rounded_rounds q)

-- (r 2 + 1) d = r (2 d) + d
nearer : (r : ℤ) (d : ℕ) → (r *ℤ pos 2 +ℤ pos 1) *ℤ pos d ≡ r *ℤ pos (2 * d) +ℤ pos d
nearer r d = rw (gap_of r, gap_pos d, gap_pos (2 * d), gap_pos 2, gap_pos 1) (simp (gap_times, gap_plus) (gap_same _ _ _ _ (omega arith)))

pub rounded_near : (q : Fraction) → Near q (rounded q)
unfolding ◌⊕◌
rounded_near q =
    let h = rounded_rounds q in
    let n = rounds_nearest q (rounded q) h in
    let e = doubled q.under in
    record { above = h.reached; below = rw (nearer (rounded q) q.under) (omega (arith, ints)) }

pub rounding_laws : RoundingLaws
rounding_laws = record {
  rounds = rounded_rounds;
  alone = λ q r h. rounds_alone q r (rounded q) h (rounded_rounds q);
  near = rounded_near;
  by_value = rounded_same;
}

-- from the laws alone: a whole number stays
pub rounded_whole : (n : ℤ) → rounded (whole n) ≡ n
unfolding ◌⊕◌
rounded_whole n = let h = rounded_near (whole n) in omega (arith, ints)
