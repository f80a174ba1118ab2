-- Fractions by their value: sums and products keep it.
use Rattle.std.proofs.Common.{◌≡◌, ℕ, ◌*◌, ℤ, pos, ◌+ℤ◌, ◌*ℤ◌, sym, ap, ◌∙◌, arith}
use Rattle.schemes.specs.Fractions.{Fraction, Same, ◌⊕◌, ◌⊗◌}
use Rattle.schemes.proofs.Products.{gap_of, gap_pos, gap_times, gap_plus, gap_same, same_over}

pub same_turned : (p q : Fraction) → Same p q → Same q p
same_turned p q e = sym e

-- (a b) c = (a c) b
swapped : (a : ℤ) (m n : ℕ) → a *ℤ pos m *ℤ pos n ≡ a *ℤ pos n *ℤ pos m
swapped a m n = rw (gap_of a, gap_pos m, gap_pos n) (simp gap_times (gap_same _ _ _ _ (omega arith)))

pub same_joined : (p q r : Fraction) → Same p q → Same q r → Same p r
same_joined p q r h k =
    same_over _ _ q.under q.positive
    (swapped p.over r.under q.under ∙ ap (λ z. z *ℤ pos r.under) h ∙ swapped q.over p.under r.under
    ∙ ap (λ z. z *ℤ pos p.under) k ∙ swapped r.over q.under p.under)

-- (a b) (m n) = (a m) (b n)
regrouped : (a b : ℤ) (m n : ℕ) → (a *ℤ b) *ℤ pos (m * n) ≡ (a *ℤ pos m) *ℤ (b *ℤ pos n)
regrouped a b m n = rw (gap_of a, gap_of b, gap_pos m, gap_pos n, gap_pos (m * n)) (simp gap_times (gap_same _ _ _ _ (omega arith)))

pub times_same : (p q p' q' : Fraction) → Same p p' → Same q q' → Same (p ⊗ q) (p' ⊗ q')
unfolding ◌⊗◌
times_same p q p' q' h k =
    regrouped p.over q.over p'.under q'.under ∙ ap (λ z. z *ℤ (q.over *ℤ pos q'.under)) h ∙ ap (λ z. (p'.over *ℤ pos p.under) *ℤ z) k
    ∙ sym (regrouped p'.over q'.over p.under q.under)

-- (a n + b m) (k l) = (a k) (n l) + (b l) (m k)
spread : (a b : ℤ) (m n k l : ℕ) → (a *ℤ pos n +ℤ b *ℤ pos m) *ℤ pos (k * l) ≡ (a *ℤ pos k) *ℤ pos (n * l) +ℤ (b *ℤ pos l) *ℤ pos (m * k)
spread a b m n k l =
    rw (gap_of a, gap_of b, gap_pos n, gap_pos m, gap_pos k, gap_pos l, gap_pos (k * l), gap_pos (n * l), gap_pos (m * k)) (simp (gap_times, gap_plus) (gap_same _ _ _ _ (omega arith)))

pub plus_same : (p q p' q' : Fraction) → Same p p' → Same q q' → Same (p ⊕ q) (p' ⊕ q')
unfolding ◌⊕◌
plus_same p q p' q' h k =
    let l : q.under * q'.under ≡ q'.under * q.under = omega arith in
    let m : p.under * p'.under ≡ p'.under * p.under = omega arith in
    spread p.over q.over p.under q.under p'.under q'.under
    ∙ ap (λ z. z *ℤ pos (q.under * q'.under) +ℤ (q.over *ℤ pos q'.under) *ℤ pos (p.under * p'.under)) h
    ∙ ap (λ z. (p'.over *ℤ pos p.under) *ℤ pos (q.under * q'.under) +ℤ z *ℤ pos (p.under * p'.under)) k
    ∙ ap (λ n. (p'.over *ℤ pos p.under) *ℤ pos n +ℤ (q'.over *ℤ pos q.under) *ℤ pos (p.under * p'.under)) l
    ∙ ap (λ n. (p'.over *ℤ pos p.under) *ℤ pos (q'.under * q.under) +ℤ (q'.over *ℤ pos q.under) *ℤ pos n) m
    ∙ sym (spread p'.over q'.over p'.under q'.under p.under q.under)
