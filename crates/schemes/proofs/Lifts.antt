-- The values of the lifting equations as fractions of whole numbers.
use Rattle.std.proofs.Common.{◌≡◌, ℕ, ◌*◌, ◌<◌, ℤ, pos, ◌+ℤ◌, ◌*ℤ◌, sym, refl, ap, ◌∙◌, arith, lit<}
use Rattle.schemes.specs.Equations.{by_one, by_two}
use Rattle.schemes.specs.Fractions.{Fraction, Same, Worth, quotient, whole, ◌⊕◌, ◌⊗◌, both_positive}
use Rattle.schemes.proofs.Products.{gap_of, gap_pos, gap_times, gap_same, plus_times, times_plus, times_associates}
use Rattle.schemes.proofs.Values.{same_joined, times_same, plus_same}

-- 2a · m for a = k / 16 and m = s / n
one_over : (k s : ℤ) (n : ℕ) → ((pos 2 *ℤ k) *ℤ s) *ℤ pos (8 * n) ≡ (k *ℤ s) *ℤ pos (16 * n)
one_over k s n = rw (gap_of k, gap_of s, gap_pos (8 * n), gap_pos (16 * n), gap_pos 2) (simp gap_times (gap_same _ _ _ _ (omega arith)))

pub one_worth : (a m : Fraction) (k s : ℤ) (n : ℕ) → 0 < n → Worth a k 16 → Worth m s n → Worth (by_one a m) (k *ℤ s) (8 * n)
unfolding by_one ◌⊗◌
one_worth a m k s n p f g =
    let a' = quotient k 16 (lit< tt) in
    let m' = quotient s n p in
    let two = whole (pos 2) in
    let same : Same (by_one a m) (by_one a' m') = times_same (two ⊗ a) m (two ⊗ a') m' (times_same two a two a' refl f) g in
    same_joined (by_one a m) (by_one a' m') (quotient (k *ℤ s) (8 * n) (omega arith)) same (one_over k s n)

outside : (p f : ℤ) (u v : ℕ) → (((pos 4 *ℤ p) *ℤ f) *ℤ pos u) *ℤ pos v ≡ (p *ℤ f) *ℤ pos (4 * u * v)
outside p f u v = rw (gap_of p, gap_of f, gap_pos (4 * u * v), gap_pos u, gap_pos v, gap_pos 4) (simp gap_times (gap_same _ _ _ _ (omega arith)))

inside : (k f : ℤ) (u v : ℕ) → (k *ℤ ((k *ℤ f) *ℤ pos u)) *ℤ pos v ≡ ((k *ℤ k) *ℤ f) *ℤ pos (u * v)
inside k f u v =
    ap (λ z. z *ℤ pos v) (sym (times_associates k (k *ℤ f) (pos u)) ∙ ap (λ z. z *ℤ pos u) (sym (times_associates k k f)))
    ∙ times_associates ((k *ℤ k) *ℤ f) (pos u) (pos v)

-- 4a² · m + 4a · n for a = k / 16, m = f / i and n = s / j
first_over : (k f : ℤ) (i j : ℕ) → (((pos 4 *ℤ (k *ℤ k)) *ℤ f) *ℤ pos (16 * j)) *ℤ pos (64 * i * j) ≡ (k *ℤ ((k *ℤ f) *ℤ pos j)) *ℤ pos ((256 * i) * (16 * j))
first_over k f i j =
    let e : 4 * (16 * j) * (64 * i * j) ≡ j * ((256 * i) * (16 * j)) = omega arith in
    outside (k *ℤ k) f (16 * j) (64 * i * j) ∙ ap (λ n. ((k *ℤ k) *ℤ f) *ℤ pos n) e ∙ sym (inside k f j ((256 * i) * (16 * j)))

second_over : (k s : ℤ) (i j : ℕ) → (((pos 4 *ℤ k) *ℤ s) *ℤ pos (256 * i)) *ℤ pos (64 * i * j) ≡ (k *ℤ ((pos 16 *ℤ s) *ℤ pos i)) *ℤ pos ((256 * i) * (16 * j))
second_over k s i j = rw (gap_of k, gap_of s, gap_pos (256 * i), gap_pos (64 * i * j), gap_pos ((256 * i) * (16 * j)), gap_pos i, gap_pos 4, gap_pos 16) (simp gap_times (gap_same _ _ _ _ (omega arith)))

-- (x + y) d = (k (u + v)) e, part by part
by_parts : (k x y u v d e : ℤ) → x *ℤ d ≡ (k *ℤ u) *ℤ e → y *ℤ d ≡ (k *ℤ v) *ℤ e → (x +ℤ y) *ℤ d ≡ (k *ℤ (u +ℤ v)) *ℤ e
by_parts k x y u v d e h l =
    plus_times x y d ∙ ap (λ z. z +ℤ y *ℤ d) h ∙ ap (λ z. (k *ℤ u) *ℤ e +ℤ z) l ∙ sym (plus_times (k *ℤ u) (k *ℤ v) e) ∙ ap (λ z. z *ℤ e) (sym (times_plus k u v))

two_over : (k f s : ℤ) (i j : ℕ) → (((pos 4 *ℤ (k *ℤ k)) *ℤ f) *ℤ pos (16 * j) +ℤ ((pos 4 *ℤ k) *ℤ s) *ℤ pos (256 * i)) *ℤ pos (64 * i * j) ≡ (k *ℤ ((k *ℤ f) *ℤ pos j +ℤ (pos 16 *ℤ s) *ℤ pos i)) *ℤ pos ((256 * i) * (16 * j))
two_over k f s i j = by_parts k _ _ _ _ (pos (64 * i * j)) (pos ((256 * i) * (16 * j))) (first_over k f i j) (second_over k s i j)

pub two_worth : (a m n : Fraction) (k f s : ℤ) (i j : ℕ) → 0 < i → 0 < j → Worth a k 16 → Worth m f i → Worth n s j → Worth (by_two a m n) (k *ℤ ((k *ℤ f) *ℤ pos j +ℤ (pos 16 *ℤ s) *ℤ pos i)) (64 * i * j)
unfolding by_two ◌⊗◌ ◌⊕◌
two_worth a m n k f s i j p q u v w =
    let a' = quotient k 16 (lit< tt) in
    let m' = quotient f i p in
    let n' = quotient s j q in
    let four = whole (pos 4) in
    let left : Same ((four ⊗ (a ⊗ a)) ⊗ m) ((four ⊗ (a' ⊗ a')) ⊗ m') = times_same (four ⊗ (a ⊗ a)) m (four ⊗ (a' ⊗ a')) m' (times_same four (a ⊗ a) four (a' ⊗ a') refl (times_same a a a' a' u u)) v in
    let right : Same ((four ⊗ a) ⊗ n) ((four ⊗ a') ⊗ n') = times_same (four ⊗ a) n (four ⊗ a') n' (times_same four a four a' refl u) w in
    let same : Same (by_two a m n) (by_two a' m' n') = plus_same ((four ⊗ (a ⊗ a)) ⊗ m) ((four ⊗ a) ⊗ n) ((four ⊗ (a' ⊗ a')) ⊗ m') ((four ⊗ a') ⊗ n') left right in
    let positive : 0 < 64 * i * j = both_positive (64 * i) j (omega arith) q in
    same_joined (by_two a m n) (by_two a' m' n') (quotient (k *ℤ ((k *ℤ f) *ℤ pos j +ℤ (pos 16 *ℤ s) *ℤ pos i)) (64 * i * j) positive) same (two_over k f s i j)
