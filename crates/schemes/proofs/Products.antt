-- Sums and products of whole numbers: what `omega` does not multiply out, and what a positive factor keeps.
use Rattle.std.proofs.Common.{◌≡◌, ℕ, ◌+◌, ◌*◌, ◌<◌, ◌≤◌, ℤ, pos, ◌+ℤ◌, ◌-ℤ◌, ◌*ℤ◌, nat_abs, ◌≤ℤ◌, ◌<ℤ◌, ap, ◌∙◌, arith}
use borrow.Author.Differences.{up, down}
use Rattle.std.proofs.lemmas.Int.{ints, by_lt_z}

-- u − d, as a number that does not compute
pub gap : ℕ → ℕ → ℤ
gap u d = pos u -ℤ pos d

pub gap_of : (z : ℤ) → z ≡ gap (up z) (down z)
unfolding gap
gap_of z = omega (arith, ints)

pub gap_pos : (n : ℕ) → pos n ≡ gap n 0
unfolding gap
gap_pos n = omega (arith, ints)

pub gap_same : (u d v e : ℕ) → u + e ≡ v + d → gap u d ≡ gap v e
unfolding gap
gap_same u d v e h = omega (arith, ints)

pub gap_plus : (u d v e : ℕ) → gap u d +ℤ gap v e ≡ gap (u + v) (d + e)
unfolding gap
gap_plus u d v e = omega (arith, ints)

gap_parts : (u d : ℕ) → up (gap u d) + d ≡ down (gap u d) + u
unfolding gap
gap_parts u d = omega (arith, ints)

-- (p − m)(q − n) = (u − d)(v − e) where p − m = u − d and q − n = v − e
multiplied : (p m q n u d v e : ℕ) → p + d ≡ m + u → q + e ≡ n + v → (p * q + m * n) + (u * e + d * v) ≡ (p * n + m * q) + (u * v + d * e)
multiplied p m q n u d v e h k =
    let h₁ : (p + d) * q ≡ (m + u) * q = ap (λ x. x * q) h in
    let h₂ : (p + d) * n ≡ (m + u) * n = ap (λ x. x * n) h in
    let k₁ : u * (q + e) ≡ u * (n + v) = ap (λ x. u * x) k in
    let k₂ : d * (q + e) ≡ d * (n + v) = ap (λ x. d * x) k in
    omega arith

pub gap_times : (u d v e : ℕ) → gap u d *ℤ gap v e ≡ gap (u * v + d * e) (u * e + d * v)
gap_times u d v e =
    let h = multiplied (up (gap u d)) (down (gap u d)) (up (gap v e)) (down (gap v e)) u d v e (gap_parts u d) (gap_parts v e) in
    let g = gap_parts (u * v + d * e) (u * e + d * v) in
    omega (arith, ints)

pub gap_at_most : (u d v e : ℕ) → u + e ≤ v + d → gap u d ≤ℤ gap v e
unfolding gap
gap_at_most u d v e h = omega (arith, ints)

-- each law of a ring that is needed: write every number as a gap, and multiply out
pub times_commutes : (a b : ℤ) → a *ℤ b ≡ b *ℤ a
times_commutes a b = omega (arith, ints)

pub times_associates : (a b c : ℤ) → (a *ℤ b) *ℤ c ≡ a *ℤ (b *ℤ c)
times_associates a b c = rw (gap_of a, gap_of b, gap_of c) (simp gap_times (gap_same _ _ _ _ (omega arith)))

pub plus_times : (a b c : ℤ) → (a +ℤ b) *ℤ c ≡ a *ℤ c +ℤ b *ℤ c
plus_times a b c = rw (gap_of a, gap_of b, gap_of c) (simp (gap_times, gap_plus) (gap_same _ _ _ _ (omega arith)))

pub times_plus : (c a b : ℤ) → c *ℤ (a +ℤ b) ≡ c *ℤ a +ℤ c *ℤ b
times_plus c a b = rw (gap_of a, gap_of b, gap_of c) (simp (gap_times, gap_plus) (gap_same _ _ _ _ (omega arith)))

pub at_most_at : {a b a' b' : ℤ} → a ≡ a' → b ≡ b' → a ≤ℤ b → a' ≤ℤ b'
at_most_at e f h = omega (arith, ints)

pub below_at : {a b a' b' : ℤ} → a ≡ a' → b ≡ b' → a <ℤ b → a' <ℤ b'
below_at e f h = omega (arith, ints)

above : (a b : ℤ) → a ≤ℤ b → (k : ℕ) × (b ≡ a +ℤ pos k)
above a b h = (nat_abs (b -ℤ a), omega (arith, ints))

pub at_most_times : (a b : ℤ) (d : ℕ) → a ≤ℤ b → (a *ℤ pos d) ≤ℤ (b *ℤ pos d)
at_most_times a b d h =
    let k = above a b h in
    let e : b *ℤ pos d ≡ a *ℤ pos d +ℤ pos (k.0 * d) = ap (λ z. z *ℤ pos d) k.1 ∙ plus_times a (pos k.0) (pos d) in
    omega (arith, ints)

pub below_times : (a b : ℤ) (d : ℕ) → 0 < d → a <ℤ b → (a *ℤ pos d) <ℤ (b *ℤ pos d)
below_times a b d p h =
    let more : (a +ℤ pos 1) ≤ℤ b = omega (arith, ints) in
    let t = at_most_times (a +ℤ pos 1) b d more in
    let e : (a +ℤ pos 1) *ℤ pos d ≡ a *ℤ pos d +ℤ pos d = plus_times a (pos 1) (pos d) ∙ omega (arith, ints) in
    omega (arith, ints)

pub at_most_over : (a b : ℤ) (d : ℕ) → 0 < d → (a *ℤ pos d) ≤ℤ (b *ℤ pos d) → a ≤ℤ b
at_most_over a b d p h = by_lt_z b a (λ l. let t = below_times b a d p l in omega (arith, ints)) (λ l. l)

pub below_over : (a b : ℤ) (d : ℕ) → (a *ℤ pos d) <ℤ (b *ℤ pos d) → a <ℤ b
below_over a b d h = by_lt_z a b (λ l. l) (λ l. let t = at_most_times b a d l in omega (arith, ints))

pub same_over : (a b : ℤ) (d : ℕ) → 0 < d → a *ℤ pos d ≡ b *ℤ pos d → a ≡ b
same_over a b d p e =
    let l = at_most_over a b d p (omega (arith, ints)) in
    let g = at_most_over b a d p (omega (arith, ints)) in
    omega (arith, ints)
