-- One more point in a tally, and the mean that a tally gives.
use Rattle.std.proofs.Common.{◌≡◌, ℕ, suc, ◌+◌, ◌*◌, ◌^◌, ◌<◌, ◌≤◌, max, List, [], ◌∷◌, ◌++◌, map, length, ℤ, pos, ◌+ℤ◌, ◌*ℤ◌, nat_abs, sym, ap, ◌∙◌, subst, inl, inr, arith, lit<}
use Rattle.std.proofs.lemmas.List.{length_push, map_push, length-map}
use Rattle.std.proofs.lemmas.Int.{ints}
use Rattle.std.proofs.lemmas.List.Sums.{fold_push}
use Rattle.std.proofs.lemmas.Bool.{cases_lt}
use Rattle.kinds.specs.declared.point.Point.{Point}
use Rattle.schemes.specs.declared.tally.Tally.{Tally}
use Rattle.schemes.specs.Fractions.{Fraction, Worth, mean, total}
use Rattle.schemes.specs.PointAmounts.{Tallied}
use Rattle.schemes.specs.Readings.{joined_by}
use Rattle.schemes.proofs.Joined.{joined_few, joined_full}
use Rattle.schemes.proofs.Sizes.{held, held_is}

total_push : (f : Point → ℤ) (ps : List Point) (p : Point) → total (map f (ps ++ p ∷ [])) ≡ total (map f ps) +ℤ f p
total_push f ps p = ap total (map_push f ps p) ∙ fold_push ◌+ℤ◌ (pos 0) (map f ps) (f p)

pub tallied_few : (t r : Tally) (p : Point) (ps : List Point) → t.count < 8 → r.count ≡ t.count + 1 → r.x ≡ t.x +ℤ p.x → r.y ≡ t.y +ℤ p.y → r.z ≡ t.z +ℤ p.z → Tallied t ps → Tallied r (joined_by ps p)
tallied_few t r p ps few counted x y z h = rw (joined_few ps p (subst (λ n. n < 8) h.counted few)) (record {
  counted = counted ∙ ap (λ n. n + 1) h.counted ∙ sym (length_push ps p);
  by_x = x ∙ ap (λ n. n +ℤ p.x) h.by_x ∙ sym (total_push (λ q. q.x) ps p);
  by_y = y ∙ ap (λ n. n +ℤ p.y) h.by_y ∙ sym (total_push (λ q. q.y) ps p);
  by_z = z ∙ ap (λ n. n +ℤ p.z) h.by_z ∙ sym (total_push (λ q. q.z) ps p);
})

pub tallied_more : (t r : Tally) (p : Point) (ps : List Point) → (t.count < 8 → r.count ≡ t.count + 1) → (t.count < 8 → (r.x ≡ t.x +ℤ p.x) × (r.y ≡ t.y +ℤ p.y) × (r.z ≡ t.z +ℤ p.z)) → (8 ≤ t.count → r ≡ t) → Tallied t ps → Tallied r (joined_by ps p)
tallied_more t r p ps counted summed full h = elim (cases_lt t.count 8) [
  | inl l ↦ tallied_few t r p ps l (counted l) (summed l).0 (summed l).1 (summed l).2 h
  | inr l ↦ rw (joined_full ps p (subst (λ n. 8 ≤ n) h.counted l), full l) h
]

-- a mean is the sum over the count, and of none 0 over 1
pub mean_worth : (f : Point → ℤ) (ps : List Point) (s : ℤ) (n : ℕ) → s ≡ total (map f ps) → n ≡ length ps → Worth (mean (map f ps)) s (max n 1)
unfolding mean
mean_worth f [] s n e h = let z : s ≡ pos 0 = e in omega (arith, ints)
mean_worth f (p ∷ ps) s n e h =
    let m : max n 1 ≡ suc (length (map f ps)) = omega (arith, length-map ps f) in
    rw m (ap (λ z. z *ℤ pos (suc (length (map f ps)))) (sym e))

-- the same of numbers that were stored and are read again
pub mean_read : (f : Point → ℤ) (ps : List Point) (c : ℕ) (s : ℤ) (n : ℕ) → c ≤ 8 → nat_abs s ≤ c * 2 ^ 31 → s ≡ total (map f ps) → c ≡ length ps → n ≡ max c 1 → Worth (mean (map f ps)) (held s) n
mean_read f ps c s n few small e h m =
    let same : held s ≡ s = held_is s (2 ^ 34) (omega arith) (lit< tt) in
    rw (same, m) (mean_worth f ps s c e h)

pub factor_read : (a : Fraction) (k : ℤ) → nat_abs k ≤ 16 → Worth a k 16 → Worth a (held k) 16
factor_read a k small w = rw (held_is k 16 small (lit< tt)) w
