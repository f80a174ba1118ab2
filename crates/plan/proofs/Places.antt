-- What a table keeps when part of it is written. Assumes nothing.
use Rattle.std.proofs.Common.{◌≡◌, ℕ, ◌+◌, ◌<◌, ◌≤◌, ◌⊎◌, List, length, get_or, set, sym, refl, ap, ◌∙◌, subst, inl, inr, ⊎_elim, arith}
use Rattle.std.proofs.lemmas.List.{get_or-set_same, get_or-set_other}
use Rattle.std.proofs.lemmas.Bool.{cases_lt}
use Rattle.plan.specs.declared.scatter.Sort.{Sort}
use Rattle.plan.specs.Sorting.{Keeps, Spaced, Queued}

pub keeps_none : (t : List ℕ) (low high : ℕ) → Keeps t t low high
keeps_none t low high = record { below = λ p h. refl; above = λ p h. refl }

pub keeps_then : {a b c : List ℕ} {low high : ℕ} → Keeps a b low high → Keeps b c low high → Keeps a c low high
keeps_then k l = record { below = λ p h. l.below p h ∙ k.below p h; above = λ p h. l.above p h ∙ k.above p h }

pub keeps_wider : {a b : List ℕ} {low high : ℕ} (low' high' : ℕ) → low' ≤ low → high ≤ high' → Keeps a b low high → Keeps a b low' high'
keeps_wider low' high' l h k = record { below = λ p q. k.below p (omega arith); above = λ p q. k.above p (omega arith) }

pub keeps_set : (t : List ℕ) (low high p v : ℕ) → low ≤ p → p < high → Keeps t (set t p v) low high
keeps_set t low high p v l h = record {
  below = λ q k. get_or-set_other t p q v 0 (λ e. omega arith);
  above = λ q k. get_or-set_other t p q v 0 (λ e. omega arith);
}

-- a part that lies outside
pub kept_part : {a b : List ℕ} {low high : ℕ} → Keeps a b low high → (at n : ℕ) → (at + n ≤ low) ⊎ (high ≤ at) → (i : ℕ) → i < n → get_or b (at + i) 0 ≡ get_or a (at + i) 0
kept_part k at n (inl l) i h = k.below (at + i) (omega arith)
kept_part k at n (inr l) i h = k.above (at + i) (omega arith)

pub queued_kept : {n : ℕ} {s : Sort} {a b : List ℕ} (key : ℕ → ℕ) (xs : List ℕ) → Spaced n s → Keeps a b s.ends (s.out + s.items) → Queued a s key xs → Queued b s key xs
queued_kept {s = s} key xs sp k q = record {
  many = q.many;
  listed = λ i h. kept_part k s.order s.items sp.order_apart i (omega (arith, q.many)) ∙ q.listed i h;
  below = q.below;
  keyed = λ i h. kept_part k s.keys s.items sp.keys_apart (get_or xs i 0) (q.below i h) ∙ q.keyed i h;
  small = q.small;
}

-- a loop that writes f k at each place from `at` on
pub write_step : (f : ℕ → ℕ) (t : List ℕ) (at i : ℕ) → at + i < length t → ((k : ℕ) → k < i → get_or t (at + k) 0 ≡ f k) → (k : ℕ) → k < i + 1 → get_or (set t (at + i) (f i)) (at + k) 0 ≡ f k
write_step f t at i h before k l =
    ⊎_elim (λ (low : k < i). get_or-set_other t (at + i) (at + k) (f i) 0 (λ e. omega arith) ∙ before k low)
    (λ (high : i ≤ k). let here : k ≡ i = omega arith in rw here (get_or-set_same t (at + i) (f i) 0 h))
    (cases_lt k i)

pub keeps_more : {a b : List ℕ} {low : ℕ} (i v : ℕ) → Keeps a b low (low + i) → Keeps a (set b (low + i) v) low (low + (i + 1))
keeps_more {b = b} {low = low} i v k = keeps_then (keeps_wider low (low + (i + 1)) (omega arith) (omega arith) k) (keeps_set b low (low + (i + 1)) (low + i) v (omega arith) (omega arith))

-- what a turn of a sort reads: item i, and its key
pub item_read : {t : List ℕ} {s : Sort} {key : ℕ → ℕ} {xs : List ℕ} → Queued t s key xs → (i : ℕ) → i < s.items → (item : ℕ) → item ≡ get_or t (s.order + i) 0 → item ≡ get_or xs i 0
item_read q i h item e = e ∙ q.listed i (omega (arith, q.many))

pub key_read : {t : List ℕ} {s : Sort} {key : ℕ → ℕ} {xs : List ℕ} → Queued t s key xs → (i : ℕ) → i < s.items → (item k : ℕ) → item ≡ get_or t (s.order + i) 0 → k ≡ get_or t (s.keys + item) 0 → k ≡ key (get_or xs i 0)
key_read {t = t} {s = s} q i h item k e f =
    f ∙ ap (λ x. get_or t (s.keys + x) 0) (item_read q i h item e) ∙ q.keyed i (omega (arith, q.many))

-- f k stands at each of i places from `at` on, and nothing else has changed
abbrev pub Wrote : (ℕ → ℕ) → List ℕ → List ℕ → ℕ → ℕ → Type 0
Wrote f before t at i = ((k : ℕ) → k < i → get_or t (at + k) 0 ≡ f k) × Keeps before t at (at + i)

pub wrote_none : (f : ℕ → ℕ) (t : List ℕ) (at : ℕ) → Wrote f t t at 0
wrote_none f t at = (λ k l. absurd (omega arith), keeps_none _ _ _)

pub wrote_more : (f : ℕ → ℕ) {before t after : List ℕ} (at i v : ℕ) → Wrote f before t at i → at + i < length t → v ≡ f i → after ≡ set t (at + i) v → Wrote f before after at (i + 1)
wrote_more f {before} {t} {after} at i v wrote room value e =
    subst (λ (l : List ℕ). Wrote f before l at (i + 1)) (sym (e ∙ ap (set t (at + i)) value)) (write_step f t at i room wrote.0, keeps_more i (f i) wrote.1)

pub wrote_at : {f : ℕ → ℕ} {before t : List ℕ} {p i : ℕ} (q n : ℕ) → p ≡ q → i ≡ n → Wrote f before t p i → Wrote f before t q n
wrote_at {f} {before} {t} {p} {i} q n e h w = subst (λ k. Wrote f before t q k) h (subst (λ k. Wrote f before t k i) e w)
