-- How many corners of a finer level have an edge for their side. Assumes nothing.
use Rattle.std.proofs.Common.{◌≡◌, ℕ, ◌+◌, ◌*◌, ◌/◌, ◌<◌, eqb, ◌≢◌, sym, refl, ap, ◌∙◌, ⊎_elim, arith}
use Rattle.std.proofs.lemmas.Bool.{cond_both, cond-true, cond-false, lt-ltb, eq-eqb, ne_eqb}
use Rattle.std.proofs.lemmas.Bool.Decides.{nat_tests}
use Rattle.levels.specs.Level.{Level}
use Rattle.levels.specs.Finer.{inner_edge, half_at, finer}
use Rattle.levels.specs.Sound.{Sound, count}
use Rattle.levels.proofs.Counting.{weight, count_alike, count_none, count_split, count_only}
use Rattle.levels.proofs.FinerCounts.{count_sides, count_back, eqb_plus}

-- the half at an edge's tail is the first, and that at its other end the second
pub half_at_tail : (m : Level) (e v : ℕ) → m.tail e ≡ v → half_at m e v ≡ 2 * e
half_at_tail m e v h = let zero' = cond-true {A = ℕ} (eqb (m.tail e) v) 0 1 (eq-eqb (m.tail e) v h) in omega arith

pub half_at_head : (m : Level) (e v : ℕ) → m.tail e ≢ v → half_at m e v ≡ 2 * e + 1
half_at_head m e v h = let one' = cond-false {A = ℕ} (eqb (m.tail e) v) 0 1 (ne_eqb (m.tail e) v h) in omega arith

pub half_below : (m : Level) (e v : ℕ) → e < m.edges → half_at m e v < 2 * m.edges
half_below m e v l = cond_both (eqb (m.tail e) v) 0 1 (λ r. 2 * e + r < 2 * m.edges) (λ _. omega arith) (λ _. omega arith)

two_halves : (e x : ℕ) → weight (eqb e (x / 2)) ≡ weight (eqb (2 * e) x) + weight (eqb (2 * e + 1) x)
two_halves e x = grind (arith, nat_tests)

module _ (m : Level) (sound : Sound m) where
  -- each half of a corner's side is at one of the side's two corners
  halves_once : (x c : ℕ) → c < m.corners → weight (eqb (m.side c) (x / 2)) ≡ weight (eqb (half_at m (m.side c) (m.vertex c)) x) + weight (eqb (half_at m (m.side c) (m.vertex (m.forth c))) x)
  halves_once x c l =
      let e = m.side c in
      let apart = sound.apart e (sound.sided c l) in
      let both = two_halves e x in
      ⊎_elim
      (λ on.
      let here = half_at_tail m e (m.vertex c) on.0 in
      let there = half_at_head m e (m.vertex (m.forth c)) (λ h. apart (h ∙ sym on.1)) in
      rw (here, there) both)
      (λ (turned : (m.tail e ≡ m.vertex (m.forth c)) × (m.head e ≡ m.vertex c)).
      let here = half_at_head m e (m.vertex c) (λ h. apart (h ∙ sym turned.1)) in
      let there = half_at_tail m e (m.vertex (m.forth c)) turned.0 in
      rw (here, there) (omega (arith, both)))
      (sound.joined c l)

  -- a half has as many as its edge had
  pub uses_half : (x : ℕ) → x < 2 * m.edges → count (λ d. eqb ((finer m).side d) x) (finer m).corners ≡ count (λ c. eqb (m.side c) (x / 2)) m.corners
  uses_half x l =
      omega (
        arith,
        count_sides m (λ e. eqb e x),
        count_none (λ c. eqb (inner_edge m c) x) m.corners (λ c k. ne_eqb (inner_edge m c) x (omega arith)),
        count_none (λ c. eqb (inner_edge m (m.back c)) x) m.corners (λ c k. ne_eqb (inner_edge m (m.back c)) x (omega arith)),
        count_alike (λ c. eqb (half_at m (m.side (m.back c)) (m.vertex c)) x) (λ c. eqb (half_at m (m.side (m.back c)) (m.vertex (m.forth (m.back c)))) x) m.corners (λ c k. rw (sound.backs c k).1 refl),
        count_back m sound (λ c. eqb (half_at m (m.side c) (m.vertex (m.forth c))) x),
        count_split (λ c. eqb (m.side c) (x / 2)) (λ c. eqb (half_at m (m.side c) (m.vertex c)) x) (λ c. eqb (half_at m (m.side c) (m.vertex (m.forth c))) x) m.corners (halves_once x),
      )

  -- an edge to a face's vertex has two
  pub uses_inner : (c : ℕ) → c < m.corners → count (λ d. eqb ((finer m).side d) (inner_edge m c)) (finer m).corners ≡ 2
  uses_inner c l =
      let x = inner_edge m c in
      omega (
        arith,
        count_sides m (λ e. eqb e x),
        count_none (λ d. eqb (half_at m (m.side d) (m.vertex d)) x) m.corners (λ d k. ne_eqb (half_at m (m.side d) (m.vertex d)) x (omega (arith, half_below m (m.side d) (m.vertex d) (sound.sided d k)))),
        count_none (λ d. eqb (half_at m (m.side (m.back d)) (m.vertex d)) x) m.corners (λ d k. ne_eqb (half_at m (m.side (m.back d)) (m.vertex d)) x (omega (arith, half_below m (m.side (m.back d)) (m.vertex d) (sound.sided (m.back d) (sound.backs d k).0)))),
        count_alike (λ d. eqb (inner_edge m d) x) (λ d. eqb d c) m.corners (λ d k. eqb_plus (2 * m.edges) d c),
        count_alike (λ d. eqb (inner_edge m (m.back d)) x) (λ d. eqb (m.back d) c) m.corners (λ d k. eqb_plus (2 * m.edges) (m.back d) c),
        count_back m sound (λ d. eqb d c),
        count_only c m.corners,
        ap weight (lt-ltb c m.corners l),
      )
