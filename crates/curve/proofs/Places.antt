-- Positions along a curve and the numbers there determine each other, and edges run from one position to the next. Assumes nothing.
use Rattle.std.proofs.Common.{◌≡◌, ℕ, zero, suc, ◌+◌, ◌-◌, ◌*◌, ◌/◌, ◌%◌, ◌<◌, ◌≤◌, Bool, true, false, cond, ◌&&◌, eqb, ltb, ◌⊎◌, sym, refl, ap, ◌∙◌, inl, inr, ⊎_elim, arith}
use Rattle.std.proofs.lemmas.Bool.{cases_lt, cond-true, cond-false, eq-eqb, ne_eqb, lt-ltb, le-ltb, and_right}
use Rattle.std.proofs.lemmas.Bool.Decides.{nat_tests}
use Rattle.levels.specs.Level.{Level}
use Rattle.levels.specs.Finer.{level, halves}
use Rattle.levels.specs.Curves.{curve_level}
use Rattle.curve.specs.Positions.{number_at, position_of, after}
use Rattle.levels.proofs.CurveCounts.{corners_none, edges_twice, vertices_more, vertices_edges, end_most}

-- ---- one level more

pub number_even : (m : Level) (j p : ℕ) → p % 2 ≡ 0 → number_at m (suc j) p ≡ number_at m j (p / 2)
number_even m j p e = cond-true (eqb (p % 2) 0) _ _ (eq-eqb (p % 2) 0 e)

pub number_odd : (m : Level) (j p : ℕ) → p % 2 ≡ 1 → number_at m (suc j) p ≡ (level m j).vertices + p / 2
number_odd m j p e = cond-false (eqb (p % 2) 0) _ _ (ne_eqb (p % 2) 0 (λ z. omega arith))

pub position_old : (m : Level) (j v : ℕ) → v < (level m j).vertices → position_of m (suc j) v ≡ 2 * position_of m j v
position_old m j v l = cond-true (ltb v (level m j).vertices) _ _ (lt-ltb v (level m j).vertices l)

pub position_new : (m : Level) (j v : ℕ) → (level m j).vertices ≤ v → position_of m (suc j) v ≡ 2 * (v - (level m j).vertices) + 1
position_new m j v l = cond-false (ltb v (level m j).vertices) _ _ (le-ltb v (level m j).vertices l)

pub cases_even : (p : ℕ) → (p % 2 ≡ 0) ⊎ (p % 2 ≡ 1)
cases_even p = ⊎_elim (λ (l : p % 2 < 1). inl (omega arith)) (λ (l : 1 ≤ p % 2). inr (omega arith)) (cases_lt (p % 2) 1)

first_half : {A : Type 0} (m : Level) (e : ℕ) (x y z : A) → e < 2 * m.edges → e % 2 ≡ 0 → halves m e x y z ≡ x
first_half m e x y z l h = cond-true (ltb e (2 * m.edges)) _ _ (lt-ltb e (2 * m.edges) l) ∙ cond-true (eqb (e % 2) 0) _ _ (eq-eqb (e % 2) 0 h)

second_half : {A : Type 0} (m : Level) (e : ℕ) (x y z : A) → e < 2 * m.edges → e % 2 ≡ 1 → halves m e x y z ≡ y
second_half m e x y z l h = cond-true (ltb e (2 * m.edges)) _ _ (lt-ltb e (2 * m.edges) l) ∙ cond-false (eqb (e % 2) 0) _ _ (ne_eqb (e % 2) 0 (λ z. omega arith))

-- ---- there and back

module _ (closed : Bool) (n : ℕ) (some : 1 ≤ n) where
  abbrev m : Level
  m = curve_level closed n

  abbrev at : ℕ → Level
  at j = level m j

  -- half of a position of the next level is a position, and if the position is odd, it is an edge
  pub half_even : (j p : ℕ) → p < (at (suc j)).vertices → p % 2 ≡ 0 → p / 2 < (at j).vertices
  half_even j p l e = omega (arith, vertices_more closed n j, vertices_edges closed n j some, end_most closed n)

  pub half_odd : (j p : ℕ) → p < (at (suc j)).vertices → p % 2 ≡ 1 → p / 2 < (at j).edges
  half_odd j p l e = omega (arith, vertices_more closed n j, vertices_edges closed n j some, end_most closed n)

  pub number_below : (j p : ℕ) → p < (at j).vertices → number_at m j p < (at j).vertices
  unfolding level
  number_below zero p l = l
  number_below (suc j) p l =
      ⊎_elim
      (λ (e : p % 2 ≡ 0). omega (arith, number_even m j p e, number_below j (p / 2) (half_even j p l e), vertices_more closed n j))
      (λ (e : p % 2 ≡ 1). omega (arith, number_odd m j p e, half_odd j p l e, vertices_more closed n j))
      (cases_even p)

  pub position_below : (j v : ℕ) → v < (at j).vertices → position_of m j v < (at j).vertices
  unfolding level
  position_below zero v l = l
  position_below (suc j) v l =
      ⊎_elim
      (λ (h : v < (at j).vertices). omega (arith, position_old m j v h, position_below j v h, vertices_more closed n j, vertices_edges closed n j some, end_most closed n))
      (λ (h : (at j).vertices ≤ v). omega (arith, position_new m j v h, vertices_more closed n j, vertices_edges closed n j some, l))
      (cases_lt v (at j).vertices)

  pub position_number : (j p : ℕ) → p < (at j).vertices → position_of m j (number_at m j p) ≡ p
  unfolding level
  position_number zero p l = refl
  position_number (suc j) p l =
      ⊎_elim
      (λ (e : p % 2 ≡ 0).
      let low = number_below j (p / 2) (half_even j p l e) in
      ap (position_of m (suc j)) (number_even m j p e)
      ∙ position_old m j (number_at m j (p / 2)) low
      ∙ omega (arith, position_number j (p / 2) (half_even j p l e)))
      (λ (e : p % 2 ≡ 1).
      ap (position_of m (suc j)) (number_odd m j p e)
      ∙ position_new m j ((at j).vertices + p / 2) (omega arith)
      ∙ omega arith)
      (cases_even p)

  pub number_position : (j v : ℕ) → v < (at j).vertices → number_at m j (position_of m j v) ≡ v
  unfolding level
  number_position zero v l = refl
  number_position (suc j) v l =
      ⊎_elim
      (λ (h : v < (at j).vertices).
      ap (number_at m (suc j)) (position_old m j v h)
      ∙ number_even m j (2 * position_of m j v) (omega arith)
      ∙ ap (number_at m j) (omega arith)
      ∙ number_position j v h)
      (λ (h : (at j).vertices ≤ v).
      ap (number_at m (suc j)) (position_new m j v h)
      ∙ number_odd m j (2 * (v - (at j).vertices) + 1) (omega arith)
      ∙ omega arith)
      (cases_lt v (at j).vertices)

  -- ---- edges run from each position to the next

  pub tail_at : (j e : ℕ) → e < (at j).edges → (at j).tail e ≡ number_at m j e
  unfolding level
  tail_at zero e l = refl
  tail_at (suc j) e l =
      let half : e < 2 * (at j).edges = omega (arith, corners_none closed n j, l) in
      ⊎_elim
      (λ (h : e % 2 ≡ 0). first_half (at j) e _ _ _ half h ∙ tail_at j (e / 2) (omega arith) ∙ sym (number_even m j e h))
      (λ (h : e % 2 ≡ 1). second_half (at j) e _ _ _ half h ∙ sym (number_odd m j e h))
      (cases_even e)

  -- the position after an even one is odd, and the one after an odd one is twice that after its half
  after_even : (edges e : ℕ) → e % 2 ≡ 0 → after closed (2 * edges) e ≡ e + 1
  after_even edges e h = cond-false (closed && eqb (e + 1) (2 * edges)) _ _ (and_right closed (eqb (e + 1) (2 * edges)) (ne_eqb (e + 1) (2 * edges) (λ z. omega arith)))

  after_odd : (edges e : ℕ) → e % 2 ≡ 1 → after closed (2 * edges) e ≡ 2 * after closed edges (e / 2)
  after_odd edges e h = elim closed as (λ c. after c (2 * edges) e ≡ 2 * after c edges (e / 2)) [ true ↦ grind (arith, nat_tests) | false ↦ omega arith ]

  pub head_at : (j e : ℕ) → e < (at j).edges → (at j).head e ≡ number_at m j (after closed (at j).edges e)
  unfolding level
  head_at zero e l = elim closed as (λ c. cond (c && eqb (e + 1) n) 0 (e + 1) ≡ after c (cond c n (n - 1)) e) [ true ↦ refl | false ↦ refl ]
  head_at (suc j) e l =
      let edges = (at j).edges in
      let half : e < 2 * edges = omega (arith, corners_none closed n j, l) in
      let twice : 2 * edges ≡ (at (suc j)).edges = sym (edges_twice closed n j) in
      ⊎_elim
      (λ (h : e % 2 ≡ 0).
      first_half (at j) e _ _ _ half h
      ∙ omega arith
      ∙ sym (number_odd m j (e + 1) (omega arith))
      ∙ ap (number_at m (suc j)) (sym (after_even edges e h) ∙ ap (λ k. after closed k e) twice))
      (λ (h : e % 2 ≡ 1).
      second_half (at j) e _ _ _ half h
      ∙ head_at j (e / 2) (omega arith)
      ∙ ap (number_at m j) (omega arith)
      ∙ sym (number_even m j (2 * after closed edges (e / 2)) (omega arith))
      ∙ ap (number_at m (suc j)) (sym (after_odd edges e h) ∙ ap (λ k. after closed k e) twice))
      (cases_even e)
