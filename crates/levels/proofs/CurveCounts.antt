-- The counts of a curve's levels. Assumes nothing.
use Rattle.std.proofs.Common.{◌≡◌, ℕ, zero, suc, ◌+◌, ◌-◌, ◌*◌, ◌%◌, ◌^◌, ◌≤◌, Bool, true, false, cond, sym, refl, ◌∙◌, mul_assoc, pow-suc, mul-one, arith, pow_mono}
use Rattle.std.proofs.lemmas.Nat.{mul-le, shl_whole}
use Rattle.levels.specs.Level.{Level}
use Rattle.levels.specs.Finer.{level}
use Rattle.levels.specs.Curves.{curve_level}

module _ (closed : Bool) (n : ℕ) where
  abbrev m : Level
  m = curve_level closed n

  abbrev at : ℕ → Level
  at j = level m j

  pub corners_none : (j : ℕ) → (at j).corners ≡ 0
  unfolding level
  corners_none zero = refl
  corners_none (suc j) = omega (arith, corners_none j)

  pub faces_none : (j : ℕ) → (at j).faces ≡ 0
  unfolding level
  faces_none zero = refl
  faces_none (suc j) = corners_none j

  pub edges_twice : (j : ℕ) → (at (suc j)).edges ≡ 2 * (at j).edges
  unfolding level
  edges_twice j = omega (arith, corners_none j)

  pub vertices_more : (j : ℕ) → (at (suc j)).vertices ≡ (at j).vertices + (at j).edges
  unfolding level
  vertices_more j = omega (arith, faces_none j)

  pub edges_power : (j : ℕ) → (at j).edges ≡ cond closed n (n - 1) * 2 ^ j
  unfolding level
  edges_power zero = rw mul-one refl
  edges_power (suc j) = rw (pow-suc 2 j) (omega (arith, edges_twice j, edges_power j, mul_assoc (cond closed n (n - 1)) (2 ^ j) 2))

  pub vertices_edges : (j : ℕ) → 1 ≤ n → (at j).vertices ≡ (at j).edges + cond closed 0 1
  unfolding level
  vertices_edges zero h = elim closed as (λ c. n ≡ cond c n (n - 1) + cond c 0 1) [ true ↦ omega arith | false ↦ omega arith ]
  vertices_edges (suc j) h = omega (arith, vertices_more j, edges_twice j, vertices_edges j h)

  -- ---- bounds

  pub end_most : cond closed 0 1 ≤ 1
  end_most = elim closed as (λ c. cond c 0 1 ≤ 1) [ true ↦ omega arith | false ↦ omega arith ]

  pub two_points : cond closed 3 2 ≤ n → 2 ≤ n
  two_points = elim closed as (λ c. cond c 3 2 ≤ n → 2 ≤ n) [ true ↦ λ h. omega arith | false ↦ λ h. h ]

  pub edges_some : (j : ℕ) → cond closed 3 2 ≤ n → cond closed 2 1 ≤ (at j).edges
  unfolding level
  edges_some zero h = elim closed as (λ c. cond c 3 2 ≤ n → cond c 2 1 ≤ cond c n (n - 1)) [ true ↦ λ l. omega arith | false ↦ λ l. omega arith ] h
  edges_some (suc j) h = omega (arith, edges_some j h, edges_twice j)

  pub edges_positive : (j : ℕ) → cond closed 3 2 ≤ n → 1 ≤ (at j).edges
  edges_positive j h = elim closed as (λ c. cond c 2 1 ≤ (at j).edges → 1 ≤ (at j).edges) [ true ↦ λ l. omega arith | false ↦ λ l. l ] (edges_some j h)

  vertices_power : (j : ℕ) → 1 ≤ n → (at j).vertices ≤ n * 2 ^ j
  unfolding level
  vertices_power zero h = omega (arith, mul-one n)
  vertices_power (suc j) h = rw (pow-suc 2 j) (omega (arith, vertices_more j, vertices_edges j h, vertices_power j h, mul_assoc n (2 ^ j) 2))

  pub vertices_few : (j : ℕ) → cond closed 3 2 ≤ n → n ≤ 1024 → j ≤ 5 → (at j).vertices ≤ 32768
  vertices_few j e h l =
      let two = two_points e in
      omega (arith, vertices_power j (omega arith), mul-le n (2 ^ j) 1024 32 h (pow_mono l))

  pub edges_few : (j : ℕ) → cond closed 3 2 ≤ n → n ≤ 1024 → j ≤ 5 → (at j).edges ≤ 32768
  edges_few j e h l =
      let two = two_points e in
      omega (arith, vertices_few j e h l, vertices_edges j (omega arith))

  -- as code shifts
  pub edges_shifted : (j : ℕ) → n ≤ 1024 → j ≤ 5 → cond closed n (n - 1) * 2 ^ j % 2 ^ 64 ≡ (at j).edges
  edges_shifted j h l =
      let coarse : cond closed n (n - 1) ≤ 1024 = elim closed as (λ c. cond c n (n - 1) ≤ 1024) [ true ↦ h | false ↦ omega arith ] in
      shl_whole (cond closed n (n - 1)) 11 j 64 (omega arith) (omega arith) ∙ sym (edges_power j)
