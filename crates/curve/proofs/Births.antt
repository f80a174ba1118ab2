-- The level before a vertex was born gives its position. Assumes nothing.
use Rattle.std.proofs.Common.{◌≡◌, ℕ, zero, suc, ◌+◌, ◌-◌, ◌*◌, ◌/◌, ◌^◌, ◌<◌, ◌≤◌, Bool, true, false, cond, sym, ap, ◌∙◌, ⊎_elim, mul_assoc, mul_comm, div-lt_iff_lt-mul, pow-suc, mul-one, div-mul-le_self, add-one, arith}
use native.Mathlib.Decide.{le_ind}
use Rattle.std.proofs.lemmas.Nat.{mul-le, pow_pos}
use Rattle.std.proofs.lemmas.Bool.{cases_lt}
use Rattle.levels.specs.Level.{Level}
use Rattle.levels.specs.Finer.{level}
use Rattle.levels.specs.Curves.{curve_level}
use Rattle.curve.specs.Positions.{position_of}
use Rattle.levels.proofs.CurveCounts.{vertices_more, vertices_edges, edges_power}
use Rattle.curve.proofs.Places.{position_old, position_new}

-- twice so many
doubled : (a k : ℕ) → 2 * (a * 2 ^ k) ≡ a * 2 ^ suc k
doubled a k = rw (pow-suc 2 k) (omega (arith, mul_assoc a (2 ^ k) 2))

module _ (closed : Bool) (n : ℕ) where
  abbrev m : Level
  m = curve_level closed n

  abbrev at : ℕ → Level
  at j = level m j

  pub vertices_rise : (i j : ℕ) → i ≤ j → (at i).vertices ≤ (at j).vertices
  vertices_rise i j l =
      le_ind
      (λ (k : ℕ). (at i).vertices ≤ (at k).vertices)
      (omega arith)
      (λ k h r. omega (arith, vertices_more closed n k))
      j
      l

  pub born_before : (j b v : ℕ) → (at b).vertices ≤ v → v < (at j).vertices → b < j
  born_before j b v low high = ⊎_elim (λ (l : b < j). l) (λ (l : j ≤ b). absurd (omega (arith, vertices_rise j b l))) (cases_lt b j)

  -- a vertex of the coarsest level
  pub position_kept : (j v : ℕ) → v < n → position_of m j v ≡ v * 2 ^ j
  unfolding level
  position_kept zero v l = sym (mul-one v)
  position_kept (suc j) v l = position_old m j v (omega (arith, vertices_rise 0 j (omega arith))) ∙ omega (arith, position_kept j v l, doubled v j)

  -- the vertex of an edge of level b
  pub position_born : (j b v : ℕ) → b < j → (at b).vertices ≤ v → v < (at (b + 1)).vertices → position_of m j v ≡ (2 * (v - (at b).vertices) + 1) * 2 ^ (j - b - 1)
  position_born j b v l low high =
      let place : ℕ = 2 * (v - (at b).vertices) + 1 in
      le_ind
      (λ (k : ℕ). position_of m k v ≡ place * 2 ^ (k - b - 1))
      (let none : 0 ≡ suc b - b - 1 = omega arith in position_new m b v low ∙ sym (mul-one place) ∙ ap (λ i. place * 2 ^ i) none)
      (λ k h r.
      let older : v < (at k).vertices = omega (arith, vertices_rise (b + 1) k (omega arith)) in
      let more : suc (k - b - 1) ≡ suc k - b - 1 = omega arith in
      position_old m k v older ∙ ap (λ i. 2 * i) r ∙ doubled place (k - b - 1) ∙ ap (λ i. place * 2 ^ i) more)
      j
      l

  -- by how many times the edges of the coarsest level go into a number, its level is known
  pub born_between : (v b : ℕ) → 2 ≤ n → 2 ^ b ≤ (v - cond closed 0 1) / cond closed n (n - 1) → (v - cond closed 0 1) / cond closed n (n - 1) < 2 * 2 ^ b → ((at b).vertices ≤ v) × (v < (at (b + 1)).vertices)
  born_between v b some low high =
      let edges : ℕ = cond closed n (n - 1) in
      let rest : ℕ = v - cond closed 0 1 in
      let positive : 1 ≤ edges = elim closed as (λ c. 1 ≤ cond c n (n - 1)) [ true ↦ omega arith | false ↦ omega arith ] in
      let least : 1 ≤ 2 ^ b * edges = mul-le 1 1 (2 ^ b) edges (pow_pos b) positive in
      let below : 2 ^ b * edges ≤ rest = omega (arith, mul-le (2 ^ b) edges (rest / edges) edges low (omega arith), div-mul-le_self rest edges) in
      let above : rest < 2 * 2 ^ b * edges = (div-lt_iff_lt-mul positive).0 high in
      let here : (at b).vertices ≡ 2 ^ b * edges + cond closed 0 1 = omega (arith, vertices_edges closed n b (omega arith), edges_power closed n b, mul_comm edges (2 ^ b)) in
      let next : (at (b + 1)).edges ≡ 2 * 2 ^ b * edges = edges_power closed n (b + 1) ∙ mul_comm edges (2 ^ (b + 1)) ∙ ap (λ k. k * edges) (ap (λ k. 2 ^ k) (add-one b) ∙ pow-suc 2 b ∙ mul_comm (2 ^ b) 2) in
      (omega arith, omega (arith, vertices_edges closed n (b + 1) (omega arith)))
