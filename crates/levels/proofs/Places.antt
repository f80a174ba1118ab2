-- A finer level's vertices, edges and corners by what they come from. Assumes nothing.
use Rattle.std.proofs.Common.{◌≡◌, ℕ, zero, suc, ◌+◌, ◌-◌, ◌*◌, ◌/◌, ◌%◌, ◌<◌, ◌≤◌, eqb, refl, ap, ◌∙◌, subst, ⊎_elim, arith}
use Rattle.std.proofs.lemmas.Bool.{cases_lt, cond-true, lt-ltb, le-ltb, eq-eqb, ne_eqb}
use Rattle.levels.specs.Level.{Level}
use Rattle.levels.specs.Finer.{edge_vertex, face_vertex, inner_edge, half_at, halves, quarters, finer}

-- the corners 4c to 4c + 3
module _ {A : Type 0} (c : ℕ) (zeroth first second third : A) where
  pub quarter_0 : quarters (4 * c) zeroth first second third ≡ zeroth
  quarter_0 = cond-true (eqb (4 * c % 4) 0) zeroth _ (eq-eqb (4 * c % 4) 0 (omega arith))

  pub quarter_1 : quarters (4 * c + 1) zeroth first second third ≡ first
  quarter_1 = rw (ne_eqb ((4 * c + 1) % 4) 0 (omega arith), eq-eqb ((4 * c + 1) % 4) 1 (omega arith))

  pub quarter_2 : quarters (4 * c + 2) zeroth first second third ≡ second
  quarter_2 = rw (ne_eqb ((4 * c + 2) % 4) 0 (omega arith), ne_eqb ((4 * c + 2) % 4) 1 (omega arith), eq-eqb ((4 * c + 2) % 4) 2 (omega arith))

  pub quarter_3 : quarters (4 * c + 3) zeroth first second third ≡ third
  quarter_3 = rw (ne_eqb ((4 * c + 3) % 4) 0 (omega arith), ne_eqb ((4 * c + 3) % 4) 1 (omega arith), ne_eqb ((4 * c + 3) % 4) 2 (omega arith))

-- the edges 2e and 2e + 1, and 2E + c
module _ {A : Type 0} (m : Level) (e : ℕ) (first second inner : A) where
  pub half_0 : e < m.edges → halves m (2 * e) first second inner ≡ first
  half_0 l = rw (lt-ltb (2 * e) (2 * m.edges) (omega arith), eq-eqb (2 * e % 2) 0 (omega arith))

  pub half_1 : e < m.edges → halves m (2 * e + 1) first second inner ≡ second
  half_1 l = rw (lt-ltb (2 * e + 1) (2 * m.edges) (omega arith), ne_eqb ((2 * e + 1) % 2) 0 (omega arith))

  pub half_none : halves m (2 * m.edges + e) first second inner ≡ inner
  half_none = rw (le-ltb (2 * m.edges + e) (2 * m.edges) (omega arith))

-- a number below 4n is one of four at some number below n
pub by_quarters : (P : ℕ → Type 0) (n : ℕ) → ((c : ℕ) → c < n → P (4 * c)) → ((c : ℕ) → c < n → P (4 * c + 1)) → ((c : ℕ) → c < n → P (4 * c + 2)) → ((c : ℕ) → c < n → P (4 * c + 3)) → (d : ℕ) → d < 4 * n → P d
by_quarters P n h0 h1 h2 h3 d l = go (d % 4) refl
  where
    at : d / 4 < n
    at = omega arith

    go : (r : ℕ) → d % 4 ≡ r → P d
    go zero e = subst P (omega arith) (h0 (d / 4) at)
    go (suc zero) e = subst P (omega arith) (h1 (d / 4) at)
    go (suc (suc zero)) e = subst P (omega arith) (h2 (d / 4) at)
    go (suc (suc (suc zero))) e = subst P (omega arith) (h3 (d / 4) at)
    go (suc (suc (suc (suc r)))) e = absurd (omega arith)

-- a number below a + b is in the first part or the second
pub by_two : (P : ℕ → Type 0) (a b : ℕ) → ((i : ℕ) → i < a → P i) → ((i : ℕ) → i < b → P (a + i)) → (i : ℕ) → i < a + b → P i
by_two P a b h1 h2 i l = ⊎_elim (λ (low : i < a). h1 i low) (λ (high : a ≤ i). subst P (omega arith) (h2 (i - a) (omega arith))) (cases_lt i a)

pub by_parts : (P : ℕ → Type 0) (a b c : ℕ) → ((i : ℕ) → i < a → P i) → ((i : ℕ) → i < b → P (a + i)) → ((i : ℕ) → i < c → P (a + b + i)) → (i : ℕ) → i < a + b + c → P i
by_parts P a b c h1 h2 = by_two P (a + b) c (by_two P a b h1 h2)

-- a number below 2a + c is one of two at some number below a, or past them
pub by_halves : (P : ℕ → Type 0) (a c : ℕ) → ((i : ℕ) → i < a → P (2 * i)) → ((i : ℕ) → i < a → P (2 * i + 1)) → ((i : ℕ) → i < c → P (2 * a + i)) → (i : ℕ) → i < 2 * a + c → P i
by_halves P a c h1 h2 h3 i l =
    ⊎_elim
    (λ (low : i < 2 * a). go low (i % 2) refl)
    (λ (high : 2 * a ≤ i). subst P (omega arith) (h3 (i - 2 * a) (omega arith)))
    (cases_lt i (2 * a))
  where
    go : i < 2 * a → (r : ℕ) → i % 2 ≡ r → P i
    go low zero e = subst P (omega arith) (h1 (i / 2) (omega arith))
    go low (suc zero) e = subst P (omega arith) (h2 (i / 2) (omega arith))
    go low (suc (suc r)) e = absurd (omega arith)

module _ (m : Level) where
  pub tail_first : (e : ℕ) → e < m.edges → (finer m).tail (2 * e) ≡ m.tail e
  tail_first e l = half_0 m e _ _ _ l ∙ ap m.tail (omega arith)

  pub head_first : (e : ℕ) → e < m.edges → (finer m).head (2 * e) ≡ m.vertices + e
  head_first e l = half_0 m e _ _ _ l ∙ omega arith

  pub tail_second : (e : ℕ) → e < m.edges → (finer m).tail (2 * e + 1) ≡ m.vertices + e
  tail_second e l = half_1 m e _ _ _ l ∙ omega arith

  pub head_second : (e : ℕ) → e < m.edges → (finer m).head (2 * e + 1) ≡ m.head e
  head_second e l = half_1 m e _ _ _ l ∙ ap m.head (omega arith)

  pub tail_inner : (c : ℕ) → (finer m).tail (2 * m.edges + c) ≡ m.vertices + m.side c
  tail_inner c = half_none m c _ _ _ ∙ ap (λ d. m.vertices + m.side d) (omega arith)

  pub head_inner : (c : ℕ) → (finer m).head (2 * m.edges + c) ≡ m.vertices + m.edges + m.face c
  head_inner c = half_none m c _ _ _ ∙ ap (λ d. m.vertices + m.edges + m.face d) (omega arith)

  pub vertex_0 : (c : ℕ) → (finer m).vertex (4 * c) ≡ m.vertex c
  vertex_0 c = quarter_0 c _ _ _ _ ∙ ap m.vertex (omega arith)

  pub vertex_1 : (c : ℕ) → (finer m).vertex (4 * c + 1) ≡ edge_vertex m (m.side c)
  vertex_1 c = quarter_1 c _ _ _ _ ∙ ap (λ d. edge_vertex m (m.side d)) (omega arith)

  pub vertex_2 : (c : ℕ) → (finer m).vertex (4 * c + 2) ≡ face_vertex m (m.face c)
  vertex_2 c = quarter_2 c _ _ _ _ ∙ ap (λ d. face_vertex m (m.face d)) (omega arith)

  pub vertex_3 : (c : ℕ) → (finer m).vertex (4 * c + 3) ≡ edge_vertex m (m.side (m.back c))
  vertex_3 c = quarter_3 c _ _ _ _ ∙ ap (λ d. edge_vertex m (m.side (m.back d))) (omega arith)

  pub side_0 : (c : ℕ) → (finer m).side (4 * c) ≡ half_at m (m.side c) (m.vertex c)
  side_0 c = quarter_0 c _ _ _ _ ∙ ap (λ d. half_at m (m.side d) (m.vertex d)) (omega arith)

  pub side_1 : (c : ℕ) → (finer m).side (4 * c + 1) ≡ inner_edge m c
  side_1 c = quarter_1 c _ _ _ _ ∙ ap (inner_edge m) (omega arith)

  pub side_2 : (c : ℕ) → (finer m).side (4 * c + 2) ≡ inner_edge m (m.back c)
  side_2 c = quarter_2 c _ _ _ _ ∙ ap (λ d. inner_edge m (m.back d)) (omega arith)

  pub side_3 : (c : ℕ) → (finer m).side (4 * c + 3) ≡ half_at m (m.side (m.back c)) (m.vertex c)
  side_3 c = quarter_3 c _ _ _ _ ∙ ap (λ d. half_at m (m.side (m.back d)) (m.vertex d)) (omega arith)
