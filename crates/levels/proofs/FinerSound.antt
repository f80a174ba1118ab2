-- Refinement keeps a level sound, and covered. Assumes nothing.
use Rattle.std.proofs.Common.{◌≡◌, ℕ, zero, suc, ◌+◌, ◌-◌, ◌*◌, ◌/◌, ◌%◌, ◌<◌, ◌≤◌, cond, eqb, ltb, ◌≢◌, ◌⊎◌, sym, ap, ◌∙◌, subst, inl, inr, ⊎_elim, arith}
use Rattle.std.proofs.lemmas.Bool.{cond_both, cond-true, cond-false, eq-eqb, ne_eqb, eqb-true, eqb-false, ltb-true, cases_lt}
use Rattle.levels.specs.Level.{Level}
use Rattle.levels.specs.Finer.{edge_vertex, face_vertex, inner_edge, half_at, finer, level}
use Rattle.levels.specs.Incidence.{touches}
use Rattle.levels.specs.Sound.{Sound, Covered, Runs, count}
use Rattle.levels.proofs.Places.{by_quarters, by_parts, by_halves, tail_first, head_first, tail_second, head_second, tail_inner, head_inner, vertex_0, vertex_1, vertex_2, vertex_3, side_0, side_1, side_2, side_3}
use Rattle.levels.proofs.FinerCounts.{face_quad, corners_at_kept, corners_at_edge, corners_at_face, edges_at_kept, edges_at_edge, edges_at_face}
use Rattle.levels.proofs.Uses.{half_at_tail, half_at_head, half_below, uses_half, uses_inner}

module _ (m : Level) where
  -- the corners after 4c to 4c + 3
  forth_0 : (c : ℕ) → (finer m).forth (4 * c) ≡ 4 * c + 1
  forth_0 c = cond-false (eqb (4 * c % 4) 3) (4 * c - 3) (4 * c + 1) (ne_eqb (4 * c % 4) 3 (omega arith))

  forth_1 : (c : ℕ) → (finer m).forth (4 * c + 1) ≡ 4 * c + 2
  forth_1 c = cond-false (eqb ((4 * c + 1) % 4) 3) (4 * c + 1 - 3) (4 * c + 1 + 1) (ne_eqb ((4 * c + 1) % 4) 3 (omega arith)) ∙ omega arith

  forth_2 : (c : ℕ) → (finer m).forth (4 * c + 2) ≡ 4 * c + 3
  forth_2 c = cond-false (eqb ((4 * c + 2) % 4) 3) (4 * c + 2 - 3) (4 * c + 2 + 1) (ne_eqb ((4 * c + 2) % 4) 3 (omega arith)) ∙ omega arith

  forth_3 : (c : ℕ) → (finer m).forth (4 * c + 3) ≡ 4 * c
  forth_3 c = cond-true (eqb ((4 * c + 3) % 4) 3) (4 * c + 3 - 3) (4 * c + 3 + 1) (eq-eqb ((4 * c + 3) % 4) 3 (omega arith)) ∙ omega arith

  finer_back : (d : ℕ) → d < 4 * m.corners → ((finer m).back d < 4 * m.corners) × ((finer m).forth ((finer m).back d) ≡ d) × ((finer m).back d / 4 ≡ d / 4)
  finer_back d l =
      cond_both (eqb (d % 4) 0) (d + 3) (d - 1) (λ b. (b < 4 * m.corners) × ((finer m).forth b ≡ d) × (b / 4 ≡ d / 4))
      (λ t. let r = eqb-true (d % 4) 0 t in (omega arith, cond-true (eqb ((d + 3) % 4) 3) (d + 3 - 3) (d + 3 + 1) (eq-eqb ((d + 3) % 4) 3 (omega arith)) ∙ omega arith, omega arith))
      (λ f. let r = eqb-false (d % 4) 0 f in (omega arith, cond-false (eqb ((d - 1) % 4) 3) (d - 1 - 3) (d - 1 + 1) (ne_eqb ((d - 1) % 4) 3 (omega arith)) ∙ omega arith, omega arith))

  finer_forth : (d : ℕ) → d < 4 * m.corners → ((finer m).forth d < 4 * m.corners) × ((finer m).back ((finer m).forth d) ≡ d) × ((finer m).forth d / 4 ≡ d / 4)
  finer_forth d l =
      cond_both (eqb (d % 4) 3) (d - 3) (d + 1) (λ b. (b < 4 * m.corners) × ((finer m).back b ≡ d) × (b / 4 ≡ d / 4))
      (λ t. let r = eqb-true (d % 4) 3 t in (omega arith, cond-true (eqb ((d - 3) % 4) 0) (d - 3 + 3) (d - 3 - 1) (eq-eqb ((d - 3) % 4) 0 (omega arith)) ∙ omega arith, omega arith))
      (λ f. let r = eqb-false (d % 4) 3 f in (omega arith, cond-false (eqb ((d + 1) % 4) 0) (d + 1 + 3) (d + 1 - 1) (ne_eqb ((d + 1) % 4) 0 (omega arith)) ∙ omega arith, omega arith))

  -- the half at an end runs between that end and the edge's vertex
  half_runs : (e v : ℕ) → e < m.edges → m.tail e ≢ m.head e → (m.tail e ≡ v) ⊎ (m.head e ≡ v) → Runs (finer m) (half_at m e v) v (edge_vertex m e)
  half_runs e v l apart = ⊎_elim (λ at. rw (half_at_tail m e v at) (inl (tail_first m e l ∙ at, head_first m e l))) (λ at. rw (half_at_head m e v (λ h. apart (h ∙ sym at))) (inr (tail_second m e l, head_second m e l ∙ at)))

pub runs_turned : (m : Level) (e p q : ℕ) → Runs m e p q → Runs m e q p
runs_turned m e p q = ⊎_elim (λ on. inr on) (λ turned. inl turned)

runs_at : (m : Level) {e e' p p' q q' : ℕ} → e ≡ e' → p ≡ p' → q ≡ q' → Runs m e' p' q' → Runs m e p q
runs_at m a b c r = rw (a, b, c) r

module _ (m : Level) (sound : Sound m) where
  -- the half of a corner's side at one of its ends
  half_end : (c v : ℕ) → c < m.corners → (m.tail (m.side c) ≡ v) ⊎ (m.head (m.side c) ≡ v) → Runs (finer m) (half_at m (m.side c) v) v (edge_vertex m (m.side c))
  half_end c v l = half_runs m (m.side c) v (sound.sided c l) (sound.apart (m.side c) (sound.sided c l))

  half_here : (c : ℕ) → c < m.corners → Runs (finer m) (half_at m (m.side c) (m.vertex c)) (m.vertex c) (edge_vertex m (m.side c))
  half_here c l = half_end c (m.vertex c) l (⊎_elim (λ on. inl on.0) (λ turned. inr turned.1) (sound.joined c l))

  half_next : (c : ℕ) → c < m.corners → Runs (finer m) (half_at m (m.side c) (m.vertex (m.forth c))) (m.vertex (m.forth c)) (edge_vertex m (m.side c))
  half_next c l = half_end c (m.vertex (m.forth c)) l (⊎_elim (λ on. inr on.1) (λ turned. inl turned.0) (sound.joined c l))

  half_last : (c : ℕ) → c < m.corners → Runs (finer m) (half_at m (m.side (m.back c)) (m.vertex c)) (m.vertex c) (edge_vertex m (m.side (m.back c)))
  half_last c l = subst (λ d. Runs (finer m) (half_at m (m.side (m.back c)) (m.vertex d)) (m.vertex d) (edge_vertex m (m.side (m.back c)))) (sound.backs c l).1 (half_next (m.back c) (sound.backs c l).0)

  finer_joined : (d : ℕ) → d < 4 * m.corners → Runs (finer m) ((finer m).side d) ((finer m).vertex d) ((finer m).vertex ((finer m).forth d))
  finer_joined =
      by_quarters (λ d. Runs (finer m) ((finer m).side d) ((finer m).vertex d) ((finer m).vertex ((finer m).forth d))) m.corners
      (λ c l. runs_at (finer m) (side_0 m c) (vertex_0 m c) (ap (finer m).vertex (forth_0 m c) ∙ vertex_1 m c) (half_here c l))
      (λ c l. runs_at (finer m) (side_1 m c) (vertex_1 m c) (ap (finer m).vertex (forth_1 m c) ∙ vertex_2 m c) (inl (tail_inner m c, head_inner m c)))
      (λ c l. runs_at (finer m) (side_2 m c) (vertex_2 m c) (ap (finer m).vertex (forth_2 m c) ∙ vertex_3 m c) (inr (tail_inner m (m.back c), head_inner m (m.back c) ∙ ap (face_vertex m) (sound.backs c l).2)))
      (λ c l. runs_at (finer m) (side_3 m c) (vertex_3 m c) (ap (finer m).vertex (forth_3 m c) ∙ vertex_0 m c) (runs_turned (finer m) _ _ _ (half_last c l)))

  finer_placed : (d : ℕ) → d < 4 * m.corners → (finer m).vertex d < (finer m).vertices
  finer_placed =
      by_quarters (λ d. (finer m).vertex d < (finer m).vertices) m.corners
      (λ c l. omega (arith, vertex_0 m c, sound.placed c l))
      (λ c l. omega (arith, vertex_1 m c, sound.sided c l))
      (λ c l. omega (arith, vertex_2 m c, sound.faced c l))
      (λ c l. omega (arith, vertex_3 m c, sound.sided (m.back c) (sound.backs c l).0))

  finer_sided : (d : ℕ) → d < 4 * m.corners → (finer m).side d < (finer m).edges
  finer_sided =
      by_quarters (λ d. (finer m).side d < (finer m).edges) m.corners
      (λ c l. omega (arith, side_0 m c, half_below m (m.side c) (m.vertex c) (sound.sided c l)))
      (λ c l. omega (arith, side_1 m c))
      (λ c l. omega (arith, side_2 m c, (sound.backs c l).0))
      (λ c l. omega (arith, side_3 m c, half_below m (m.side (m.back c)) (m.vertex c) (sound.sided (m.back c) (sound.backs c l).0)))

  finer_tails : (e : ℕ) → e < (finer m).edges → (finer m).tail e < (finer m).vertices
  finer_tails =
      by_halves (λ e. (finer m).tail e < (finer m).vertices) m.edges m.corners
      (λ e l. omega (arith, tail_first m e l, sound.tails e l))
      (λ e l. omega (arith, tail_second m e l))
      (λ c l. omega (arith, tail_inner m c, sound.sided c l))

  finer_heads : (e : ℕ) → e < (finer m).edges → (finer m).head e < (finer m).vertices
  finer_heads =
      by_halves (λ e. (finer m).head e < (finer m).vertices) m.edges m.corners
      (λ e l. omega (arith, head_first m e l))
      (λ e l. omega (arith, head_second m e l, sound.heads e l))
      (λ c l. omega (arith, head_inner m c, sound.faced c l))

  finer_apart : (e : ℕ) → e < (finer m).edges → (finer m).tail e ≢ (finer m).head e
  finer_apart =
      by_halves (λ e. (finer m).tail e ≢ (finer m).head e) m.edges m.corners
      (λ e l. omega (arith, tail_first m e l, head_first m e l, sound.tails e l))
      (λ e l. omega (arith, tail_second m e l, head_second m e l, sound.heads e l))
      (λ c l. omega (arith, tail_inner m c, head_inner m c, sound.sided c l))

  -- an edge that a finer level has lies in as many faces as the edge that it is a half of, or in two
  finer_uses : (e : ℕ) → e < (finer m).edges → (P : ℕ → Type 0) → ((d : ℕ) → d < m.edges → P (count (λ c. eqb (m.side c) d) m.corners)) → P 2 → P (count (λ c. eqb ((finer m).side c) e) (finer m).corners)
  finer_uses e l P half inner =
      ⊎_elim
      (λ (low : e < 2 * m.edges). subst P (sym (uses_half m sound e low)) (half (e / 2) (omega arith)))
      (λ (high : 2 * m.edges ≤ e).
      let c = e - 2 * m.edges in
      let same : inner_edge m c ≡ e = omega arith in
      subst (λ x. P (count (λ d. eqb ((finer m).side d) x) (finer m).corners)) same (subst P (sym (uses_inner m sound c (omega arith))) inner))
      (cases_lt e (2 * m.edges))

  finer_dimensions : (v : ℕ) → v < (finer m).vertices → (finer m).dimension v ≤ 2
  finer_dimensions v l =
      let later : cond (ltb v (m.vertices + m.edges)) (cond (m.curve (v - m.vertices)) 1 2) 2 ≤ 2 = cond_both (ltb v (m.vertices + m.edges)) (cond (m.curve (v - m.vertices)) 1 2) 2 (λ d. d ≤ 2) (λ _. cond_both (m.curve (v - m.vertices)) 1 2 (λ d. d ≤ 2) (λ _. omega arith) (λ _. omega arith)) (λ _. omega arith) in
      cond_both (ltb v m.vertices) (m.dimension v) _ (λ d. d ≤ 2) (λ t. sound.dimensions v (ltb-true v m.vertices t)) (λ _. later)

  pub finer_sound : Sound (finer m)
  finer_sound = record {
    tails = finer_tails;
    heads = finer_heads;
    apart = finer_apart;
    faced = λ d l. omega arith;
    placed = finer_placed;
    sided = finer_sided;
    backs = finer_back m;
    forths = finer_forth m;
    joined = finer_joined;
    edge_corners = λ e l. finer_uses e l (λ n. n ≤ 2) sound.edge_corners (omega arith);
    face_corners = λ f l. omega (arith, face_quad m f l);
    vertex_edges =
        by_parts (λ v. count (λ e. touches (finer m) e v) (finer m).edges ≤ 8) m.vertices m.edges m.faces
        (λ v l. omega (arith, edges_at_kept m sound v l, sound.vertex_edges v l))
        (λ e l. omega (arith, edges_at_edge m sound e l, sound.edge_corners e l))
        (λ f l. omega (arith, edges_at_face m sound f, sound.face_corners f l));
    vertex_corners =
        by_parts (λ v. count (λ c. eqb ((finer m).vertex c) v) (finer m).corners ≤ 8) m.vertices m.edges m.faces
        (λ v l. omega (arith, corners_at_kept m sound v l, sound.vertex_corners v l))
        (λ e l. omega (arith, corners_at_edge m sound e l, sound.edge_corners e l))
        (λ f l. omega (arith, corners_at_face m sound f, sound.face_corners f l));
    dimensions = finer_dimensions;
  }

  pub finer_covered : Covered m → Covered (finer m)
  finer_covered covered = record {
    used_edges = λ e l. finer_uses e l (λ n. 1 ≤ n) covered.used_edges (omega arith);
    used_faces = λ f l. omega (arith, face_quad m f l);
    used_vertices =
        by_parts (λ v. 1 ≤ count (λ c. eqb ((finer m).vertex c) v) (finer m).corners) m.vertices m.edges m.faces
        (λ v l. omega (arith, corners_at_kept m sound v l, covered.used_vertices v l))
        (λ e l. omega (arith, corners_at_edge m sound e l, covered.used_edges e l))
        (λ f l. omega (arith, corners_at_face m sound f, covered.used_faces f l));
  }

pub level_sound : (m : Level) → Sound m → (j : ℕ) → Sound (level m j)
unfolding level
level_sound m sound zero = sound
level_sound m sound (suc j) = finer_sound (level m j) (level_sound m sound j)

pub level_covered : (m : Level) → Sound m → Covered m → (j : ℕ) → Covered (level m j)
unfolding level
level_covered m sound covered zero = covered
level_covered m sound covered (suc j) = finer_covered (level m j) (level_sound m sound j) (level_covered m sound covered j)
