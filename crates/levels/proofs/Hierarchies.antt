-- The hierarchy over a sound coarsest level is lawful. Assumes nothing.
use Rattle.std.proofs.Common.{◌≡◌, ℕ, ◌+◌, ◌<◌, ◌≤◌, false, cond, ◌&&◌, ltb, leb, List, [], length, ap, ◌∙◌, ⊎_elim, add-one, arith}
use Rattle.std.proofs.lemmas.Bool.{cases_lt, cond_both, cond-true, cond-false, and_parts, and_left, lt-ltb, le-ltb, ltb-true, le-leb, lt-leb}
use Rattle.std.proofs.lemmas.Bool.Decides.{nat_tests}
use Rattle.std.specs.List.{AllByRecursion}
use Rattle.hierarchy.specs.declared.link.Link.{Link}
use Rattle.hierarchy.specs.declared.link.Link.TheVariants.{EdgeEnds, EdgeFaces, FaceVertices, FaceEdges, VertexEdges, VertexFaces}
use Rattle.hierarchy.specs.Lawful.{Rises, Lawful}
use Rattle.hierarchy.specs.Meaning.{sources, targets}
use Rattle.levels.specs.Level.{Level}
use Rattle.levels.specs.Finer.{level, finer}
use Rattle.levels.specs.Incidence.{incident, hierarchy}
use Rattle.levels.specs.Sound.{Sound}
use Rattle.levels.proofs.FinerSound.{level_sound}
use Rattle.levels.proofs.Lists.{sources_at, targets_at, incident_past, incident_rises, incident_short, incident_below}

pub level_more : (m : Level) (j : ℕ) → level m (j + 1) ≡ finer (level m j)
unfolding level
level_more m j = ap (level m) (add-one j)

module _ (m : Level) (L : ℕ) where
  -- counts of a level that the hierarchy has
  count_at : (f : Level → ℕ) (j : ℕ) → j ≤ L → cond (leb j L) (f (level m j)) 0 ≡ f (level m j)
  count_at f j h = cond-true (leb j L) (f (level m j)) 0 (le-leb j L h)

  pub sources_of : (j : ℕ) → j ≤ L → (l : Link) → sources (hierarchy m L) j l ≡ sources_at (level m j) l
  sources_of j h EdgeEnds = count_at (λ n. n.edges) j h
  sources_of j h EdgeFaces = count_at (λ n. n.edges) j h
  sources_of j h FaceVertices = count_at (λ n. n.faces) j h
  sources_of j h FaceEdges = count_at (λ n. n.faces) j h
  sources_of j h VertexEdges = count_at (λ n. n.vertices) j h
  sources_of j h VertexFaces = count_at (λ n. n.vertices) j h

  pub targets_of : (j : ℕ) → j ≤ L → (l : Link) → targets (hierarchy m L) j l ≡ targets_at (level m j) l
  targets_of j h EdgeEnds = count_at (λ n. n.vertices) j h
  targets_of j h EdgeFaces = count_at (λ n. n.faces) j h
  targets_of j h FaceVertices = count_at (λ n. n.vertices) j h
  targets_of j h FaceEdges = count_at (λ n. n.edges) j h
  targets_of j h VertexEdges = count_at (λ n. n.edges) j h
  targets_of j h VertexFaces = count_at (λ n. n.faces) j h

  pub list_of : (j : ℕ) → j < L → (l : Link) (i : ℕ) → (hierarchy m L).list j l i ≡ incident (level m j) l i
  list_of j h l i = cond-true (ltb j L) (incident (level m j) l i) [] (lt-ltb j L h)

  pub list_past : (j : ℕ) → L ≤ j → (l : Link) (i : ℕ) → (hierarchy m L).list j l i ≡ []
  list_past j h l i = cond-false (ltb j L) (incident (level m j) l i) [] (le-ltb j L h)

  -- past the finest level or past a count
  outside : (j i n : ℕ) → cond (leb j L) n 0 ≤ i → (ltb j L && ltb i n) ≡ false
  outside j i n h = grind (arith, nat_tests)

  module _ (each : (j : ℕ) → Sound (level m j)) where
    -- what holds of each level's lists and of none holds of the hierarchy's
    list_has : (P : List ℕ → Type 0) (j : ℕ) (l : Link) (i : ℕ) → (j < L → P (incident (level m j) l i)) → P [] → P ((hierarchy m L).list j l i)
    list_has P j l i here past = cond_both (ltb j L) (incident (level m j) l i) [] P (λ t. here (ltb-true j L t)) (λ _. past)

    pub lawful_by : 1 ≤ L → L ≤ 5 → (level m L).vertices ≤ 65536 → Lawful (hierarchy m L)
    lawful_by some few small = record {
      some_level = some;
      few_levels = few;
      next_vertices = λ j h. omega (arith, count_at (λ n. n.vertices) (j + 1) (omega arith), ap (λ n. n.vertices) (level_more m j), count_at (λ n. n.vertices) j (omega arith), count_at (λ n. n.edges) j (omega arith), count_at (λ n. n.faces) j (omega arith));
      few_vertices = omega (arith, count_at (λ n. n.vertices) L (omega arith));
      rising = λ j l i. list_has Rises j l i (λ _. incident_rises (level m j) (each j) l i) tt;
      short = λ j l i. list_has (λ xs. length xs ≤ 8) j l i (λ _. incident_short (level m j) (each j) l i) (omega arith);
      below = λ j l i. list_has (AllByRecursion (λ k. k < targets (hierarchy m L) j l)) j l i (λ h. let in' : j ≤ L = omega arith in rw (targets_of j in' l) (incident_below (level m j) (each j) l i)) tt;
      dimensions = λ j v. cond_both (ltb j L && ltb v (level m j).vertices) ((level m j).dimension v) 0 (λ d. d ≤ 2) (λ t. (each j).dimensions v (ltb-true v (level m j).vertices (and_parts (ltb j L) (ltb v (level m j).vertices) t).1)) (λ _. omega arith);
      no_counts = λ j h. let out = lt-leb j L h in (cond-false (leb j L) (level m j).vertices 0 out, cond-false (leb j L) (level m j).edges 0 out, cond-false (leb j L) (level m j).faces 0 out);
      no_level = λ j h i. let out = le-ltb j L h in (λ l. list_past j h l i, cond-false (ltb j L && ltb i (level m j).edges) ((level m j).curve i) false (and_left (ltb j L) (ltb i (level m j).edges) out), cond-false (ltb j L && ltb i (level m j).vertices) ((level m j).dimension i) 0 (and_left (ltb j L) (ltb i (level m j).vertices) out));
      no_list = λ j l i h. ⊎_elim (λ (low : j < L). list_of j low l i ∙ incident_past (level m j) (each j) l i (omega (arith, sources_of j (omega arith) l))) (λ (high : L ≤ j). list_past j high l i) (cases_lt j L);
      no_edge = λ j e h. cond-false (ltb j L && ltb e (level m j).edges) ((level m j).curve e) false (outside j e (level m j).edges h);
      no_vertex = λ j v h. cond-false (ltb j L && ltb v (level m j).vertices) ((level m j).dimension v) 0 (outside j v (level m j).vertices h);
    }

pub hierarchy_lawful : (m : Level) (L : ℕ) → Sound m → 1 ≤ L → L ≤ 5 → (level m L).vertices ≤ 65536 → Lawful (hierarchy m L)
hierarchy_lawful m L sound = lawful_by m L (level_sound m sound)
