-- The blocks of a base's levels: their counts, their size, and how a table with all of them tells the levels. Assumes nothing.
use Rattle.std.proofs.Common.{◌≡◌, ℕ, zero, suc, ◌+◌, ◌*◌, ◌^◌, ◌<◌, ◌≤◌, Bool, true, false, cond, ◌&&◌, ltb, leb, ◌⊎◌, List, [], sym, refl, ap, ◌∙◌, subst, inl, inr, ⊎_elim, add-one, arith}
use mathlib.Core.Path.{fun_ext}
use Rattle.std.proofs.lemmas.Bool.{cases_lt, leb-true, ltb-true}
use Rattle.mesh.specs.Rules.{Rules}
use Rattle.mesh.specs.Shape.{Shape}
use Rattle.levels.specs.Finer.{level}
use Rattle.levels.specs.Incidence.{hierarchy}
use Rattle.levels.specs.Level.{Level}
use Rattle.levels.specs.Sound.{Sound, Covered}
use Rattle.levels.specs.Surfaces.{surface}
use Rattle.levels.proofs.FinerSound.{level_sound, level_covered}
use Rattle.levels.proofs.SurfaceSound.{surface_sound, surface_covered}
use Rattle.plan.specs.declared.block.Block.{Block}
use Rattle.plan.specs.declared.block.Array.{Array}
use Rattle.plan.specs.declared.block.Array.TheVariants.{Ends, Halves, Faces, VertexHalfEnds, VertexHalves, VertexCornerEnds, VertexCorners, EdgeCornerEnds, EdgeCorners, FaceEnds, FaceByVertex, FaceByEdge, Curves, Dimensions}
use Rattle.plan.specs.Layout.{begins, reads}
use Rattle.plan.specs.Plain.{Plain}
use Rattle.plan.specs.Planning.{needs, tells, block_of, first_block, block_at}
use Rattle.plan.specs.Settled.{Settled}
use Rattle.plan.specs.Sorting.{Keeps}
use Rattle.plan.specs.Written.{Clear, Counts, Shows, Lists, Standing, next}
use Rattle.plan.proofs.Coarse.{first_counts, few_corners, surface_plain}
use Rattle.plan.proofs.Plains.{level_plain}
use Rattle.plan.proofs.Reading.{reads_kept}
use Rattle.plan.proofs.Showing.{grouped_kept, shows_kept}
use Rattle.plan.proofs.Settle.{block_first, block_last, loaded_incident, loaded_curves, loaded_dimensions, settled_kept}
use Rattle.plan.proofs.Worked.{next_counted}

array_clear : (b : Block) (a : Array) (low high : ℕ) → (b.at + 16 * b.corners ≤ low) ⊎ (high ≤ b.at) → Clear b a low high
array_clear b a low high (inl behind) = inl (let last = block_last b a in omega arith)
array_clear b a low high (inr ahead) = inr (let first = block_first b a in omega arith)

-- what is written before or behind a block leaves what it shows
pub shows_apart : (t u : List ℕ) (b : Block) (m : Level) (low high : ℕ) → (b.at + 16 * b.corners ≤ low) ⊎ (high ≤ b.at) → Keeps t u low high → Shows t b m → Shows u b m
shows_apart t u b m low high away k n =
    let same : (a : Array) (i : ℕ) → reads u b a i ≡ reads t b a i = λ a i. ap (λ f. f i) (reads_kept t u b a low high (array_clear b a low high away) k) in
    record {
      counts = n.counts;
      ends = λ i r. same Ends i ∙ n.ends i r;
      halves = λ i r. same Halves i ∙ n.halves i r;
      faces = λ i r. same Faces i ∙ n.faces i r;
      curves = λ i r. same Curves i ∙ n.curves i r;
      dimensions = λ i r. same Dimensions i ∙ n.dimensions i r;
    }

-- and what it stands for
pub standing_apart : (t u : List ℕ) (b : Block) (m : Level) (low high : ℕ) → (b.at + 16 * b.corners ≤ low) ⊎ (high ≤ b.at) → Keeps t u low high → Standing t b m → Standing u b m
standing_apart t u b m low high away k s =
    let l = s.lists in
    let clear : (a : Array) → Clear b a low high = λ a. array_clear b a low high away in
    record {
      shows = shows_apart t u b m low high away k s.shows;
      lists = record {
        vertex_halves = grouped_kept t u b VertexHalfEnds VertexHalves low high _ _ _ (clear VertexHalfEnds) (clear VertexHalves) k l.vertex_halves;
        vertex_corners = grouped_kept t u b VertexCornerEnds VertexCorners low high _ _ _ (clear VertexCornerEnds) (clear VertexCorners) k l.vertex_corners;
        edge_corners = grouped_kept t u b EdgeCornerEnds EdgeCorners low high _ _ _ (clear EdgeCornerEnds) (clear EdgeCorners) k l.edge_corners;
        by_vertex = grouped_kept t u b FaceEnds FaceByVertex low high _ _ _ (clear FaceEnds) (clear FaceByVertex) k l.by_vertex;
        by_edge = grouped_kept t u b FaceEnds FaceByEdge low high _ _ _ (clear FaceEnds) (clear FaceByEdge) k l.by_edge;
      };
      sound = s.sound;
      covered = s.covered;
      plain = s.plain;
    }

alike_where : {A : Type 0} (b : Bool) (x y z : A) → (b ≡ true → x ≡ y) → cond b x z ≡ cond b y z
alike_where true x y z h = h refl
alike_where false x y z h = refl

and_where : (a b c : Bool) → cond a (b && c) false ≡ cond (a && b) c false
and_where true true c = refl
and_where true false c = refl
and_where false b c = refl

and_number : (a b : Bool) (n : ℕ) → cond a (cond b n 0) 0 ≡ cond (a && b) n 0
and_number true b n = refl
and_number false b n = refl

module _ (s : Shape) (rules : Rules s) where
  abbrev m : Level
  m = surface s

  abbrev at : ℕ → Block
  at j = block_at (first_block s) j

  pub sound_at : (j : ℕ) → Sound (level m j)
  sound_at = level_sound m (surface_sound s rules)

  pub covered_at : (j : ℕ) → Covered (level m j)
  covered_at = level_covered m (surface_sound s rules) (surface_covered s rules)

  pub plain_at : (j : ℕ) → Plain (level m j)
  plain_at = level_plain m (surface_sound s rules) (surface_plain s rules)

  pub counts_at : (j : ℕ) → Counts (at j) (level m j)
  unfolding level block_at
  counts_at zero = first_counts s rules
  counts_at (suc j) = next_counted (at j) (level m j) (counts_at j) (sound_at j) (covered_at j)

  pub block_more : (j : ℕ) → at (j + 1) ≡ next (at j)
  unfolding block_at
  block_more j = ap at (add-one j)

  pub at_needs : (j : ℕ) → (at j).at ≡ needs m j
  unfolding block_at
  at_needs zero = refl
  at_needs (suc j) = omega (arith, at_needs j, (counts_at j).corners)

  -- no more stands before a block than it takes
  at_few : (j : ℕ) → (at j).at ≤ 16 * (at j).corners
  unfolding block_at
  at_few zero = omega arith
  at_few (suc j) = omega (arith, at_few j)

  corners_rise : (j i : ℕ) → i ≤ j → (at i).corners ≤ (at j).corners
  unfolding block_at
  corners_rise zero i l = let e : i ≡ 0 = omega arith in rw e (omega arith)
  corners_rise (suc j) i l = ⊎_elim (λ (low : i < suc j). omega (arith, corners_rise j i (omega arith))) (λ (high : suc j ≤ i). let e : i ≡ suc j = omega arith in rw e (omega arith)) (cases_lt i (suc j))

  pub coarsest : at 0 ≡ first_block s
  unfolding block_at
  coarsest = refl

  pub coarsest_level : level m 0 ≡ m
  unfolding level
  coarsest_level = refl

  -- four times refined, 2,048 corners are 524,288
  pub corners_few : (j : ℕ) → j ≤ 4 → (at j).corners ≤ 524288
  corners_few j l =
      let more : (i : ℕ) → (at (i + 1)).corners ≡ 4 * (at i).corners = λ i. ap (λ b. b.corners) (block_more i) in
      omega (arith, corners_rise 4 j l, more 3, more 2, more 1, more 0, ap (λ b. b.corners) coarsest, few_corners s rules)

  pub block_few : (j : ℕ) → j ≤ 4 → (at j).at + 80 * (at j).corners ≤ 2 ^ 30
  block_few j l = omega (arith, at_few j, corners_few j l)

  pub needs_rise : (j i : ℕ) → i ≤ j → needs m i ≤ needs m j
  needs_rise zero i l = let e : i ≡ 0 = omega arith in rw e (omega arith)
  needs_rise (suc j) i l = ⊎_elim (λ (low : i < suc j). omega (arith, needs_rise j i (omega arith))) (λ (high : suc j ≤ i). let e : i ≡ suc j = omega arith in rw e (omega arith)) (cases_lt i (suc j))

  -- where a block ends, and where the next one does
  pub block_end : (j : ℕ) → (at j).at + 16 * (at j).corners ≡ needs m (j + 1)
  block_end j = omega (arith, at_needs (j + 1), ap (λ b. b.at) (block_more j))

  pub block_end_2 : (j : ℕ) → (at j).at + 80 * (at j).corners ≡ needs m (j + 1 + 1)
  block_end_2 j = omega (arith, block_end (j + 1), ap (λ b. b.at) (block_more j), ap (λ b. b.corners) (block_more j))

  -- the blocks before one are settled, and it stands for its level
  pub record Building (t : List ℕ) (j : ℕ) : Type 0 where
    pub settled : (i : ℕ) → i < j → Settled t (at i) (level m i)
    pub standing : Standing t (at j) (level m j)

  -- the next finer level's block is written behind them; the block itself is settled; and the new one is listed
  pub build_more : (t u v w : List ℕ) (j : ℕ) → Building t j
      → Keeps t u ((at j).at + 16 * (at j).corners) ((at j).at + 80 * (at j).corners) → Shows u (at (j + 1)) (level m (j + 1))
      → Keeps u v (at j).at ((at j).at + 16 * (at j).corners) → (Standing u (at j) (level m j) → Settled v (at j) (level m j))
      → Keeps v w (begins (at (j + 1)) VertexHalfEnds) (begins (at (j + 1)) Curves) → (Shows v (at (j + 1)) (level m (j + 1)) → Lists w (at (j + 1)) (level m (j + 1)))
      → Building w (j + 1)
  build_more t u v w j before k shows l settle q list =
      let end = block_end j in
      let start = at_needs (j + 1) in
      let now-settled = settle (standing_apart t u (at j) (level m j) _ _ (inl (omega arith)) k before.standing) in
      let shown = shows_apart u v (at (j + 1)) (level m (j + 1)) _ _ (inr (omega arith)) l shows in
      record {
        settled = λ i h.
            ⊎_elim
            (λ (low : i < j).
            let ended : (at i).at + 16 * (at i).corners ≤ (at j).at = omega (arith, block_end i, at_needs j, needs_rise j (i + 1) (omega arith)) in
            settled_kept v w (at i) (level m i) _ _ (inl (omega arith)) q (settled_kept u v (at i) (level m i) _ _ (inl ended) l (settled_kept t u (at i) (level m i) _ _ (inl (omega arith)) k (before.settled i low))))
            (λ (high : j ≤ i).
            let e : j ≡ i = omega arith in
            subst (λ n. Settled w (at n) (level m n)) e (settled_kept v w (at j) (level m j) _ _ (inl (omega arith)) q now-settled))
            (cases_lt i j);
        standing = record { shows = shows_kept v w (at (j + 1)) (level m (j + 1)) q shown; lists = list shown; sound = sound_at (j + 1); covered = covered_at (j + 1); plain = plain_at (j + 1) };
      }

  module _ (t : List ℕ) (levels : ℕ) (bs : List Block) (laid : (j : ℕ) → j ≤ levels → block_of bs j ≡ at j) (settled : (j : ℕ) → j < levels → Settled t (at j) (level m j)) where
    counted : (f : Block → ℕ) (g : Level → ℕ) → ((j : ℕ) → f (at j) ≡ g (level m j)) → (j : ℕ) → cond (leb j levels) (f (block_of bs j)) 0 ≡ cond (leb j levels) (g (level m j)) 0
    counted f g same j = alike_where (leb j levels) _ _ 0 (λ h. ap f (laid j (leb-true j levels h)) ∙ same j)

    here : (j : ℕ) → ltb j levels ≡ true → Settled t (block_of bs j) (level m j)
    here j h = let l = ltb-true j levels h in subst (λ b. Settled t b (level m j)) (sym (laid j (omega arith))) (settled j l)

    pub table_tells : tells t levels bs ≡ hierarchy m levels
    table_tells = λ i. record {
      levels = levels;
      vertices = fun_ext (counted (λ b. b.vertices) (λ n. n.vertices) (λ j. (counts_at j).vertices)) i;
      edges = fun_ext (counted (λ b. b.edges) (λ n. n.edges) (λ j. (counts_at j).edges)) i;
      faces = fun_ext (counted (λ b. b.faces) (λ n. n.faces) (λ j. (counts_at j).faces)) i;
      list = fun_ext (λ j. fun_ext (λ link. fun_ext (λ k. alike_where (ltb j levels) _ _ [] (λ h. loaded_incident t (block_of bs j) (level m j) (here j h) link k)))) i;
      curve = fun_ext (λ j. fun_ext (λ e. alike_where (ltb j levels) _ _ false (λ h. loaded_curves t (block_of bs j) (level m j) (here j h) e) ∙ and_where (ltb j levels) (ltb e (level m j).edges) ((level m j).curve e))) i;
      dimension = fun_ext (λ j. fun_ext (λ v. alike_where (ltb j levels) _ _ 0 (λ h. loaded_dimensions t (block_of bs j) (level m j) (here j h) v) ∙ and_number (ltb j levels) (ltb v (level m j).vertices) ((level m j).dimension v))) i;
    }
