-- The coarsest level of a base is plain, and its edges run between different pairs of vertices. Assumes nothing.
use Rattle.std.proofs.Common.{◌≡◌, ℕ, zero, suc, ◌+◌, ◌-◌, ◌*◌, ◌<◌, ◌≤◌, true, cond, eqb, ◌≢◌, ◌⊎◌, List, [], ◌∷◌, map, length, get_or, sym, refl, ap, ◌∙◌, subst, inl, inr, ⊎_elim, add_assoc, add-one, one-add, arith}
use Rattle.std.proofs.lemmas.List.{get_or_append_left, get_or-append-add}
use Rattle.std.proofs.lemmas.Bool.{cases_lt, and_parts, eq-eqb, both_ways}
use Rattle.std.proofs.lemmas.Bool.Decides.{nat_tests}
use Rattle.std.specs.List.{AllByRecursion}
use Rattle.mesh.specs.Shape.{Shape, side, joins, sides, edges, corners, occurs}
use Rattle.mesh.specs.Rules.{Polygon, Rules, all_below, distinct}
use Rattle.mesh.proofs.Edges.{firsts_apart}
use Rattle.mesh.proofs.Lists.{any_here}
use Rattle.mesh.proofs.Occurs.{distinct_parts}
use Rattle.levels.specs.Level.{Level}
use Rattle.levels.specs.Sound.{Runs}
use Rattle.levels.specs.Surfaces.{surface, face_at, back_at, forth_at}
use Rattle.levels.proofs.Rounds.{by_faces, face_first, face_later, back_first, back_later, forth_first, forth_later, forth_in, back_forth, length_corners}
use Rattle.levels.proofs.SurfaceSound.{surface_sound, surface_covered}
use Rattle.plan.specs.declared.block.Block.{Block}
use Rattle.plan.specs.Plain.{Plain, first_corner}
use Rattle.plan.specs.Planning.{first_block}
use Rattle.plan.specs.Written.{Counts}
use Rattle.plan.proofs.Plains.{cut_at}
use Rattle.plan.proofs.Worked.{covered_rooms}

-- where the corners of face f begin
abbrev pub starts : List (List ℕ) → ℕ → ℕ
starts [] f = 0
starts (g ∷ gs) zero = 0
starts (g ∷ gs) (suc f) = length g + starts gs f

pub starts_none : (gs : List (List ℕ)) → starts gs 0 ≡ 0
starts_none [] = refl
starts_none (g ∷ gs) = refl

pub starts_within : (gs : List (List ℕ)) (f : ℕ) → starts gs f ≤ length (corners gs)
starts_within [] f = omega arith
starts_within (g ∷ gs) zero = omega arith
starts_within (g ∷ gs) (suc f) = omega (arith, length_corners g gs, starts_within gs f)

pub starts_more : (gs : List (List ℕ)) (f : ℕ) → f < length gs → starts gs (f + 1) ≡ starts gs f + get_or (map length gs) f 0
starts_more [] f l = absurd (omega arith)
starts_more (g ∷ gs) zero l = omega (arith, starts_none gs)
starts_more (g ∷ gs) (suc f) l = rw (add-one (suc f)) (omega (arith, ap (starts gs) (sym (add-one f)), starts_more gs f (omega arith)))

pub starts_all : (gs : List (List ℕ)) → starts gs (length gs) ≡ length (corners gs)
starts_all [] = refl
starts_all (g ∷ gs) = omega (arith, length_corners g gs, starts_all gs)

face_before : (gs : List (List ℕ)) (f c : ℕ) → c < starts gs f → face_at gs c < f
face_before [] f c l = absurd (omega arith)
face_before (g ∷ gs) zero c l = absurd (omega arith)
face_before (g ∷ gs) (suc f) c l =
    by_faces (λ c. c < length g + starts gs f → face_at (g ∷ gs) c < suc f) g gs
    (λ c h _. omega (arith, face_first g gs c h))
    (λ c h k. omega (arith, face_later g gs c, face_before gs f c (omega arith)))
    c (omega (arith, length_corners g gs, starts_within gs f)) l

face_behind : (gs : List (List ℕ)) (f c : ℕ) → starts gs f ≤ c → c < length (corners gs) → f ≤ length gs → f ≤ face_at gs c
face_behind [] f c l h k = absurd (omega arith)
face_behind (g ∷ gs) zero c l h k = omega arith
face_behind (g ∷ gs) (suc f) c l h k =
    by_faces (λ c. length g + starts gs f ≤ c → suc f ≤ face_at (g ∷ gs) c) g gs
    (λ c h l. absurd (omega arith))
    (λ c h l. omega (arith, face_later g gs c, face_behind gs f c (omega arith) h (omega arith)))
    c h l

pub face_between : (gs : List (List ℕ)) (f c : ℕ) → starts gs f ≤ c → c < starts gs (f + 1) → f < length gs → face_at gs c ≡ f
face_between gs f c l h k = omega (arith, face_before gs (f + 1) c h, face_behind gs f c l (omega (arith, starts_within gs (f + 1))) (omega arith))

-- a corner lies between where its face begins and where the next one does
around_corner : (gs : List (List ℕ)) (c : ℕ) → c < length (corners gs) → (starts gs (face_at gs c) ≤ c) × (c < starts gs (suc (face_at gs c)))
around_corner [] c l = absurd (omega arith)
around_corner (g ∷ gs) c l =
    by_faces (λ c. (starts (g ∷ gs) (face_at (g ∷ gs) c) ≤ c) × (c < starts (g ∷ gs) (suc (face_at (g ∷ gs) c)))) g gs
    (λ c h. rw (face_first g gs c h) (omega arith, omega arith))
    (λ c h. let inside = around_corner gs c h in rw (face_later g gs c, one-add (face_at gs c)) (omega (arith, inside.0), omega (arith, inside.1)))
    c l

shifted : (n c s t : ℕ) → s ≤ c → c < t → n + cond (eqb c s) (t - 1) (c - 1) ≡ cond (eqb (n + c) (n + s)) (n + t - 1) (n + c - 1)
shifted n c s t h l = grind (arith, nat_tests)

back_starts : (gs : List (List ℕ)) (c : ℕ) → c < length (corners gs) → back_at gs c ≡ cond (eqb c (starts gs (face_at gs c))) (starts gs (suc (face_at gs c)) - 1) (c - 1)
back_starts [] c l = absurd (omega arith)
back_starts (g ∷ gs) c l =
    by_faces (λ c. back_at (g ∷ gs) c ≡ cond (eqb c (starts (g ∷ gs) (face_at (g ∷ gs) c))) (starts (g ∷ gs) (suc (face_at (g ∷ gs) c)) - 1) (c - 1)) g gs
    (λ c h. rw (face_first g gs c h) (back_first g gs c h ∙ ap (λ n. cond (eqb c 0) (n - 1) (c - 1)) (omega (arith, starts_none gs))))
    (λ c h. let inside = around_corner gs c h in rw (face_later g gs c, one-add (face_at gs c)) (back_later g gs c ∙ ap (λ d. length g + d) (back_starts gs c h) ∙ shifted (length g) c (starts gs (face_at gs c)) (starts gs (suc (face_at gs c))) inside.0 inside.1))
    c l

faces_rise : (gs : List (List ℕ)) (c : ℕ) → c < length (corners gs) → c + 1 < length (corners gs) → face_at gs c ≤ face_at gs (c + 1)
faces_rise [] c l h = absurd (omega arith)
faces_rise (g ∷ gs) c l h =
    by_faces (λ c. c + 1 < length (corners (g ∷ gs)) → face_at (g ∷ gs) c ≤ face_at (g ∷ gs) (c + 1)) g gs
    (λ c l h. omega (arith, face_first g gs c l))
    (λ c l h. rw (add_assoc (length g) c 1) (omega (arith, face_later g gs c, face_later g gs (c + 1), faces_rise gs c l (omega (arith, length_corners g gs)))))
    c l h

occurs_at : (xs : List ℕ) (i v : ℕ) → i < length xs → get_or xs i 0 ≡ v → occurs v xs ≡ true
occurs_at xs i v l e = any_here (λ x. eqb x v) xs i 0 l (eq-eqb (get_or xs i 0) v e)

distinct_at : (xs : List ℕ) → distinct xs ≡ true → (i j : ℕ) → i < length xs → j < length xs → get_or xs i 0 ≡ get_or xs j 0 → i ≡ j
distinct_at [] h i j l k e = absurd (omega arith)
distinct_at (x ∷ xs) h zero zero l k e = refl
distinct_at (x ∷ xs) h zero (suc j) l k e = absurd (both_ways _ (distinct_parts x xs h).0 (occurs_at xs j x (omega arith) (sym e)))
distinct_at (x ∷ xs) h (suc i) zero l k e = absurd (both_ways _ (distinct_parts x xs h).0 (occurs_at xs i x (omega arith) e))
distinct_at (x ∷ xs) h (suc i) (suc j) l k e = ap suc (distinct_at xs (distinct_parts x xs h).1 i j (omega arith) (omega arith) e)

polygon_distinct : (n : ℕ) (f : List ℕ) → Polygon n f → distinct f ≡ true
polygon_distinct n f p = (and_parts (all_below n f) (distinct f) p.proper).1

-- a face has a vertex once
vertices_apart : (n : ℕ) (gs : List (List ℕ)) → AllByRecursion (Polygon n) gs → (c d : ℕ) → c < length (corners gs) → d < length (corners gs) → face_at gs c ≡ face_at gs d → get_or (corners gs) c 0 ≡ get_or (corners gs) d 0 → c ≡ d
vertices_apart n [] all c d l k f e = absurd (omega arith)
vertices_apart n (g ∷ gs) all c d l k f e =
    by_faces (λ c. face_at (g ∷ gs) c ≡ face_at (g ∷ gs) d → get_or (corners (g ∷ gs)) c 0 ≡ get_or (corners (g ∷ gs)) d 0 → c ≡ d) g gs
    (λ c l. by_faces (λ d. face_at (g ∷ gs) c ≡ face_at (g ∷ gs) d → get_or (corners (g ∷ gs)) c 0 ≡ get_or (corners (g ∷ gs)) d 0 → c ≡ d) g gs
    (λ d k f e. distinct_at g (polygon_distinct n g all.0) c d l k (sym (get_or_append_left g (corners gs) 0 c l) ∙ e ∙ get_or_append_left g (corners gs) 0 d k))
    (λ d k f e. absurd (omega (arith, face_first g gs c l, face_later g gs d, f)))
    d k)
    (λ c l. by_faces (λ d. face_at (g ∷ gs) (length g + c) ≡ face_at (g ∷ gs) d → get_or (corners (g ∷ gs)) (length g + c) 0 ≡ get_or (corners (g ∷ gs)) d 0 → length g + c ≡ d) g gs
    (λ d k f e. absurd (omega (arith, face_first g gs d k, face_later g gs c, f)))
    (λ d k f e. ap (λ x. length g + x) (vertices_apart n gs all.1 c d l k (omega (arith, face_later g gs c, face_later g gs d, f)) (sym (get_or-append-add g (corners gs) c 0) ∙ e ∙ get_or-append-add g (corners gs) d 0)))
    d k)
    c l f e

third_way : (n c : ℕ) → 3 ≤ n → c < n → forth_in n (forth_in n c) ≢ c
third_way n c h l e = grind (arith, nat_tests)

-- with three corners or more, going on twice leads elsewhere
forth_twice : (n : ℕ) (gs : List (List ℕ)) → AllByRecursion (Polygon n) gs → (c : ℕ) → c < length (corners gs) → forth_at gs (forth_at gs c) ≢ c
forth_twice n [] all c l = absurd (omega arith)
forth_twice n (g ∷ gs) all c l =
    by_faces (λ c. forth_at (g ∷ gs) (forth_at (g ∷ gs) c) ≢ c) g gs
    (λ c l. let next = (back_forth (length g) c l).0 in rw (forth_first g gs c l, forth_first g gs (forth_in (length g) c) next) (third_way (length g) c all.0.least l))
    (λ c l. let again = forth_twice n gs all.1 c l in rw (forth_later g gs c, forth_later g gs (forth_at gs c)) (λ e. again (omega arith)))
    c l

-- two runs of one edge begin at one end, or at one another's
runs_both : (m : Level) (e a b p q : ℕ) → Runs m e a b → Runs m e p q → (a ≡ p) ⊎ ((a ≡ q) × (b ≡ p))
runs_both m e a b p q (inl x) (inl y) = inl (sym x.0 ∙ y.0)
runs_both m e a b p q (inl x) (inr y) = inr (sym x.0 ∙ y.0, sym x.1 ∙ y.1)
runs_both m e a b p q (inr x) (inl y) = inr (sym x.1 ∙ y.1, sym x.0 ∙ y.0)
runs_both m e a b p q (inr x) (inr y) = inl (sym x.1 ∙ y.1)

corners_most : (n : ℕ) (gs : List (List ℕ)) → AllByRecursion (Polygon n) gs → length (corners gs) ≤ 8 * length gs
corners_most n [] all = omega arith
corners_most n (g ∷ gs) all = omega (arith, length_corners g gs, all.0.most, corners_most n gs all.1)

joins_on : (p q u v : ℕ) → p ≡ u → q ≡ v → joins (side p q) (side u v) ≡ true
joins_on p q u v h k = grind (arith, nat_tests)

joins_back : (p q u v : ℕ) → p ≡ v → q ≡ u → joins (side p q) (side u v) ≡ true
joins_back p q u v h k = grind (arith, nat_tests)

-- two edges that run between the same vertices join the same ends
runs_joins : (m : Level) (e i a b : ℕ) → Runs m e a b → Runs m i a b → joins (side (m.tail e) (m.head e)) (side (m.tail i) (m.head i)) ≡ true
runs_joins m e i a b (inl x) (inl y) = joins_on _ _ _ _ (x.0 ∙ sym y.0) (x.1 ∙ sym y.1)
runs_joins m e i a b (inl x) (inr y) = joins_back _ _ _ _ (x.0 ∙ sym y.1) (x.1 ∙ sym y.0)
runs_joins m e i a b (inr x) (inl y) = joins_back _ _ _ _ (x.0 ∙ sym y.1) (x.1 ∙ sym y.0)
runs_joins m e i a b (inr x) (inr y) = joins_on _ _ _ _ (x.0 ∙ sym y.0) (x.1 ∙ sym y.1)

module _ (s : Shape) (rules : Rules s) where
  pub few_corners : (surface s).corners ≤ 2048
  few_corners = omega (arith, corners_most (length s.dims) s.faces rules.polygons, rules.most_faces)

  pub first_counts : Counts (first_block s) (surface s)
  first_counts =
      let room = covered_rooms (surface s) (surface_covered s rules) in
      record { vertices = refl; edges = refl; faces = refl; corners = refl; vertex_room = room.0; edge_room = room.1; face_room = room.2 }

  -- the coarsest block's counts, and where it stands
  pub first_facts : (b : Block) → b ≡ first_block s → Counts b (surface s) × (b.at ≡ 0)
  first_facts b e = (subst (λ x. Counts x (surface s)) (sym e) first_counts, ap (λ x. x.at) e)

  pub only_edge : (e i a b : ℕ) → e < (surface s).edges → i < (surface s).edges → Runs (surface s) e a b → Runs (surface s) i a b → i ≡ e
  only_edge e i a b l k r t =
      let es = edges s.faces in
      let apart = firsts_apart (sides s.faces) in
      ⊎_elim (λ (low : i < e). absurd (both_ways _ (apart i e low l) (runs_joins (surface s) i e a b t r)))
      (λ (high : e ≤ i). ⊎_elim (λ (above : e < i). absurd (both_ways _ (apart e i above k) (runs_joins (surface s) e i a b r t))) (λ (same : i ≤ e). omega arith) (cases_lt e i))
      (cases_lt i e)

  once : (c d : ℕ) → c < (surface s).corners → d < (surface s).corners → (surface s).face c ≡ (surface s).face d → (surface s).vertex c ≡ (surface s).vertex d → c ≡ d
  once = vertices_apart (length s.dims) s.faces rules.polygons

  first_start : (f : ℕ) → f ≤ length s.faces → first_corner (surface s) f ≡ starts s.faces f
  first_start f h = cut_at (surface s) f (starts s.faces f) (starts_within s.faces f) (face_before s.faces f) (λ c l k. face_behind s.faces f c l k h)

  pub surface_plain : Plain (surface s)
  surface_plain = record {
    ordered = λ c l. faces_rise s.faces c (omega arith) l;
    vertices_once = once;
    sides_once = λ c d l k f e.
        let sound = surface_sound s rules in
        let next = sound.forths in
        let other : Runs (surface s) ((surface s).side c) ((surface s).vertex d) ((surface s).vertex ((surface s).forth d)) = subst (λ x. Runs (surface s) x ((surface s).vertex d) ((surface s).vertex ((surface s).forth d))) (sym e) (sound.joined d k) in
        ⊎_elim (once c d l k f)
        (λ (crossed : ((surface s).vertex c ≡ (surface s).vertex ((surface s).forth d)) × ((surface s).vertex ((surface s).forth c) ≡ (surface s).vertex d)).
        let on = once c ((surface s).forth d) l (next d k).0 (f ∙ sym (next d k).2) crossed.0 in
        let back = once ((surface s).forth c) d (next c l).0 k ((next c l).2 ∙ f) crossed.1 in
        absurd (forth_twice (length s.dims) s.faces rules.polygons c l (ap (surface s).forth back ∙ sym on)))
        (runs_both (surface s) ((surface s).side c) _ _ _ _ (sound.joined c l) other);
    backs = λ c l.
        let in-faces = (surface_sound s rules).faced c l in
        back_starts s.faces c l
        ∙ ap (λ n. cond (eqb c (starts s.faces (face_at s.faces c))) (n - 1) (c - 1)) (ap (starts s.faces) (sym (add-one (face_at s.faces c))) ∙ sym (first_start (face_at s.faces c + 1) (omega arith)))
        ∙ ap (λ n. cond (eqb c n) (first_corner (surface s) (face_at s.faces c + 1) - 1) (c - 1)) (sym (first_start (face_at s.faces c) (omega arith)));
  }
