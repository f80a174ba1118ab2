-- The coarsest level of a base that keeps the rules is sound and covered. Assumes nothing.
use Rattle.std.proofs.Common.{◌≡◌, ℕ, ◌+◌, ◌<◌, ◌≤◌, Bool, true, false, ◌&&◌, ◌||◌, eqb, ltb, ◌≢◌, ◌⊎◌, List, [], ◌∷◌, map, length, get_or, is_some, fold, count_by, sym, refl, ap, ◌∙◌, subst, inl, inr, ⊎_elim, arith}
use Rattle.std.proofs.ByRecursion.{All-get_or, All-append, Decides-by_and}
use Rattle.std.proofs.lemmas.List.Sums.{sum_by-cons}
use Rattle.std.proofs.lemmas.Bool.{and_parts, or_parts, or_cases, eqb-true, eqb-false, ne_eqb, ltb-true, false≢true}
use Rattle.std.proofs.lemmas.Bool.Decides.{Decides-ltb}
use Rattle.std.specs.List.{AllByRecursion}
use Rattle.mesh.specs.declared.Side.{Side}
use Rattle.mesh.specs.Shape.{Shape, any, side, nowhere, joins, sides, edges, edge_of, uses, corners}
use Rattle.mesh.specs.Rules.{Polygon, Rules, all_below, distinct}
use Rattle.mesh.proofs.Lists.{countBy_yes}
use Rattle.mesh.proofs.Occurs.{distinct_parts}
use Rattle.mesh.proofs.Edges.{number, number_first, firsts_known, firsts_apart, count_number}
use Rattle.mesh.proofs.Faces.{Ends, edges_ends}
use Rattle.levels.specs.Level.{Level}
use Rattle.levels.specs.Incidence.{touches}
use Rattle.levels.specs.Surfaces.{surface}
use Rattle.levels.specs.Sound.{Sound, Covered, Runs, count}
use Rattle.levels.proofs.Counting.{weight, weight_or, count_split, count_weaker, count_fibres, count_permuted, count_list}
use Rattle.levels.proofs.Rounds.{face_below, back_round, forth_round, length_sides, side_at, count_corners}

-- sides that run from corner to corner, each used twice at most
record Sides (m : Level) : Type 0 where
  apart : (e : ℕ) → e < m.edges → m.tail e ≢ m.head e
  sided : (c : ℕ) → c < m.corners → m.side c < m.edges
  backs : (c : ℕ) → c < m.corners → (m.back c < m.corners) × (m.forth (m.back c) ≡ c)
  forths : (c : ℕ) → c < m.corners → (m.forth c < m.corners) × (m.back (m.forth c) ≡ c)
  joined : (c : ℕ) → c < m.corners → Runs m (m.side c) (m.vertex c) (m.vertex (m.forth c))
  twice : (e : ℕ) → e < m.edges → count (λ c. eqb (m.side c) e) m.corners ≤ 2

-- there are no more corners at a vertex than edges: each corner there has two of these edges
module _ (m : Level) (given : Sides m) where
  both_ends : (v c : ℕ) → c < m.corners → weight (touches m (m.side c) v) ≡ weight (eqb (m.vertex c) v) + weight (eqb (m.vertex (m.forth c)) v)
  both_ends v c l =
      let e = m.side c in
      let ends = weight_or (eqb (m.tail e) v) (eqb (m.head e) v) (λ t. ne_eqb (m.head e) v (λ h. given.apart e (given.sided c l) (eqb-true (m.tail e) v t ∙ sym h))) in
      let at : ℕ → ℕ = λ w. weight (eqb w v) in
      ⊎_elim
      (λ (on : (m.tail e ≡ m.vertex c) × (m.head e ≡ m.vertex (m.forth c))). omega (arith, ap at on.0, ap at on.1))
      (λ (turned : (m.tail e ≡ m.vertex (m.forth c)) × (m.head e ≡ m.vertex c)). omega (arith, ap at turned.0, ap at turned.1))
      (given.joined c l)

  corners_few : (v : ℕ) → count (λ c. eqb (m.vertex c) v) m.corners ≤ count (λ e. touches m e v) m.edges
  corners_few v =
      let here : ℕ → Bool = λ c. eqb (m.vertex c) v in
      let beside : ℕ → Bool = λ c. touches m (m.side c) v in
      let split = count_split beside here (λ c. here (m.forth c)) m.corners (both_ends v) in
      let turned = count_permuted m.forth m.back here m.corners given.forths given.backs in
      let few = count_fibres m.side (λ e. touches m e v) beside m.corners m.edges 2 (λ c l t. (given.sided c l, t)) (λ e l t. le_two e l (count_weaker (λ c. beside c && eqb (m.side c) e) (λ c. eqb (m.side c) e) m.corners (λ c k u. (and_parts (beside c) (eqb (m.side c) e) u).1))) in
      omega arith
    where
      le_two : {n : ℕ} (e : ℕ) → e < m.edges → n ≤ count (λ c. eqb (m.side c) e) m.corners → n ≤ 2
      le_two e l h = omega (arith, given.twice e l)

-- two vertices, as Ends says it
ends_parts : (n : ℕ) (t : Side) → Ends n t → (t.tail < n) × (t.head < n) × (t.tail ≢ t.head)
ends_parts n t e =
    let both = and_parts (all_below n (t.tail ∷ t.head ∷ [])) (distinct (t.tail ∷ t.head ∷ [])) e in
    let below = and_parts (ltb t.tail n) (all_below n (t.head ∷ [])) both.0 in
    let other = (or_parts (eqb t.head t.tail) false (distinct_parts t.tail (t.head ∷ []) both.1).0).0 in
    (ltb-true t.tail n below.0, ltb-true t.head n (and_parts (ltb t.head n) true below.1).0, λ h. eqb-false t.head t.tail other (sym h))

joins_runs : (t : Side) (a b : ℕ) → joins t (side a b) ≡ true → ((t.tail ≡ a) × (t.head ≡ b)) ⊎ ((t.tail ≡ b) × (t.head ≡ a))
joins_runs t a b j = ⊎_elim (λ on. inl (both t.tail a t.head b on)) (λ turned. inr (both t.tail b t.head a turned)) (or_cases (eqb t.tail a && eqb t.head b) (eqb t.tail b && eqb t.head a) j)
  where
    both : (p q u v : ℕ) → (eqb p q && eqb u v) ≡ true → (p ≡ q) × (u ≡ v)
    both p q u v h = let parts = and_parts (eqb p q) (eqb u v) h in (eqb-true p q parts.0, eqb-true u v parts.1)

corners_below : (n : ℕ) (fs : List (List ℕ)) → AllByRecursion (Polygon n) fs → AllByRecursion (λ v. v < n) (corners fs)
corners_below n [] all = tt
corners_below n (f ∷ fs) all = All-append (λ v. v < n) f (corners fs) ((Decides-by_and (λ v. ltb v n) (λ v. v < n) (all_below n) (λ v. Decides-ltb v n) refl (λ _ _. refl) f).0 (and_parts (all_below n f) (distinct f) all.0.proper).0) (corners_below n fs all.1)

folded_map : {A B C : Type 0} (g : C → B → C) (f : A → B) (a : C) (xs : List A) → fold g a (map f xs) ≡ fold (λ c x. g c (f x)) a xs
folded_map g f a [] = refl
folded_map g f a (x ∷ xs) = folded_map g f (g a (f x)) xs

any_counted : {A : Type 0} (p : A → Bool) (xs : List A) → any p xs ≡ true → 1 ≤ count_by p xs
any_counted p [] t = absurd (false≢true t)
any_counted p (x ∷ xs) t =
    ⊎_elim
    (λ here. omega (arith, countBy_yes p x xs here))
    (λ later. omega (arith, sum_by-cons (λ y. weight (p y)) x xs, any_counted p xs later))
    (or_cases (p x) (any p xs) t)

module _ (s : Shape) (rules : Rules s) where
  known : AllByRecursion (λ t. is_some (edge_of (edges s.faces) t) ≡ true) (sides s.faces)
  known = firsts_known (sides s.faces)

  first_at : (c : ℕ) → c < (surface s).corners → ((surface s).side c < (surface s).edges) × (joins (get_or (edges s.faces) ((surface s).side c) nowhere) (get_or (sides s.faces) c nowhere) ≡ true)
  first_at c l =
      let here = All-get_or (λ t. is_some (edge_of (edges s.faces) t) ≡ true) (sides s.faces) c nowhere (omega (arith, length_sides s.faces)) known in
      let first = number_first (edges s.faces) (get_or (sides s.faces) c nowhere) here in
      (first.0, first.1)

  -- the corners whose side an edge is, are the uses of the edge
  side_uses : (e : ℕ) → e < (surface s).edges → count (λ c. eqb ((surface s).side c) e) (surface s).corners ≡ uses s.faces (get_or (edges s.faces) e nowhere)
  side_uses e l =
      let es = edges s.faces in
      let ss = sides s.faces in
      ap (count (λ c. eqb ((surface s).side c) e)) (sym (length_sides s.faces))
      ∙ (count_list (λ t. eqb (number es t) e) ss nowhere
      ∙ (sym (folded_map (λ a k. a + weight (eqb k e)) (number es) 0 ss)
      ∙ sym (count_number es (firsts_apart ss) e l ss known)))

  surface_edge : (e : ℕ) → e < (surface s).edges → ((surface s).tail e < (surface s).vertices) × ((surface s).head e < (surface s).vertices) × ((surface s).tail e ≢ (surface s).head e)
  surface_edge e l = ends_parts (length s.dims) (get_or (edges s.faces) e nowhere) (All-get_or (Ends (length s.dims)) (edges s.faces) e nowhere l (edges_ends (length s.dims) s.faces rules.polygons))

  surface_joined : (c : ℕ) → c < (surface s).corners → Runs (surface s) ((surface s).side c) ((surface s).vertex c) ((surface s).vertex ((surface s).forth c))
  surface_joined c l = joins_runs (get_or (edges s.faces) ((surface s).side c) nowhere) ((surface s).vertex c) ((surface s).vertex ((surface s).forth c)) (subst (λ t. joins (get_or (edges s.faces) ((surface s).side c) nowhere) t ≡ true) (side_at s.faces c l) (first_at c l).1)

  surface_valence : (v : ℕ) → v < (surface s).vertices → count (λ e. touches (surface s) e v) (surface s).edges ≤ 8
  surface_valence v l = omega (arith, count_list (λ (t : Side). eqb t.tail v || eqb t.head v) (edges s.faces) nowhere, rules.valence v l)

  surface_twice : (e : ℕ) → e < (surface s).edges → count (λ c. eqb ((surface s).side c) e) (surface s).corners ≤ 2
  surface_twice e l = omega (arith, side_uses e l, (rules.shared e l).1)

  surface_sides : Sides (surface s)
  surface_sides = record {
    apart = λ e l. (surface_edge e l).2;
    sided = λ c l. (first_at c l).0;
    backs = λ c l. let turn = back_round s.faces c l in (turn.0, turn.1);
    forths = λ c l. let turn = forth_round s.faces c l in (turn.0, turn.1);
    joined = surface_joined;
    twice = surface_twice;
  }

  polygon_at : (f : ℕ) → f < (surface s).faces → Polygon (length s.dims) (get_or s.faces f [])
  polygon_at f l = All-get_or (Polygon (length s.dims)) s.faces f [] l rules.polygons

  pub surface_sound : Sound (surface s)
  surface_sound = record {
    tails = λ e l. (surface_edge e l).0;
    heads = λ e l. (surface_edge e l).1;
    apart = λ e l. (surface_edge e l).2;
    faced = face_below s.faces;
    placed = λ c l. All-get_or (λ v. v < length s.dims) (corners s.faces) c 0 l (corners_below (length s.dims) s.faces rules.polygons);
    sided = λ c l. (first_at c l).0;
    backs = back_round s.faces;
    forths = forth_round s.faces;
    joined = surface_joined;
    edge_corners = surface_twice;
    face_corners = λ f l. omega (arith, count_corners s.faces f l, (polygon_at f l).most);
    vertex_edges = surface_valence;
    vertex_corners = λ v l. omega (arith, corners_few (surface s) surface_sides v, surface_valence v l);
    dimensions = λ v l. All-get_or (λ d. d ≤ 2) s.dims v 0 l rules.dimensions;
  }

  pub surface_covered : Covered (surface s)
  surface_covered = record {
    used_edges = λ e l. omega (arith, side_uses e l, (rules.shared e l).0);
    used_faces = λ f l. omega (arith, count_corners s.faces f l, (polygon_at f l).least);
    used_vertices = λ v l. omega (arith, count_list (λ x. eqb x v) (corners s.faces) 0, any_counted (λ x. eqb x v) (corners s.faces) (rules.in_face v l));
  }
