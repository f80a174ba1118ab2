-- The half edge of a vertex that leads to another. Assumes nothing.
use Rattle.std.proofs.Common.{◌≡◌, ℕ, suc, ◌+◌, ◌-◌, ◌*◌, ◌/◌, ◌%◌, ◌<◌, ◌≤◌, true, eqb, List, [], ◌∷◌, length, get_or, sym, ap, ◌∙◌, inl, inr, ⊎_elim, arith}
use Rattle.std.specs.List.{range_with_len}
use Rattle.std.proofs.ByRecursion.{All-get_or}
use Rattle.std.proofs.lemmas.Bool.{cases_eq, cond-true, cond-false, eq-eqb, ne_eqb, eqb-true, lt-ltb, or_cases, and_from, false≢true}
use Rattle.plan.specs.Sorting.{sorted}
use Rattle.plan.proofs.Sorts.{length_sorted_more}
use Rattle.mesh.specs.Shape.{occurs}
use Rattle.levels.specs.Level.{Level}
use Rattle.levels.specs.Finer.{half_at}
use Rattle.levels.specs.Incidence.{those}
use Rattle.levels.specs.Sound.{Sound, Runs}
use Rattle.levels.proofs.Rising.{those_below, those_pass, occurs_those}
use Rattle.levels.proofs.Uses.{half_at_tail, half_at_head, half_below}
use Rattle.plan.specs.declared.block.Block.{Block}
use Rattle.plan.specs.declared.block.Array.TheVariants.{Ends, VertexHalfEnds, VertexHalves}
use Rattle.plan.specs.Decoded.{end_at, start_of}
use Rattle.plan.specs.Layout.{reads}
use Rattle.plan.specs.Written.{Ended, HalvesListed, twin}
use Rattle.plan.proofs.Crossing.{group_start, sorted_part}

pub occurs_place : (v : ℕ) (xs : List ℕ) → occurs v xs ≡ true → (k : ℕ) × (k < length xs) × (get_or xs k 0 ≡ v)
occurs_place v [] h = absurd (false≢true h)
occurs_place v (x ∷ xs) h =
    ⊎_elim (λ (e : eqb x v ≡ true). (0, omega arith, eqb-true x v e)) (λ (e : occurs v xs ≡ true). let it = occurs_place v xs e in (suc it.0, omega (arith, it.1), it.2)) (or_cases (eqb x v) (occurs v xs) h)

module _ (m : Level) where
  pub end_even : (e h : ℕ) → h ≡ 2 * e → end_at m h ≡ m.tail e
  end_even e h z = cond-true (eqb (h % 2) 0) _ _ (eq-eqb _ 0 (omega arith)) ∙ ap m.tail (omega arith)

  pub end_odd : (e h : ℕ) → h ≡ 2 * e + 1 → end_at m h ≡ m.head e
  end_odd e h z = cond-false (eqb (h % 2) 0) _ _ (ne_eqb _ 0 (omega arith)) ∙ ap m.head (omega arith)

twin_even : (e h : ℕ) → h ≡ 2 * e → twin h ≡ 2 * e + 1
twin_even e h z = cond-true (eqb (h % 2) 0) _ _ (eq-eqb _ 0 (omega arith)) ∙ omega arith

twin_odd : (e h : ℕ) → h ≡ 2 * e + 1 → twin h ≡ 2 * e
twin_odd e h z = cond-false (eqb (h % 2) 0) _ _ (ne_eqb _ 0 (omega arith)) ∙ omega arith

module _ (m : Level) (sound : Sound m) (from to : ℕ) where
  -- the half edge of an edge at one of its ends
  half_ends : (e : ℕ) → e < m.edges → Runs m e from to → (end_at m (half_at m e from) ≡ from) × (end_at m (twin (half_at m e from)) ≡ to) × (twin (half_at m e from) < 2 * m.edges)
  half_ends e l (inl r) =
      let h = half_at_tail m e from r.0 in
      let w = twin_even e (half_at m e from) h in
      (end_even m e _ h ∙ r.0, end_odd m e _ w ∙ r.1, omega (arith, w))
  half_ends e l (inr r) =
      let h = half_at_head m e from (λ z. sound.apart e l (z ∙ sym r.1)) in
      let w = twin_odd e (half_at m e from) h in
      (end_odd m e _ h ∙ r.1, end_even m e _ w ∙ r.0, omega (arith, w))

  -- a half edge that ends at one vertex and whose twin ends at the other
  half_runs : (h : ℕ) → h < 2 * m.edges → end_at m h ≡ from → end_at m (twin h) ≡ to → Runs m (h / 2) from to
  half_runs h l a b =
      ⊎_elim
      (λ (z : h % 2 ≡ 0). let e : h ≡ 2 * (h / 2) = omega arith in inl (sym (end_even m (h / 2) h e) ∙ a, sym (end_odd m (h / 2) (twin h) (twin_even (h / 2) h e)) ∙ b))
      (λ (z : h % 2 ≡ 0 → ⊥). let e : h ≡ 2 * (h / 2) + 1 = let w = z in omega arith in inr (sym (end_even m (h / 2) (twin h) (twin_odd (h / 2) h e)) ∙ b, sym (end_odd m (h / 2) h e) ∙ a))
      (cases_eq (h % 2) 0)

  half_is : (h e : ℕ) → h < 2 * m.edges → end_at m h ≡ from → h / 2 ≡ e → h ≡ half_at m e from
  half_is h e l a s =
      ⊎_elim
      (λ (z : h % 2 ≡ 0). let i : h ≡ 2 * e = omega arith in i ∙ sym (half_at_tail m e from (sym (end_even m e h i) ∙ a)))
      (λ (z : h % 2 ≡ 0 → ⊥). let i : h ≡ 2 * e + 1 = let w = z in omega arith in i ∙ sym (half_at_head m e from (λ t. sound.apart e (omega arith) (t ∙ sym (sym (end_odd m e h i) ∙ a)))))
      (cases_eq (h % 2) 0)

  module _ (t : List ℕ) (b : Block) (ended : Ended t b m) (listed : HalvesListed t b m) (l : from < m.vertices) where
    abbrev hs : List ℕ
    hs = those (λ h. eqb (end_at m h) from) (2 * m.edges)

    abbrev first : ℕ
    first = length (sorted (end_at m) from (range_with_len 0 (2 * m.edges)))

    begins_at : start_of (reads t b VertexHalfEnds) from ≡ first
    begins_at = group_start (reads t b VertexHalfEnds) (reads t b VertexHalves) (end_at m) m.vertices (range_with_len 0 (2 * m.edges)) listed from (omega arith)

    ends_at : reads t b VertexHalfEnds from ≡ first + length hs
    ends_at = listed.ended from l ∙ length_sorted_more (end_at m) (range_with_len 0 (2 * m.edges)) from

    half_at_place : (i : ℕ) → i < length hs → reads t b VertexHalves (first + i) ≡ get_or hs i 0
    half_at_place i h = let p = sorted_part (end_at m) (range_with_len 0 (2 * m.edges)) from m.vertices l i h in listed.listed (first + i) p.0 ∙ p.1

    pub found_half : (k half : ℕ) → start_of (reads t b VertexHalfEnds) from ≤ k → k < reads t b VertexHalfEnds from → half ≡ reads t b VertexHalves k → reads t b Ends (twin half) ≡ to
        → (e : ℕ) → ((i : ℕ) → i < m.edges → Runs m i from to → i ≡ e) → half ≡ half_at m e from
    found_half k half low high is other e only =
        let i = k - first in
        let h : i < length hs = omega (arith, begins_at, ends_at) in
        let at : half ≡ get_or hs i 0 = is ∙ ap (reads t b VertexHalves) (omega (arith, begins_at)) ∙ half_at_place i h in
        let small : half < 2 * m.edges = omega (arith, at, All-get_or (λ x. x < 2 * m.edges) hs i 0 h (those_below (λ x. eqb (end_at m x) from) (2 * m.edges))) in
        let here : end_at m half ≡ from = ap (end_at m) at ∙ eqb-true (end_at m (get_or hs i 0)) from (All-get_or (λ x. eqb (end_at m x) from ≡ true) hs i 0 h (those_pass (λ x. eqb (end_at m x) from) (2 * m.edges))) in
        let across : twin half < 2 * m.edges = twin_below half small in
        half_is half e small here (only (half / 2) (omega arith) (half_runs half small here (sym (ended.ends (twin half) across) ∙ other)))
      where
        twin_below : (h : ℕ) → h < 2 * m.edges → twin h < 2 * m.edges
        twin_below h s = ⊎_elim (λ (z : h % 2 ≡ 0). omega (arith, twin_even (h / 2) h (omega arith))) (λ (z : h % 2 ≡ 0 → ⊥). let w = z in omega (arith, twin_odd (h / 2) h (let v = z in omega arith))) (cases_eq (h % 2) 0)

    pub never_missed : (e : ℕ) → e < m.edges → Runs m e from to → ((j : ℕ) → start_of (reads t b VertexHalfEnds) from ≤ j → j < reads t b VertexHalfEnds from → reads t b Ends (twin (reads t b VertexHalves j)) ≡ to → ⊥) → ⊥
    never_missed e s r none =
        let h = half_at m e from in
        let it = half_ends e s r in
        let small = half_below m e from s in
        let place = occurs_place h hs (occurs_those (λ x. eqb (end_at m x) from) (2 * m.edges) h ∙ and_from _ _ (lt-ltb h (2 * m.edges) small) (eq-eqb (end_at m h) from it.0)) in
        let i = place.0 in
        let at = half_at_place i place.1 ∙ place.2 in
        none (first + i) (omega (arith, begins_at)) (omega (arith, ends_at, place.1)) (ap (λ x. reads t b Ends (twin x)) at ∙ ended.ends (twin h) it.2 ∙ it.1)
