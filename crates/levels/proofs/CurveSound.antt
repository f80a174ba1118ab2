-- A curve's coarsest level is sound. Assumes nothing.
use Rattle.std.proofs.Common.{◌≡◌, ℕ, ◌+◌, ◌-◌, ◌<◌, ◌≤◌, Bool, true, false, cond, not, ◌&&◌, ◌||◌, eqb, sym, ◌∙◌, arith}
use Rattle.std.proofs.lemmas.Bool.{cond_both, eqb-true, eqb-false}
use Rattle.std.proofs.lemmas.Bool.Decides.{nat_tests}
use Rattle.levels.specs.Curves.{curve_level}
use Rattle.levels.specs.Incidence.{touches}
use Rattle.levels.specs.Sound.{Sound, count}
use Rattle.levels.proofs.Counting.{count_either, count_most_one}

-- an edge runs between two points
curve_edge : (closed : Bool) (n : ℕ) → cond closed 3 2 ≤ n → (e : ℕ) → e < cond closed n (n - 1) → (e < n) × ((curve_level closed n).head e < n) × (e ≡ (curve_level closed n).head e → ⊥)
curve_edge true n enough e l =
    let ends : (cond (eqb (e + 1) n) 0 (e + 1) < n) × (e ≡ cond (eqb (e + 1) n) 0 (e + 1) → ⊥) = cond_both (eqb (e + 1) n) 0 (e + 1) (λ h. (h < n) × (e ≡ h → ⊥)) (λ t. omega (arith, eqb-true (e + 1) n t)) (λ f. omega (arith, eqb-false (e + 1) n f)) in
    (l, ends.0, ends.1)
curve_edge false n enough e l = omega arith

-- no two edges run to one point
one_head : (closed : Bool) (n i j : ℕ) → i < cond closed n (n - 1) → j < cond closed n (n - 1) → (curve_level closed n).head i ≡ (curve_level closed n).head j → i ≡ j
one_head true n i j l m e = grind (arith, nat_tests)
one_head false n i j l m e = omega arith

module _ (closed : Bool) (n : ℕ) (enough : cond closed 3 2 ≤ n) where
  at_point : (v : ℕ) → count (λ e. touches (curve_level closed n) e v) (curve_level closed n).edges ≤ 2
  at_point v =
      let m = curve_level closed n in
      let tails = count_most_one (λ e. eqb e v) m.edges (λ i j l k s t. omega (arith, eqb-true i v s, eqb-true j v t)) in
      let heads = count_most_one (λ e. eqb (m.head e) v) m.edges (λ i j l k s t. one_head closed n i j l k (eqb-true (m.head i) v s ∙ sym (eqb-true (m.head j) v t))) in
      omega (arith, count_either (λ e. eqb e v) (λ e. eqb (m.head e) v) m.edges)

  pub curve_sound : Sound (curve_level closed n)
  curve_sound = record {
    tails = λ e l. (curve_edge closed n enough e l).0;
    heads = λ e l. (curve_edge closed n enough e l).1;
    apart = λ e l. (curve_edge closed n enough e l).2;
    faced = λ c l. absurd (omega arith);
    placed = λ c l. absurd (omega arith);
    sided = λ c l. absurd (omega arith);
    backs = λ c l. absurd (omega arith);
    forths = λ c l. absurd (omega arith);
    joined = λ c l. absurd (omega arith);
    edge_corners = λ e l. omega arith;
    face_corners = λ f l. omega arith;
    vertex_edges = λ v l. omega (arith, at_point v);
    vertex_corners = λ v l. omega arith;
    dimensions = λ v l. cond_both (not closed && (eqb v 0 || eqb (v + 1) n)) 0 1 (λ d. d ≤ 2) (λ _. omega arith) (λ _. omega arith);
  }
