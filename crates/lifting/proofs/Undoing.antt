-- A half step and the one back leave the values as they were, and so do all half steps of a level and the way back.
use Rattle.std.proofs.Common.{◌≡◌, ℕ, ◌-◌, ◌<◌, Bool, true, false, cond, List, [], ◌∷◌, reverse, length, get_or, refl, ap, ◌∙◌, le_refl, arith}
use mathlib.Core.List.{reverse-cons}
use Rattle.std.proofs.lemmas.List.{ext_get_or}
use Rattle.hierarchy.specs.Meaning.{Meaning}
use Rattle.hierarchy.specs.Lawful.{Lawful}
use Rattle.kinds.specs.Groups.{Group}
use Rattle.kinds.proofs.Cancelling.{then_opposite, opposite_then}
use Rattle.schemes.specs.declared.steps.Class.{Class}
use Rattle.schemes.specs.declared.steps.Step.{Step}
use Rattle.lifting.specs.declared.way.Way.{Way}
use Rattle.lifting.specs.declared.way.Way.TheVariants.{Down, Up}
use Rattle.lifting.specs.Places.{count_of, first_place, in_run}
use Rattle.lifting.specs.HalfSteps.{Rule, on_the_way, amount_at, changed_at, half, halves, lifts, analysed, synthesised}
use Rattle.lifting.specs.Travel.{Undone}
use Rattle.lifting.proofs.Changing.{halves_append, partly, length_partly, partly_at, same_amount}

abbrev back : Way → Way
back Down = Up
back Up = Down

module _ {V : Type 0} (m : Meaning) (r : Rule V) (lawful : Lawful m) (group : Group r.plus r.zero r.opposite) (j : ℕ) where
  taken_back : (w : Way) (x a : V) → r.plus (r.plus x (on_the_way r.opposite w a)) (on_the_way r.opposite (back w) a) ≡ x
  taken_back Down x a = then_opposite group x a
  taken_back Up x a = opposite_then group x a

  module _ (w : Way) (step : Step) (c : Class) (vs : List V) where
    there : List V
    there = partly m r w step j c (count_of m j c) vs

    place_undone : (p : ℕ) → p < length vs → changed_at m r (back w) step j c there p ≡ get_or vs p r.zero
    unfolding there
    place_undone p l = by (in_run (first_place m j c) (count_of m j c) p) refl
      where
        i : ℕ
        i = p - first_place m j c

        old : V
        old = get_or vs p r.zero

        now' : (t : Bool) → in_run (first_place m j c) (count_of m j c) p ≡ t → get_or there p r.zero ≡ cond t (r.plus old (on_the_way r.opposite w (amount_at m r step j c i vs))) old
        now' t e = partly_at m r w step j c (count_of m j c) vs p r.zero l ∙ ap (λ t'. cond t' (r.plus old (on_the_way r.opposite w (amount_at m r step j c i vs))) old) e

        by : (t : Bool) → in_run (first_place m j c) (count_of m j c) p ≡ t → cond t (r.plus (get_or there p r.zero) (on_the_way r.opposite (back w) (amount_at m r step j c i there))) (get_or there p r.zero) ≡ old
        by true e =
            let amount = same_amount m r w step j c (count_of m j c) vs lawful i (le_refl _) in
            ap (λ x. r.plus x (on_the_way r.opposite (back w) (amount_at m r step j c i there))) (now' true e)
            ∙ ap (λ a. r.plus (r.plus old (on_the_way r.opposite w (amount_at m r step j c i vs))) (on_the_way r.opposite (back w) a)) amount
            ∙ taken_back w old (amount_at m r step j c i vs)
        by false e = now' false e

    pub half_undone : half m r (back w) j (step, c) (half m r w j (step, c) vs) ≡ vs
    unfolding half there
    half_undone =
        let long = length_partly m r w step j c (count_of m j c) vs in
        let long' = length_partly m r (back w) step j c (count_of m j c) there in
        ext_get_or
        r.zero
        _
        vs
        (long' ∙ long)
        (λ p l. partly_at m r (back w) step j c (count_of m j c) there p r.zero (omega arith) ∙ place_undone p (omega arith))

  pub halves_undone : (w : Way) (ss : List (Step × Class)) (vs : List V) → halves m r (back w) j (reverse ss) (halves m r w j ss vs) ≡ vs
  halves_undone w [] vs = refl
  halves_undone w (s ∷ ss) vs =
      let one = half m r w j s vs in
      ap (λ ts. halves m r (back w) j ts (halves m r w j ss one)) (reverse-cons s ss) ∙ halves_append m r (back w) j (reverse ss) (s ∷ []) (halves m r w j ss one)
      ∙ ap (half m r (back w) j s) (halves_undone w ss one) ∙ half_undone w s.0 s.1 vs

  pub level_undone : Undone m r j
  unfolding analysed synthesised
  level_undone vs = (halves_undone Down lifts vs, halves_undone Up (reverse lifts) vs)
