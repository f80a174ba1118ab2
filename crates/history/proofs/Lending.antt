-- A call that is lent the first part of the memory: where that is not all of it, the call is refused and nothing changes.
use Rattle.std.proofs.Common.{◌≡◌, ℕ, ◌≤◌, min, List, ◌++◌, length, take, drop, Ok, Err, sym, refl, ap, ◌∙◌, subst, arith}
use native.Mathlib.Nat.{min-le_right}
use Rattle.std.proofs.lemmas.List.{append-nil, take_all, drop_all, take-append-drop, length-take-le}
use Rattle.std.proofs.lemmas.Bool.{eqb-true}
use Rattle.hierarchy.specs.Meaning.{Meaning}
use Rattle.lifting.specs.HalfSteps.{Rule}
use Rattle.lifting.specs.Travel.{Straight}
use Rattle.kinds.specs.Groups.{Group}
use Rattle.refusal.specs.declared.Refusal.{Refusal}
use Rattle.history.specs.Answers.{Answer}
use Rattle.history.specs.declared.call.Call.{Call}
use Rattle.history.specs.declared.slot.Slot.{Slot}
use Rattle.history.specs.declared.state.State.{State}
use Rattle.history.specs.Rows.{Verdict, finest, lent_verdict}
use Rattle.history.specs.Histories.{History, values, state_of, verdict, answer, next}
use Rattle.history.specs.Memory.{Memory, lending, memory_verdict, Stands, call_on, Kept, Made}
use Rattle.history.specs.Runs.{lent, noted}
use Rattle.history.proofs.Making.{length_made}
use Rattle.history.proofs.Following.{passed, both_passed, refused_first, refused_answer, refused_stays, slots_follow}

pub length_values : {V : Type 0} (m : Meaning) (r : Rule V) (h : History V) → length (values m r h) ≡ length h.opening.values
unfolding values
length_values m r h = length_made m r h.opening.depth h.opening.values h.moves h.depth

module _ {V : Type 0} (m : Meaning) (r : Rule V) (straight : Straight m r) (group : Group r.plus r.zero r.opposite) (h : History V) (c : Call V) (st : State) (points : List V) (slots : List (Slot V)) (n k : ℕ) where
  abbrev part : Memory V
  part = lending st (take n points) (take k slots)

  module _ (is-n : n ≡ min c.points (length points)) (is-k : k ≡ min c.slots (length slots)) (stands : Stands m r (lending st points slots) h) where
    whole : length points ≡ finest m
    whole = ap length stands.points ∙ length_values m r h ∙ stands.sound.whole

    few : n ≤ length points
    few = omega (arith, min-le_right c.points (length points))

    few' : k ≤ length slots
    few' = omega (arith, min-le_right c.slots (length slots))

    lent_is : call_on part c.request ≡ lent m h c
    lent_is =
        let points' : length (take n points) ≡ min c.points (finest m) = length-take-le n points few ∙ is-n ∙ ap (min c.points) whole in
        let slots' : length (take k slots) ≡ min c.slots h.opening.slots = length-take-le k slots few' ∙ is-k ∙ ap (min c.slots) stands.slots in
        λ i. record { request = c.request; points = points' i; slots = slots' i }

    lent_all : lent_verdict m (state_of h) (lent m h c).points (lent m h c).slots ≡ Ok tt → part ≡ lending st points slots
    lent_all ok =
        let both = both_passed _ _ ok in
        let points' : (lent m h c).points ≡ finest m = eqb-true _ _ (passed _ _ both.0) in
        let slots' : (lent m h c).slots ≡ h.opening.slots = eqb-true _ _ (passed _ _ both.1) in
        let is : length (take n points) ≡ (lent m h c).points = ap (λ x. x.points) lent_is in
        let is' : length (take k slots) ≡ (lent m h c).slots = ap (λ x. x.slots) lent_is in
        let n-all : length points ≤ n = omega (arith, length-take-le n points few, whole) in
        let k-all : length slots ≤ k = omega (arith, length-take-le k slots few', stands.slots) in
        λ i. lending st (take_all n points n-all i) (take_all k slots k-all i)

    module _ (a : Answer V) (st' : State) (points' : List V) (slots' : List (Slot V)) (kept : Kept m r c.request part a (lending st' points' slots')) where
      all_made : part ≡ lending st points slots → Made m r h c slots a (lending st' (points' ++ drop n points) (slots' ++ drop k slots))
      all_made is =
          let stands' : Stands m r part h = subst (λ x. Stands m r x h) (sym is) stands in
          let follows = kept.follows h stands' in
          let n-all : length points ≤ n = omega (arith, ap (λ x. length x.points) is, length-take-le n points few) in
          let k-all : length slots ≤ k = omega (arith, ap (λ x. length x.slots) is, length-take-le k slots few') in
          let points-left : points' ++ drop n points ≡ points' = ap (λ xs. points' ++ xs) (drop_all n points n-all) ∙ append-nil points' in
          let slots-left : slots' ++ drop k slots ≡ slots' = ap (λ xs. slots' ++ xs) (drop_all k slots k-all) ∙ append-nil slots' in
          let same : lending st' points' slots' ≡ lending st' (points' ++ drop n points) (slots' ++ drop k slots) = λ i. lending st' (sym points-left i) (sym slots-left i) in
          record {
            answered = follows.0 ∙ ap (answer m r h) lent_is;
            stands = subst (λ x. Stands m r x (next m h (lent m h c))) same (subst (λ x. Stands m r (lending st' points' slots') (next m h x)) lent_is follows.1);
            written =
                slots-left ∙ ap (λ x. x.slots) kept.left ∙ slots_follow m r straight group c.request part h stands' ∙ ap (λ x. noted m h x (take k slots)) lent_is
                ∙ ap (λ x. noted m h (lent m h c) x.slots) is;
          }

      part_refused : (e : Refusal) → lent_verdict m (state_of h) (lent m h c).points (lent m h c).slots ≡ Err e → Made m r h c slots a (lending st' (points' ++ drop n points) (slots' ++ drop k slots))
      part_refused e against =
          let against' : lent_verdict m st (length (take n points)) (length (take k slots)) ≡ Err e
          = ap (λ s. lent_verdict m s (length (take n points)) (length (take k slots))) stands.state ∙ ap (λ x. lent_verdict m (state_of h) x.points x.slots) lent_is ∙ against in
          let refused : memory_verdict m r.zero part c.request ≡ Err e = refused_first _ (refused_first _ against') in
          let refused' : verdict m h (lent m h c) ≡ Err e = refused_first _ against in
          let stays : lending st' points' slots' ≡ part = kept.left ∙ refused_stays _ part refused in
          let same : lending st' (points' ++ drop n points) (slots' ++ drop k slots) ≡ lending st points slots
          = (λ i. lending (stays i).state ((stays i).points ++ drop n points) ((stays i).slots ++ drop k slots)) ∙ (λ i. lending st (take-append-drop n points i) (take-append-drop k slots i)) in
          record {
            answered = kept.answered ∙ refused_answer _ refused ∙ sym (refused_answer _ refused');
            stands = subst (λ x. Stands m r x (next m h (lent m h c))) (sym same) (subst (λ x. Stands m r (lending st points slots) x) (sym (refused_stays _ h refused')) stands);
            written = ap (λ x. x.slots) same ∙ sym (refused_stays _ slots refused');
          }

      by_verdict : (v : Verdict) → lent_verdict m (state_of h) (lent m h c).points (lent m h c).slots ≡ v → Made m r h c slots a (lending st' (points' ++ drop n points) (slots' ++ drop k slots))
      by_verdict (Ok x) e = all_made (lent_all e)
      by_verdict (Err x) e = part_refused x e

      pub part_made : Made m r h c slots a (lending st' (points' ++ drop n points) (slots' ++ drop k slots))
      part_made = by_verdict (lent_verdict m (state_of h) (lent m h c).points (lent m h c).slots) refl
