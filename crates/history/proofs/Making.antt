-- The making of values, move by move: what the last move adds, and what is left when it is taken back.
use Rattle.std.proofs.Common.{◌≡◌, ℕ, ◌<◌, List, [], ◌∷◌, ◌++◌, length, get_or, set, refl, ap, ◌∙◌, arith, length-set}
use Rattle.std.proofs.lemmas.List.{get_or-set_same, set-set, set-get_or}
use Rattle.hierarchy.specs.Meaning.{Meaning}
use Rattle.kinds.specs.Groups.{Group}
use Rattle.kinds.proofs.Cancelling.{then_opposite}
use Rattle.lifting.specs.HalfSteps.{Rule}
use Rattle.lifting.specs.Travel.{travelled, Straight}
use Rattle.lifting.proofs.Journeys.{length_travelled, travelled_none}
use Rattle.history.specs.declared.slot.Slot.{Slot}
use Rattle.history.specs.Histories.{added, made}
use Rattle.history.specs.Memory.{taken_back}

module _ {V : Type 0} (m : Meaning) (r : Rule V) where
  pub length_made : (from : ℕ) (vs : List V) (moves : List (Slot V)) (to : ℕ) → length (made m r from vs moves to) ≡ length vs
  length_made from vs [] to = length_travelled m r from to vs
  length_made from vs (s ∷ moves) to =
      let there = travelled m r from s.depth vs in
      length_made s.depth (added r s.place s.amount there) moves to ∙ length-set there s.place _ ∙ length_travelled m r from s.depth vs

  pub made_last : (from : ℕ) (vs : List V) (moves : List (Slot V)) (s : Slot V) (to : ℕ) → made m r from vs (moves ++ s ∷ []) to ≡ travelled m r s.depth to (added r s.place s.amount (made m r from vs moves s.depth))
  made_last from vs [] s to = refl
  made_last from vs (x ∷ moves) s to = made_last x.depth (added r x.place x.amount (travelled m r from x.depth vs)) moves s to

  pub made_on : Straight m r → (from : ℕ) (vs : List V) (moves : List (Slot V)) (a b : ℕ) → travelled m r a b (made m r from vs moves a) ≡ made m r from vs moves b
  made_on straight from vs [] a b = straight from a b vs
  made_on straight from vs (x ∷ moves) a b = made_on straight x.depth (added r x.place x.amount (travelled m r from x.depth vs)) moves a b

  module _ (straight : Straight m r) (group : Group r.plus r.zero r.opposite) where
    opposite_added : (place : ℕ) (amount : V) (vs : List V) → place < length vs → added r place (r.opposite amount) (added r place amount vs) ≡ vs
    opposite_added place amount vs inside =
        let old = get_or vs place r.zero in
        let new = r.plus old amount in
        ap (λ x. set (set vs place new) place (r.plus x (r.opposite amount))) (get_or-set_same vs place new r.zero inside)
        ∙ ap (set (set vs place new) place) (then_opposite group old amount) ∙ set-set vs place new old ∙ set-get_or vs place r.zero

    -- taking back the last move, wherever the form stands, leaves the making without it
    pub last_undone : (from : ℕ) (vs : List V) (moves : List (Slot V)) (s : Slot V) (to : ℕ) → s.place < length vs → taken_back m r to s (made m r from vs (moves ++ s ∷ []) to) ≡ made m r from vs moves to
    last_undone from vs moves s to inside =
        let before = made m r from vs moves s.depth in
        let moved = added r s.place s.amount before in
        let long = length_made from vs moves s.depth in
        let returned : travelled m r to s.depth (travelled m r s.depth to moved) ≡ moved = straight s.depth to s.depth moved ∙ travelled_none m r s.depth moved in
        ap (taken_back m r to s) (made_last from vs moves s to)
        ∙ ap (λ xs. travelled m r s.depth to (added r s.place (r.opposite s.amount) xs)) returned
        ∙ ap (travelled m r s.depth to) (opposite_added s.place s.amount before (omega arith))
        ∙ made_on straight from vs moves s.depth to
