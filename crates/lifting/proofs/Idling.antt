-- A half step whose amounts are all zero leaves the values as they were.
use Rattle.std.proofs.Common.{◌≡◌, ℕ, ◌-◌, List, get_or, sym, refl, ap, ◌∙◌, arith}
use Rattle.std.proofs.lemmas.List.{ext_get_or}
use Rattle.std.proofs.lemmas.Bool.{cond_both}
use Rattle.hierarchy.specs.Meaning.{Meaning}
use Rattle.kinds.specs.Groups.{Group}
use Rattle.kinds.proofs.Cancelling.{opposite_then}
use Rattle.schemes.specs.Readings.{Reads}
use Rattle.schemes.specs.declared.steps.Class.{Class}
use Rattle.schemes.specs.declared.steps.Step.{Step}
use Rattle.lifting.specs.declared.way.Way.{Way}
use Rattle.lifting.specs.declared.way.Way.TheVariants.{Down, Up}
use Rattle.lifting.specs.Places.{first_place, has_place}
use Rattle.lifting.specs.HalfSteps.{Rule, on_the_way, amount_at, half}
use Rattle.lifting.proofs.Changing.{length_half, half_at}

module _ {V : Type 0} (m : Meaning) (r : Rule V) (group : Group r.plus r.zero r.opposite) where
  zero_added : (w : Way) (x : V) → r.plus x (on_the_way r.opposite w r.zero) ≡ x
  zero_added Down x = group.zero_right x
  zero_added Up x = sym (group.zero_right (r.plus x (r.opposite r.zero))) ∙ opposite_then group x r.zero

  pub half_idle : (w : Way) (j : ℕ) (step : Step) (c : Class) → ((d : ℕ) (q : Reads V) → r.amount step c d q ≡ r.zero) → (vs : List V) → half m r w j (step, c) vs ≡ vs
  half_idle w j step c none vs =
      let long = length_half m r w j (step, c) vs in
      ext_get_or r.zero (half m r w j (step, c) vs) vs long (λ p l.
      half_at m r w j (step, c) vs p r.zero (omega arith)
      ∙ cond_both
      (has_place m j c p)
      (r.plus (get_or vs p r.zero) (on_the_way r.opposite w (amount_at m r step j c (p - first_place m j c) vs)))
      (get_or vs p r.zero)
      (λ x. x ≡ get_or vs p r.zero)
      (λ _. ap (λ a. r.plus (get_or vs p r.zero) (on_the_way r.opposite w a)) (none _ _) ∙ zero_added w (get_or vs p r.zero))
      (λ _. refl))
