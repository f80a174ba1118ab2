-- Travel from one depth to another is travel up to any depth above both, and then down; so the middle of two travels cancels.
use Rattle.std.proofs.Common.{◌≡◌, ℕ, zero, suc, ◌+◌, ◌<◌, ◌≤◌, leb, List, reverse, length, sym, refl, ap, ◌∙◌, ⊎_elim, le_refl, arith}
use Rattle.std.proofs.lemmas.Bool.{cases_lt, cond-true, cond-false, cond_both, le-leb, lt-leb}
use Rattle.hierarchy.specs.Meaning.{Meaning}
use Rattle.lifting.specs.HalfSteps.{Rule, lifts, analysed, synthesised}
use Rattle.lifting.specs.declared.way.Way.TheVariants.{Down, Up}
use Rattle.lifting.specs.Travel.{descended, climbed, travelled, Undone, Straight, Returned}
use Rattle.lifting.proofs.Changing.{length_halves}

module _ {V : Type 0} (m : Meaning) (r : Rule V) where
  pub descended_step : (a b : ℕ) (vs : List V) → b ≤ a → descended m r (suc a) b vs ≡ descended m r a b (analysed m r a vs)
  descended_step a b vs l = cond-true (leb b a) _ _ (le-leb b a l)

  pub descended_none : (a b : ℕ) (vs : List V) → a ≤ b → descended m r a b vs ≡ vs
  descended_none zero b vs l = refl
  descended_none (suc a) b vs l = cond-false (leb b a) _ _ (lt-leb b a l)

  pub climbed_step : (a b : ℕ) (vs : List V) → a ≤ b → climbed m r a (suc b) vs ≡ synthesised m r b (climbed m r a b vs)
  climbed_step a b vs l = cond-true (leb a b) _ _ (le-leb a b l)

  pub climbed_none : (a b : ℕ) (vs : List V) → b ≤ a → climbed m r a b vs ≡ vs
  climbed_none a zero vs l = refl
  climbed_none a (suc b) vs l = cond-false (leb a b) _ _ (lt-leb a b l)

  pub travelled_down : (a b : ℕ) (vs : List V) → b ≤ a → travelled m r a b vs ≡ descended m r a b vs
  unfolding travelled
  travelled_down a b vs l = cond-true (leb b a) _ _ (le-leb b a l)

  pub travelled_up : (a b : ℕ) (vs : List V) → a ≤ b → travelled m r a b vs ≡ climbed m r a b vs
  unfolding travelled
  travelled_up a b vs l =
      ⊎_elim
      (λ (k : a < b). cond-false (leb b a) _ _ (lt-leb b a k))
      (λ (k : b ≤ a). cond-true (leb b a) _ _ (le-leb b a k) ∙ descended_none a b vs l ∙ sym (climbed_none a b vs k))
      (cases_lt a b)

  pub travelled_none : (a : ℕ) (vs : List V) → travelled m r a a vs ≡ vs
  travelled_none a vs = travelled_down a a vs (le_refl a) ∙ descended_none a a vs (le_refl a)

  -- one level is an analysis or a synthesis
  pub travelled_analysis : (j : ℕ) (vs : List V) → travelled m r (suc j) j vs ≡ analysed m r j vs
  travelled_analysis j vs = travelled_down (suc j) j vs (omega arith) ∙ descended_step j j vs (le_refl j) ∙ descended_none j j (analysed m r j vs) (le_refl j)

  pub travelled_synthesis : (j : ℕ) (vs : List V) → travelled m r j (suc j) vs ≡ synthesised m r j vs
  travelled_synthesis j vs = travelled_up j (suc j) vs (omega arith) ∙ climbed_step j j vs (le_refl j) ∙ ap (synthesised m r j) (climbed_none j j vs (le_refl j))

  length_analysed : (j : ℕ) (vs : List V) → length (analysed m r j vs) ≡ length vs
  unfolding analysed
  length_analysed j vs = length_halves m r Down j lifts vs

  length_synthesised : (j : ℕ) (vs : List V) → length (synthesised m r j vs) ≡ length vs
  unfolding synthesised
  length_synthesised j vs = length_halves m r Up j (reverse lifts) vs

  length_descended : (a b : ℕ) (vs : List V) → length (descended m r a b vs) ≡ length vs
  length_descended zero b vs = refl
  length_descended (suc a) b vs = cond_both (leb b a) _ _ (λ xs. length xs ≡ length vs) (λ _. length_descended a b (analysed m r a vs) ∙ length_analysed a vs) (λ _. refl)

  length_climbed : (a b : ℕ) (vs : List V) → length (climbed m r a b vs) ≡ length vs
  length_climbed a zero vs = refl
  length_climbed a (suc b) vs = cond_both (leb a b) _ _ (λ xs. length xs ≡ length vs) (λ _. length_synthesised b (climbed m r a b vs) ∙ length_climbed a b vs) (λ _. refl)

  -- travel keeps the number of values
  pub length_travelled : (a b : ℕ) (vs : List V) → length (travelled m r a b vs) ≡ length vs
  unfolding travelled
  length_travelled a b vs = cond_both (leb b a) (descended m r a b vs) (climbed m r a b vs) (λ xs. length xs ≡ length vs) (λ _. length_descended a b vs) (λ _. length_climbed a b vs)

  -- travel in two parts the same way
  climbed_on : (a b c : ℕ) (vs : List V) → a ≤ b → b ≤ c → climbed m r b c (climbed m r a b vs) ≡ climbed m r a c vs
  climbed_on a b zero vs k l = climbed_none a b vs (omega arith)
  climbed_on a b (suc c) vs k l =
      ⊎_elim
      (λ (less : b < suc c).
      climbed_step b c (climbed m r a b vs) (omega arith) ∙ ap (synthesised m r c) (climbed_on a b c vs k (omega arith)) ∙ sym (climbed_step a c vs (omega arith)))
      (λ (more : suc c ≤ b).
      let same : b ≡ suc c = omega arith in
      climbed_none b (suc c) (climbed m r a b vs) more ∙ ap (λ n. climbed m r a n vs) same)
      (cases_lt b (suc c))

  descended_on : (a b c : ℕ) (vs : List V) → a ≤ b → b ≤ c → descended m r b a (descended m r c b vs) ≡ descended m r c a vs
  descended_on a b zero vs k l = descended_none b a vs (omega arith)
  descended_on a b (suc c) vs k l =
      ⊎_elim
      (λ (less : b < suc c).
      ap (descended m r b a) (descended_step c b vs (omega arith)) ∙ descended_on a b c (analysed m r c vs) k (omega arith) ∙ sym (descended_step c a vs (omega arith)))
      (λ (more : suc c ≤ b).
      let same : b ≡ suc c = omega arith in
      ap (descended m r b a) (descended_none (suc c) b vs more) ∙ ap (λ n. descended m r n a vs) same)
      (cases_lt b (suc c))

module _ {V : Type 0} (m : Meaning) (r : Rule V) (undone : (j : ℕ) → Undone m r j) where
  -- up and down again, down and up again
  pub up_down : (a b : ℕ) (vs : List V) → a ≤ b → descended m r b a (climbed m r a b vs) ≡ vs
  up_down a zero vs l = refl
  up_down a (suc b) vs l =
      ⊎_elim
      (λ (less : a < suc b).
      ap (descended m r (suc b) a) (climbed_step m r a b vs (omega arith)) ∙ descended_step m r b a _ (omega arith)
      ∙ ap (descended m r b a) (undone b (climbed m r a b vs)).1 ∙ up_down a b vs (omega arith))
      (λ (more : suc b ≤ a). descended_none m r (suc b) a _ more ∙ climbed_none m r a (suc b) vs more)
      (cases_lt a (suc b))

  pub down_up : (a b : ℕ) (vs : List V) → a ≤ b → climbed m r a b (descended m r b a vs) ≡ vs
  down_up a zero vs l = refl
  down_up a (suc b) vs l =
      ⊎_elim
      (λ (less : a < suc b).
      ap (climbed m r a (suc b)) (descended_step m r b a vs (omega arith)) ∙ climbed_step m r a b _ (omega arith)
      ∙ ap (synthesised m r b) (down_up a b (analysed m r b vs) (omega arith)) ∙ (undone b vs).0)
      (λ (more : suc b ≤ a). climbed_none m r a (suc b) _ more ∙ descended_none m r (suc b) a vs more)
      (cases_lt a (suc b))

  -- by any depth above both
  pub over : (a b n : ℕ) (vs : List V) → a ≤ n → b ≤ n → travelled m r a b vs ≡ descended m r n b (climbed m r a n vs)
  over a b n vs k l =
      ⊎_elim
      (λ (up : a < b).
      travelled_up m r a b vs (omega arith) ∙ sym (up_down b n (climbed m r a b vs) l)
      ∙ ap (descended m r n b) (climbed_on m r a b n vs (omega arith) l))
      (λ (down : b ≤ a).
      travelled_down m r a b vs down ∙ ap (descended m r a b) (sym (up_down a n vs k))
      ∙ descended_on m r b a n (climbed m r a n vs) down k)
      (cases_lt a b)

  pub straight : Straight m r
  straight a b c vs =
      let n = a + b + c in
      let first = over a b n vs (omega arith) (omega arith) in
      over b c n (travelled m r a b vs) (omega arith) (omega arith)
      ∙ ap (λ xs. descended m r n c (climbed m r b n xs)) first
      ∙ ap (descended m r n c) (down_up b n (climbed m r a n vs) (omega arith))
      ∙ sym (over a c n vs (omega arith) (omega arith))

  pub returned : Returned m r
  returned a b vs = straight a b a vs ∙ travelled_none m r a vs
