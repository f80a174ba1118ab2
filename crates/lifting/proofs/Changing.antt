-- What a half step leaves, place by place, also while it is under way.
use Rattle.std.proofs.Common.{◌≡◌, ℕ, ◌+◌, ◌-◌, ◌<◌, ◌≤◌, true, cond, List, [], ◌∷◌, ◌++◌, map, length, get_or, set, sym, refl, ap, ◌∙◌, inl, inr, ⊎_elim, arith, length-set}
use Rattle.std.specs.List.{range_with_len, AllByRecursion}
use Rattle.std.proofs.lemmas.List.FromFn.{length-map-range_with_len, get_or-map-range_with_len}
use Rattle.std.proofs.lemmas.List.{get_or_past, get_or-set_same, get_or-set_other, ext_get_or}
use Rattle.std.proofs.ByRecursion.{All-weaker}
use Rattle.std.proofs.lemmas.Bool.{cases_lt, cases_eq, cond-true, cond-false}
use Rattle.std.proofs.lemmas.Bool.Decides.{nat_tests}
use Rattle.hierarchy.specs.Meaning.{Meaning}
use Rattle.hierarchy.specs.Lawful.{Lawful}
use Rattle.schemes.specs.Readings.{Reads}
use Rattle.schemes.specs.declared.steps.Class.{Class}
use Rattle.schemes.specs.declared.steps.Class.TheVariants.{Vertex, Edge, Face}
use Rattle.schemes.specs.declared.steps.Step.{Step}
use Rattle.lifting.specs.declared.way.Way.{Way}
use Rattle.lifting.specs.Places.{count_of, first_place, in_run, dimension_of}
use Rattle.lifting.specs.Reading.{read_by, values_of, values_read}
use Rattle.lifting.specs.HalfSteps.{Rule, on_the_way, amount_at, changed_at, half, halves}
use Rattle.lifting.proofs.Outside.{Outside, outside_run, Foreign, Apart, apart}

same_map : {V : Type 0} (f g : ℕ → V) (xs : List ℕ) → AllByRecursion (λ x. f x ≡ g x) xs → map f xs ≡ map g xs
same_map f g [] h = refl
same_map f g (x ∷ xs) h = λ i. h.0 i ∷ same_map f g xs h.1 i

-- the first n points of the class are changed
abbrev pub changed_below : {V : Type 0} → Meaning → Rule V → Way → Step → ℕ → Class → ℕ → List V → ℕ → V
changed_below m r way step j c n vs p =
    let old = get_or vs p r.zero in
    cond (in_run (first_place m j c) n p) (r.plus old (on_the_way r.opposite way (amount_at m r step j c (p - first_place m j c) vs))) old

abbrev pub partly : {V : Type 0} → Meaning → Rule V → Way → Step → ℕ → Class → ℕ → List V → List V
partly m r way step j c n vs = map (changed_below m r way step j c n vs) (range_with_len 0 (length vs))

pub half_is : {V : Type 0} (m : Meaning) (r : Rule V) (way : Way) (step : Step) (j : ℕ) (c : Class) (vs : List V) → half m r way j (step, c) vs ≡ partly m r way step j c (count_of m j c) vs
unfolding half
half_is m r way step j c vs = refl

-- a half step by its places, for crates above
pub length_half : {V : Type 0} (m : Meaning) (r : Rule V) (way : Way) (j : ℕ) (s : Step × Class) (vs : List V) → length (half m r way j s vs) ≡ length vs
unfolding half
length_half m r way j s vs = length-map-range_with_len (changed_at m r way s.0 j s.1 vs) 0 (length vs)

pub half_at : {V : Type 0} (m : Meaning) (r : Rule V) (way : Way) (j : ℕ) (s : Step × Class) (vs : List V) (p : ℕ) (d : V) → p < length vs → get_or (half m r way j s vs) p d ≡ changed_at m r way s.0 j s.1 vs p
unfolding half
half_at m r way j s vs p d l = get_or-map-range_with_len (changed_at m r way s.0 j s.1 vs) 0 (length vs) p p d l (omega arith)

pub length_halves : {V : Type 0} (m : Meaning) (r : Rule V) (way : Way) (j : ℕ) (ss : List (Step × Class)) (vs : List V) → length (halves m r way j ss vs) ≡ length vs
length_halves m r way j [] vs = refl
length_halves m r way j (s ∷ ss) vs = length_halves m r way j ss (half m r way j s vs) ∙ length_half m r way j s vs

pub halves_append : {V : Type 0} (m : Meaning) (r : Rule V) (way : Way) (j : ℕ) (ss ts : List (Step × Class)) (vs : List V) → halves m r way j (ss ++ ts) vs ≡ halves m r way j ts (halves m r way j ss vs)
halves_append m r way j [] ts vs = refl
halves_append m r way j (s ∷ ss) ts vs = halves_append m r way j ss ts (half m r way j s vs)

-- one half step more
pub one_more : {V : Type 0} (m : Meaning) (r : Rule V) (way : Way) (j : ℕ) (made : List (Step × Class)) (s : Step × Class) (before : List V) {now after : List V} → now ≡ halves m r way j made before → after ≡ half m r way j s now → after ≡ halves m r way j (made ++ s ∷ []) before
one_more m r way j made s before is-now is-after = is-after ∙ ap (half m r way j s) is-now ∙ sym (halves_append m r way j made (s ∷ []) before)

module _ {V : Type 0} (m : Meaning) (r : Rule V) (way : Way) (step : Step) (j : ℕ) (c : Class) (n : ℕ) (vs : List V) where
  pub length_partly : length (partly m r way step j c n vs) ≡ length vs
  length_partly = length-map-range_with_len (changed_below m r way step j c n vs) 0 (length vs)

  pub partly_at : (p : ℕ) (d : V) → p < length vs → get_or (partly m r way step j c n vs) p d ≡ changed_below m r way step j c n vs p
  partly_at p d l = get_or-map-range_with_len (changed_below m r way step j c n vs) 0 (length vs) p p d l (omega arith)

  -- what stands outside the places changed stays
  pub partly_outside : (p : ℕ) → Outside (first_place m j c) n p → get_or (partly m r way step j c n vs) p r.zero ≡ get_or vs p r.zero
  partly_outside p out = ⊎_elim inside past (cases_lt p (length vs))
    where
      inside : p < length vs → get_or (partly m r way step j c n vs) p r.zero ≡ get_or vs p r.zero
      inside l = partly_at p r.zero l ∙ cond-false (in_run (first_place m j c) n p) _ (get_or vs p r.zero) (outside_run (first_place m j c) n p out)

      past : length vs ≤ p → get_or (partly m r way step j c n vs) p r.zero ≡ get_or vs p r.zero
      past l =
          let long = length_partly in
          get_or_past (partly m r way step j c n vs) p r.zero (omega arith) ∙ sym (get_or_past vs p r.zero l)

  foreign_stays : (k : Class) (i : ℕ) → n ≤ count_of m j c → Foreign m j c k i → get_or (partly m r way step j c n vs) (first_place m j k + i) r.zero ≡ get_or vs (first_place m j k + i) r.zero
  foreign_stays k i few out = partly_outside (first_place m j k + i) (⊎_elim (λ l. inl l) (λ l. inr (omega arith)) out)

  values_outside : (k : Class) (ns : List ℕ) → n ≤ count_of m j c → AllByRecursion (Foreign m j c k) ns → values_of m r.zero (partly m r way step j c n vs) j k ns ≡ values_of m r.zero vs j k ns
  values_outside k ns few out =
      same_map
      (λ i. get_or (partly m r way step j c n vs) (first_place m j k + i) r.zero)
      (λ i. get_or vs (first_place m j k + i) r.zero)
      ns
      (All-weaker (Foreign m j c k) (λ i. get_or (partly m r way step j c n vs) (first_place m j k + i) r.zero ≡ get_or vs (first_place m j k + i) r.zero) (λ i o. foreign_stays k i few o) ns out)

  reads_outside : (q : Reads ℕ) → n ≤ count_of m j c → Apart m j c q → values_read m r.zero (partly m r way step j c n vs) j q ≡ values_read m r.zero vs j q
  reads_outside q few out = λ i. record {
    vertices = values_outside Vertex q.vertices few out.vertices i;
    edges = values_outside Edge q.edges few out.edges i;
    faces = values_outside Face q.faces few out.faces i;
  }

  -- so the amount is the same, whether or not points of the class are changed already
  pub same_amount : Lawful m → (i : ℕ) → n ≤ count_of m j c → amount_at m r step j c i (partly m r way step j c n vs) ≡ amount_at m r step j c i vs
  same_amount lawful i few = ap (λ q. r.amount step c (dimension_of m j c i) q) (reads_outside (read_by m step j c i) few (apart lawful j step c i))

module _ {V : Type 0} (m : Meaning) (r : Rule V) (way : Way) (step : Step) (j : ℕ) (c : Class) (vs : List V) where
  -- at first nothing is changed
  pub partly_none : partly m r way step j c 0 vs ≡ vs
  partly_none = ext_get_or r.zero _ vs (length_partly m r way step j c 0 vs) (λ p l. partly_outside m r way step j c 0 vs p (⊎_elim (λ (k : p < first_place m j c). inl k) (λ (k : first_place m j c ≤ p). inr (omega arith)) (cases_lt p (first_place m j c))))

  -- then one point after the other
  pub partly_more : (n : ℕ) → first_place m j c + n < length vs → set (partly m r way step j c n vs) (first_place m j c + n) (r.plus (get_or vs (first_place m j c + n) r.zero) (on_the_way r.opposite way (amount_at m r step j c n vs))) ≡ partly m r way step j c (n + 1) vs
  partly_more n l = ext_get_or r.zero _ _ (length-set before here new ∙ long ∙ sym long') at
    where
      here : ℕ
      here = first_place m j c + n

      before : List V
      before = partly m r way step j c n vs

      new : V
      new = r.plus (get_or vs here r.zero) (on_the_way r.opposite way (amount_at m r step j c n vs))

      long : length before ≡ length vs
      long = length_partly m r way step j c n vs

      long' : length (partly m r way step j c (n + 1) vs) ≡ length vs
      long' = length_partly m r way step j c (n + 1) vs

      at : (p : ℕ) → p < length (set before here new) → get_or (set before here new) p r.zero ≡ get_or (partly m r way step j c (n + 1) vs) p r.zero
      at p k = ⊎_elim changed kept (cases_eq p here)
        where
          inside : p < length vs
          inside = omega (arith, length-set before here new, long)

          after : get_or (partly m r way step j c (n + 1) vs) p r.zero ≡ changed_below m r way step j c (n + 1) vs p
          after = partly_at m r way step j c (n + 1) vs p r.zero inside

          changed : p ≡ here → get_or (set before here new) p r.zero ≡ get_or (partly m r way step j c (n + 1) vs) p r.zero
          changed e =
              let run : in_run (first_place m j c) (n + 1) p ≡ true = grind (arith, nat_tests) in
              let number : p - first_place m j c ≡ n = omega arith in
              ap (λ k. get_or (set before here new) k r.zero) e ∙ get_or-set_same before here new r.zero (omega (arith, long))
              ∙ ap (λ k. r.plus (get_or vs k r.zero) (on_the_way r.opposite way (amount_at m r step j c n vs))) (sym e)
              ∙ ap (λ i. r.plus (get_or vs p r.zero) (on_the_way r.opposite way (amount_at m r step j c i vs))) (sym number)
              ∙ sym (cond-true (in_run (first_place m j c) (n + 1) p) _ _ run) ∙ sym after

          kept : (p ≡ here → ⊥) → get_or (set before here new) p r.zero ≡ get_or (partly m r way step j c (n + 1) vs) p r.zero
          kept other =
              let same : in_run (first_place m j c) n p ≡ in_run (first_place m j c) (n + 1) p = grind (arith, nat_tests) in
              get_or-set_other before here p new r.zero other ∙ partly_at m r way step j c n vs p r.zero inside
              ∙ ap (λ t. cond t (r.plus (get_or vs p r.zero) (on_the_way r.opposite way (amount_at m r step j c (p - first_place m j c) vs))) (get_or vs p r.zero)) same ∙ sym after

-- a turn of the loop that changes them
module _ {V : Type 0} {m : Meaning} (lawful : Lawful m) (r : Rule V) (way : Way) (step : Step) (j : ℕ) (c : Class) (vs : List V) (n : ℕ) where
  pub turn_changes : {before after : List V} {place : ℕ} {added : V} → n < count_of m j c → first_place m j c + n < length vs → before ≡ partly m r way step j c n vs → place ≡ first_place m j c + n → added ≡ amount_at m r step j c n before → after ≡ set before place (r.plus (get_or before place r.zero) (on_the_way r.opposite way added)) → after ≡ partly m r way step j c (n + 1) vs
  turn_changes {before} {place} {added} few inside is-before is-place is-added is-after =
      let new : V → V = λ a. r.plus (get_or vs (first_place m j c + n) r.zero) (on_the_way r.opposite way a) in
      let amount : added ≡ amount_at m r step j c n vs = is-added ∙ ap (amount_at m r step j c n) is-before ∙ same_amount m r way step j c n vs lawful n (omega arith) in
      let old = partly_outside m r way step j c n vs (first_place m j c + n) (inr (omega arith)) in
      is-after
      ∙ ap (λ xs. set xs place (r.plus (get_or xs place r.zero) (on_the_way r.opposite way added))) is-before
      ∙ ap (λ p. set (partly m r way step j c n vs) p (r.plus (get_or (partly m r way step j c n vs) p r.zero) (on_the_way r.opposite way added))) is-place
      ∙ ap (λ x. set (partly m r way step j c n vs) (first_place m j c + n) (r.plus x (on_the_way r.opposite way added))) old
      ∙ ap (λ a. set (partly m r way step j c n vs) (first_place m j c + n) (new a)) amount
      ∙ partly_more m r way step j c vs n inside
