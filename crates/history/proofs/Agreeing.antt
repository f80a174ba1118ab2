-- Two makings that agree outside the reach agree outside it after every step, and after every move whose amounts agree there.
use Rattle.std.proofs.Common.{◌≡◌, ℕ, zero, suc, ◌+◌, ◌-◌, ◌<◌, ◌≤◌, Bool, true, false, cond, ◌||◌, leb, List, [], ◌∷◌, map, reverse, length, get_or, sym, refl, ap, ◌∙◌, ⊎_elim, arith, length-set}
use Rattle.std.proofs.lemmas.List.{get_or_past, get_or-set_same, get_or-set_other, length-map}
use Rattle.std.proofs.lemmas.Bool.{cases_lt, cases_eq, or_parts}
use Rattle.hierarchy.specs.Meaning.{Meaning}
use Rattle.schemes.specs.Readings.{Reads}
use Rattle.schemes.specs.declared.steps.Class.{Class}
use Rattle.schemes.specs.declared.steps.Class.TheVariants.{Vertex, Edge, Face}
use Rattle.schemes.specs.declared.steps.Step.{Step}
use Rattle.lifting.specs.declared.way.Way.{Way}
use Rattle.lifting.specs.declared.way.Way.TheVariants.{Down, Up}
use Rattle.lifting.specs.Places.{first_place, has_place, dimension_of}
use Rattle.lifting.specs.Reading.{read_by, values_of, values_read}
use Rattle.lifting.specs.HalfSteps.{Rule, on_the_way, amount_at, half, halves, lifts, analysed, synthesised}
use Rattle.lifting.specs.Travel.{descended, climbed, travelled}
use Rattle.lifting.proofs.Changing.{length_half, half_at}
use Rattle.history.specs.Histories.{added}
use Rattle.history.specs.Reach.{some, joining}

-- the values agree at each place that is out
pub record Agree {V : Type 0} (none : V) (reach : List Bool) (vs ws : List V) : Type 0 where
  pub marked_all : length reach ≡ length vs
  pub same_length : length ws ≡ length vs
  pub outside : (p : ℕ) → get_or reach p false ≡ false → get_or vs p none ≡ get_or ws p none

agree_cond : {V : Type 0} {none : V} (t : Bool) {bs cs : List Bool} {vs ws xs ys : List V} → Agree none bs vs ws → Agree none cs xs ys → Agree none (cond t bs cs) (cond t vs xs) (cond t ws ys)
agree_cond true a b = a
agree_cond false a b = b

none_in : {X : Type 0} (f : ℕ → Bool) (g k : ℕ → X) → ((n : ℕ) → f n ≡ false → g n ≡ k n) → (ns : List ℕ) → some (map f ns) ≡ false → map g ns ≡ map k ns
none_in f g k same [] out = refl
none_in f g k same (n ∷ ns) out =
    let parts = or_parts (f n) (some (map f ns)) out in
    λ i. same n parts.0 i ∷ none_in f g k same ns parts.1 i

module _ {V : Type 0} (m : Meaning) (r : Rule V) where
  same_reads : (j : ℕ) (q : Reads ℕ) {bs : List Bool} {vs ws : List V} → Agree r.zero bs vs ws → (some (values_read m false bs j q).vertices || (some (values_read m false bs j q).edges || some (values_read m false bs j q).faces)) ≡ false → values_read m r.zero vs j q ≡ values_read m r.zero ws j q
  same_reads j q {bs} {vs} {ws} agree out =
      let first = or_parts (some (values_read m false bs j q).vertices) (some (values_read m false bs j q).edges || some (values_read m false bs j q).faces) out in
      let rest = or_parts (some (values_read m false bs j q).edges) (some (values_read m false bs j q).faces) first.1 in
      let of : (c : Class) (ns : List ℕ) → some (values_of m false bs j c ns) ≡ false → values_of m r.zero vs j c ns ≡ values_of m r.zero ws j c ns
      = λ c ns. none_in (λ n. get_or bs (first_place m j c + n) false) (λ n. get_or vs (first_place m j c + n) r.zero) (λ n. get_or ws (first_place m j c + n) r.zero) (λ n. agree.outside (first_place m j c + n)) ns in
      λ i. record { vertices = of Vertex q.vertices first.0 i; edges = of Edge q.edges rest.0 i; faces = of Face q.faces rest.1 i }

  either_way : (way : Way) (b : Bool) → on_the_way (λ (x : Bool). x) way b ≡ b
  either_way Down b = refl
  either_way Up b = refl

  pub half_agrees : (way : Way) (j : ℕ) (s : Step × Class) {bs : List Bool} {vs ws : List V} → Agree r.zero bs vs ws → Agree r.zero (half m joining way j s bs) (half m r way j s vs) (half m r way j s ws)
  half_agrees way j s {bs} {vs} {ws} agree = record {
    marked_all = length_half m joining way j s bs ∙ agree.marked_all ∙ sym (length_half m r way j s vs);
    same_length = length_half m r way j s ws ∙ agree.same_length ∙ sym (length_half m r way j s vs);
    outside = λ p out. ⊎_elim (λ (l : p < length vs). inside p l out) (λ (l : length vs ≤ p). past p l) (cases_lt p (length vs));
  }
    where
      past : (p : ℕ) → length vs ≤ p → get_or (half m r way j s vs) p r.zero ≡ get_or (half m r way j s ws) p r.zero
      past p l =
          let long = length_half m r way j s vs in
          let long' = length_half m r way j s ws in
          get_or_past (half m r way j s vs) p r.zero (omega arith) ∙ sym (get_or_past (half m r way j s ws) p r.zero (omega (arith, agree.same_length)))

      inside : (p : ℕ) → p < length vs → get_or (half m joining way j s bs) p false ≡ false → get_or (half m r way j s vs) p r.zero ≡ get_or (half m r way j s ws) p r.zero
      inside p l out =
          let out' = sym (half_at m joining way j s bs p false (omega (arith, agree.marked_all))) ∙ out in
          half_at m r way j s vs p r.zero l ∙ by (has_place m j s.1 p) out' ∙ sym (half_at m r way j s ws p r.zero (omega (arith, agree.same_length)))
        where
          by : (t : Bool) → cond t (get_or bs p false || on_the_way (λ (x : Bool). x) way (amount_at m joining s.0 j s.1 (p - first_place m j s.1) bs)) (get_or bs p false) ≡ false
              → cond t (r.plus (get_or vs p r.zero) (on_the_way r.opposite way (amount_at m r s.0 j s.1 (p - first_place m j s.1) vs))) (get_or vs p r.zero)
              ≡ cond t (r.plus (get_or ws p r.zero) (on_the_way r.opposite way (amount_at m r s.0 j s.1 (p - first_place m j s.1) ws))) (get_or ws p r.zero)
          by true none =
              let parts = or_parts (get_or bs p false) (on_the_way (λ (x : Bool). x) way (amount_at m joining s.0 j s.1 (p - first_place m j s.1) bs)) none in
              let unread = sym (either_way way (amount_at m joining s.0 j s.1 (p - first_place m j s.1) bs)) ∙ parts.1 in
              let amount : amount_at m r s.0 j s.1 (p - first_place m j s.1) vs ≡ amount_at m r s.0 j s.1 (p - first_place m j s.1) ws
              = ap (r.amount s.0 s.1 (dimension_of m j s.1 (p - first_place m j s.1))) (same_reads j (read_by m s.0 j s.1 (p - first_place m j s.1)) agree unread) in
              λ k. r.plus (agree.outside p parts.0 k) (on_the_way r.opposite way (amount k))
          by false none = agree.outside p none

  halves_agree : (way : Way) (j : ℕ) (ss : List (Step × Class)) {bs : List Bool} {vs ws : List V} → Agree r.zero bs vs ws → Agree r.zero (halves m joining way j ss bs) (halves m r way j ss vs) (halves m r way j ss ws)
  halves_agree way j [] agree = agree
  halves_agree way j (s ∷ ss) agree = halves_agree way j ss (half_agrees way j s agree)

  descended_agrees : (a b : ℕ) {bs : List Bool} {vs ws : List V} → Agree r.zero bs vs ws → Agree r.zero (descended m joining a b bs) (descended m r a b vs) (descended m r a b ws)
  unfolding analysed
  descended_agrees zero b agree = agree
  descended_agrees (suc a) b agree = agree_cond (leb b a) (descended_agrees a b (halves_agree Down a lifts agree)) agree

  climbed_agrees : (a b : ℕ) {bs : List Bool} {vs ws : List V} → Agree r.zero bs vs ws → Agree r.zero (climbed m joining a b bs) (climbed m r a b vs) (climbed m r a b ws)
  unfolding synthesised
  climbed_agrees a zero agree = agree
  climbed_agrees a (suc b) agree = agree_cond (leb a b) (halves_agree Up b (reverse lifts) (climbed_agrees a b agree)) agree

  pub travelled_agrees : (a b : ℕ) {bs : List Bool} {vs ws : List V} → Agree r.zero bs vs ws → Agree r.zero (travelled m joining a b bs) (travelled m r a b vs) (travelled m r a b ws)
  unfolding travelled
  travelled_agrees a b agree = agree_cond (leb b a) (descended_agrees a b agree) (climbed_agrees a b agree)

  -- a move whose place is in, or whose amounts are the same
  pub added_agrees : (place : ℕ) (named : Bool) (x y : V) {bs : List Bool} {vs ws : List V} → (named ≡ false → x ≡ y) → Agree r.zero bs vs ws → Agree r.zero (added joining place named bs) (added r place x vs) (added r place y ws)
  added_agrees place named x y {bs} {vs} {ws} same agree = record {
    marked_all = length-set bs place _ ∙ agree.marked_all ∙ sym (length-set vs place _);
    same_length = length-set ws place _ ∙ agree.same_length ∙ sym (length-set vs place _);
    outside = λ p out. ⊎_elim (λ (e : p ≡ place). here p e out) (λ (ne : p ≡ place → ⊥). elsewhere p ne out) (cases_eq p place);
  }
    where
      elsewhere : (p : ℕ) → (p ≡ place → ⊥) → get_or (added joining place named bs) p false ≡ false → get_or (added r place x vs) p r.zero ≡ get_or (added r place y ws) p r.zero
      elsewhere p ne out =
          get_or-set_other vs place p _ r.zero ne ∙ agree.outside p (sym (get_or-set_other bs place p _ false ne) ∙ out) ∙ sym (get_or-set_other ws place p _ r.zero ne)

      changed : place < length vs → get_or (added joining place named bs) place false ≡ false → get_or (added r place x vs) place r.zero ≡ get_or (added r place y ws) place r.zero
      changed l out =
          let parts = or_parts (get_or bs place false) named (sym (get_or-set_same bs place _ false (omega (arith, agree.marked_all))) ∙ out) in
          get_or-set_same vs place _ r.zero l ∙ (λ k. r.plus (agree.outside place parts.0 k) (same parts.1 k)) ∙ sym (get_or-set_same ws place _ r.zero (omega (arith, agree.same_length)))

      here : (p : ℕ) → p ≡ place → get_or (added joining place named bs) p false ≡ false → get_or (added r place x vs) p r.zero ≡ get_or (added r place y ws) p r.zero
      here p e out =
          ap (λ q. get_or (added r place x vs) q r.zero) e
          ∙ ⊎_elim
          (λ (l : place < length vs). changed l (ap (λ q. get_or (added joining place named bs) q false) (sym e) ∙ out))
          (λ (l : length vs ≤ place).
          get_or_past (added r place x vs) place r.zero (omega (arith, length-set vs place (r.plus (get_or vs place r.zero) x)))
          ∙ sym (get_or_past (added r place y ws) place r.zero (omega (arith, agree.same_length, length-set ws place (r.plus (get_or ws place r.zero) y)))))
          (cases_lt place (length vs))
          ∙ ap (λ q. get_or (added r place y ws) q r.zero) (sym e)

-- at first no place is in
pub agree_from : {V : Type 0} (none : V) (vs : List V) → Agree none (map (λ _. false) vs) vs vs
agree_from none vs = record { marked_all = length-map vs (λ _. false); same_length = refl; outside = λ p out. refl }
