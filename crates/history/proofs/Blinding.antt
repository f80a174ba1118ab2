-- Two lists of calls that differ only in amounts at named places are told apart only in the reach.
use Rattle.std.proofs.Common.{◌≡◌, ℕ, zero, suc, ◌<◌, Bool, false, List, [], ◌∷◌, map, length, get_or, take, sym, refl, ap, ◌∙◌, arith}
use Rattle.std.proofs.lemmas.List.{length-map, take-map, get_or-map}
use Rattle.hierarchy.specs.Meaning.{Meaning}
use Rattle.lifting.specs.HalfSteps.{Rule}
use Rattle.history.specs.Answers.{Answer}
use Rattle.history.specs.declared.answer.Reply.TheVariants.{Value}
use Rattle.history.specs.declared.call.Call.{Call}
use Rattle.history.specs.declared.call.Request.{Request}
use Rattle.history.specs.declared.call.Request.TheVariants.{Analyse, Synthesise, Move, TakeBack, Read}
use Rattle.history.specs.Rows.{and_then, answered, lent_verdict, request_verdict}
use Rattle.history.specs.Histories.{Opening, History, begun, values, state_of, answer, next}
use Rattle.history.specs.Runs.{lent, after, answers}
use Rattle.history.specs.Reach.{joining, marks, in_reach}
use Rattle.history.specs.Promise.{blank_request, blank, Alike, outline, Blind}
use Rattle.history.proofs.Blanking.{blanked, state_blanked, marks_blanked, after_blanked, answers_blanked, values_agree}

module _ {V : Type 0} (m : Meaning) (r : Rule V) where
  pub length_answers : (h : History V) (cs : List (Call V)) → length (answers m r h cs) ≡ length cs
  length_answers h [] = refl
  length_answers h (c ∷ cs) = ap suc (length_answers (next m h (lent m h c)) cs)

  -- answer number k is that to call number k, on the history after the calls before it
  answers_at : (h : History V) (cs : List (Call V)) (k : ℕ) (other : Call V) (none : Answer V) → k < length cs → get_or (answers m r h cs) k none ≡ answer m r (after m h (take k cs)) (lent m (after m h (take k cs)) (get_or cs k other))
  answers_at h [] k other none l = absurd (omega arith)
  answers_at h (c ∷ cs) zero other none l = refl
  answers_at h (c ∷ cs) (suc k) other none l = answers_at (next m h (lent m h c)) cs k other none (omega arith)

  -- what reading a place answers depends on what refusals go by and on the value there
  read_alike : (g h : History V) (c : Call V) (place : ℕ) → c.request ≡ Read place → state_of g ≡ state_of h → get_or (values m r g) place r.zero ≡ get_or (values m r h) place r.zero → answer m r g (lent m g c) ≡ answer m r h (lent m h c)
  read_alike g h c place e state value =
      let reading : Call V = record { request = Read place; points = c.points; slots = c.slots } in
      let is : c ≡ reading = λ i. record { request = e i; points = c.points; slots = c.slots } in
      ap (λ x. answer m r g (lent m g x)) is
      ∙ ap (λ v. answered (and_then (lent_verdict m (state_of g) (lent m g reading).points (lent m g reading).slots) (request_verdict {V = V} m (state_of g) (Read place))) (Value v)) value
      ∙ ap (λ st. answered (and_then (lent_verdict m st (lent m g reading).points (lent m (record { opening = record { values = []; depth = 0; slots = st.slots }; depth = 0; moves = [] }) reading).slots) (request_verdict {V = V} m st (Read place))) (Value (get_or (values m r h) place r.zero))) state
      ∙ ap (λ x. answer m r h (lent m h x)) (sym is)

  module _ (named : ℕ → Bool) where
    request_back : (request : Request V) (place : ℕ) → blank_request named r.zero request ≡ Read place → request ≡ Read place
    request_back Analyse place e = e
    request_back Synthesise place e = e
    request_back (Move p a) place e = cc
    request_back TakeBack place e = e
    request_back (Read p) place e = e

    module _ (o : Opening V) (calls others : List (Call V)) (alike : Alike r named calls others) where
      front_alike : (k : ℕ) → map (blank named r.zero) (take k calls) ≡ map (blank named r.zero) (take k others)
      front_alike k = sym (take-map (blank named r.zero) k calls) ∙ ap (take k) alike ∙ take-map (blank named r.zero) k others

      -- after any number of calls, the two histories with the amounts left out are the same
      same_blanked : (k : ℕ) → blanked m r named (after m (begun o) (take k calls)) ≡ blanked m r named (after m (begun o) (take k others))
      same_blanked k =
          sym (after_blanked m r named (begun o) (take k calls)) ∙ ap (after m (begun o)) (front_alike k) ∙ after_blanked m r named (begun o) (take k others)

      same_state : (k : ℕ) → state_of (after m (begun o) (take k calls)) ≡ state_of (after m (begun o) (take k others))
      same_state k =
          sym (state_blanked m r named (after m (begun o) (take k calls))) ∙ ap state_of (same_blanked k) ∙ state_blanked m r named (after m (begun o) (take k others))

      same_marks : (k : ℕ) → marks named (after m (begun o) (take k calls)) ≡ marks named (after m (begun o) (take k others))
      same_marks k =
          sym (marks_blanked m r named (after m (begun o) (take k calls))) ∙ ap (marks named) (same_blanked k) ∙ marks_blanked m r named (after m (begun o) (take k others))

      stored : (k place : ℕ) → in_reach m named (after m (begun o) (take k calls)) place ≡ false → get_or (values m r (after m (begun o) (take k calls))) place r.zero ≡ get_or (values m r (after m (begun o) (take k others))) place r.zero
      stored k place out =
          let out' : in_reach m named (after m (begun o) (take k others)) place ≡ false = ap (λ x. get_or (values m joining x) place false) (sym (same_marks k)) ∙ out in
          (values_agree m r named (after m (begun o) (take k calls))).outside place out
          ∙ ap (λ x. get_or (values m r x) place r.zero) (same_blanked k)
          ∙ sym ((values_agree m r named (after m (begun o) (take k others))).outside place out')

      read : (k place : ℕ) (other : Call V) (none : Answer V) → (get_or calls k other).request ≡ Read place → k < length calls → in_reach m named (after m (begun o) (take k calls)) place ≡ false → get_or (answers m r (begun o) calls) k none ≡ get_or (answers m r (begun o) others) k none
      read k place other none e l out =
          let long : length calls ≡ length others = sym (length-map calls (blank named r.zero)) ∙ ap length alike ∙ length-map others (blank named r.zero) in
          let l' : k < length others = omega arith in
          let same : blank named r.zero (get_or calls k other) ≡ blank named r.zero (get_or others k other)
          = sym (get_or-map (blank named r.zero) calls k other other l) ∙ ap (λ xs. get_or xs k other) alike ∙ get_or-map (blank named r.zero) others k other other l' in
          let e' : (get_or others k other).request ≡ Read place
          = request_back (get_or others k other).request place (sym (ap (λ (c : Call V). c.request) same) ∙ ap (blank_request named r.zero) e) in
          let call : get_or calls k other ≡ get_or others k other
          = λ i. record { request = (e ∙ sym e') i; points = (same i).points; slots = (same i).slots } in
          answers_at (begun o) calls k other none l
          ∙ read_alike (after m (begun o) (take k calls)) (after m (begun o) (take k others)) (get_or calls k other) place e (same_state k) (stored k place out)
          ∙ ap (λ c. answer m r (after m (begun o) (take k others)) (lent m (after m (begun o) (take k others)) c)) call
          ∙ sym (answers_at (begun o) others k other none l')

      pub blind : Blind m r (begun o) named calls others
      blind = record {
        answered = sym (answers_blanked m r named (begun o) calls) ∙ ap (λ cs. map outline (answers m r (begun o) cs)) alike ∙ answers_blanked m r named (begun o) others;
        stored = stored;
        read = read;
      }
