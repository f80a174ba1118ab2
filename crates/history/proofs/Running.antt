-- A run, call by call, and the promise over the whole of it.
use Rattle.std.proofs.Common.{◌≡◌, ℕ, ◌+◌, ◌<◌, min, Bool, List, [], ◌∷◌, ◌++◌, length, get_or, take, drop, set, Ok, Err, sym, refl, ap, ◌∙◌, subst, arith}
use native.Mathlib.Nat.{min_comm}
use Rattle.std.proofs.lemmas.List.{append_assoc, take_min, take_more, drop_more, set_at, length-take, length-take-le, length_push}
use Rattle.hierarchy.specs.Meaning.{Meaning}
use Rattle.lifting.specs.HalfSteps.{Rule}
use Rattle.lifting.specs.Travel.{travelled}
use Rattle.lifting.proofs.Journeys.{travelled_none}
use Rattle.refusal.specs.declared.Refusal.{Refusal}
use Rattle.history.specs.Answers.{Answer}
use Rattle.history.specs.declared.call.Call.{Call}
use Rattle.history.specs.declared.slot.Slot.{Slot}
use Rattle.history.specs.declared.call.Request.{Request}
use Rattle.history.specs.declared.call.Request.TheVariants.{Analyse, Synthesise, Move, TakeBack, Read}
use Rattle.history.specs.Rows.{Verdict, unless_refused, opening_verdict}
use Rattle.history.specs.Histories.{History, made, values, verdict, granted, answer, next}
use Rattle.history.specs.Memory.{Memory, Stands, Made}
use Rattle.history.specs.Runs.{lent, noted, after, answers, listed_by}
use Rattle.history.specs.Promise.{Lent, lent_to, opened, Performed, Promise}
use Rattle.history.proofs.Blinding.{length_answers, blind}

module _ {V : Type 0} (m : Meaning) (r : Rule V) where
  -- one call more, at the end
  after_last : (h : History V) (cs : List (Call V)) (c : Call V) → after m h (cs ++ c ∷ []) ≡ next m (after m h cs) (lent m (after m h cs) c)
  after_last h [] c = refl
  after_last h (x ∷ cs) c = after_last (next m h (lent m h x)) cs c

  answers_last : (h : History V) (cs : List (Call V)) (c : Call V) → answers m r h (cs ++ c ∷ []) ≡ answers m r h cs ++ answer m r (after m h cs) (lent m (after m h cs) c) ∷ []
  answers_last h [] c = refl
  answers_last h (x ∷ cs) c = ap (λ xs. answer m r h (lent m h x) ∷ xs) (answers_last (next m h (lent m h x)) cs c)

  listed_last : (h : History V) (cs : List (Call V)) (c : Call V) (slots : List (Slot V)) → listed_by m h (cs ++ c ∷ []) slots ≡ noted m (after m h cs) (lent m (after m h cs) c) (listed_by m h cs slots)
  listed_last h [] c slots = refl
  listed_last h (x ∷ cs) c slots = listed_last (next m h (lent m h x)) cs c (noted m h (lent m h x) slots)

  -- what holds when these calls have been made
  pub record Running (h : History V) (cs : List (Call V)) (before : Lent V) (mem : Memory V) (room : List (Answer V)) : Type 0 where
    pub stands : Stands m r mem (after m h cs)
    pub slots : mem.slots ≡ listed_by m h cs before.slots
    pub answers : room ≡ answers m r h cs ++ drop (length cs) before.answers

  running_more : (h : History V) (cs : List (Call V)) (c : Call V) (before : Lent V) (mem mem' : Memory V) (room : List (Answer V)) (a : Answer V) → length cs < length before.answers → Running h cs before mem room → Made m r (after m h cs) c mem.slots a mem' → Running h (cs ++ c ∷ []) before mem' (set room (length cs) a)
  running_more h cs c before mem mem' room a free run made = record {
    stands = subst (Stands m r mem') (sym (after_last h cs c)) made.stands;
    slots = made.written ∙ ap (noted m (after m h cs) (lent m (after m h cs) c)) run.slots ∙ sym (listed_last h cs c before.slots);
    answers =
        let told = answers m r h cs in
        let count : length (cs ++ c ∷ []) ≡ length cs + 1 = length_push cs c in
        ap (λ xs. set xs (length cs) a) (run.answers ∙ ap (λ xs. told ++ xs) (drop_more before.answers (length cs) a free))
        ∙ set_at told (get_or before.answers (length cs) a) (drop (length cs + 1) before.answers) a (length cs) (length_answers m r h cs)
        ∙ ap (λ x. told ++ x ∷ drop (length cs + 1) before.answers) made.answered
        ∙ sym (append_assoc told (answer m r (after m h cs) (lent m (after m h cs) c) ∷ []) (drop (length cs + 1) before.answers))
        ∙ ap (λ xs. xs ++ drop (length cs + 1) before.answers) (sym (answers_last h cs c))
        ∙ ap (λ n. answers m r h (cs ++ c ∷ []) ++ drop n before.answers) (sym count);
  }

  -- a turn of the loop
  pub turn : (h : History V) (calls : List (Call V)) (before : Lent V) (mem mem' : Memory V) (room room' : List (Answer V)) (i : ℕ) (c : Call V) (a : Answer V) → i < length calls → i < length before.answers → c ≡ get_or calls i c → Running h (take i calls) before mem room → ((x : History V) → Stands m r mem x → Made m r x c mem.slots a mem') → room' ≡ set room i a → Running h (take (i + 1) calls) before mem' room'
  turn h calls before mem mem' room room' i c a l free is run made put =
      let front : length (take i calls) ≡ i = length-take-le i calls (omega arith) in
      let more : take i calls ++ c ∷ [] ≡ take (i + 1) calls = sym (take_more calls i c l ∙ ap (λ x. take i calls ++ x ∷ []) (sym is)) in
      let step = running_more h (take i calls) c before mem mem' room a (omega arith) run (made (after m h (take i calls)) run.stands) in
      let step' : Running h (take (i + 1) calls) before mem' (set room (length (take i calls)) a) = subst (λ cs. Running h cs before mem' (set room (length (take i calls)) a)) more step in
      subst (Running h (take (i + 1) calls) before mem') (ap (λ n. set room n a) front ∙ sym put) step'

  pub start : (h : History V) (before : Lent V) (mem : Memory V) → Stands m r mem h → mem.slots ≡ before.slots → Running h [] before mem before.answers
  start h before mem stands slots = record { stands = stands; slots = slots; answers = refl }

-- the opening is never changed
granted_opening : {V : Type 0} (h : History V) (request : Request V) → (granted h request).opening ≡ h.opening
granted_opening h Analyse = refl
granted_opening h Synthesise = refl
granted_opening h (Move place amount) = refl
granted_opening h TakeBack = refl
granted_opening h (Read place) = refl

unless_opening : {V : Type 0} (v : Verdict) (h : History V) (request : Request V) → (unless_refused v (granted h request) h).opening ≡ h.opening
unless_opening (Ok x) h request = granted_opening h request
unless_opening (Err e) h request = refl

opening_stays : {V : Type 0} (m : Meaning) (h : History V) (cs : List (Call V)) → (after m h cs).opening ≡ h.opening
opening_stays m h [] = refl
opening_stays m h (c ∷ cs) = opening_stays m (next m h (lent m h c)) cs ∙ unless_opening (verdict m h (lent m h c)) h c.request

-- without a move, at the opened depth, the values are the opened ones
values_again : {V : Type 0} (m : Meaning) (r : Rule V) (h : History V) → h.moves ≡ [] → h.depth ≡ h.opening.depth → values m r h ≡ h.opening.values
unfolding values
values_again m r h none same =
    ap (λ ms. made m r h.opening.depth h.opening.values ms h.depth) none ∙ ap (λ d. travelled m r h.opening.depth d h.opening.values) same
    ∙ travelled_none m r h.opening.depth h.opening.values

module _ {V : Type 0} (m : Meaning) (r : Rule V) (needs : Bool) (depth : ℕ) (calls : List (Call V)) (before : Lent V) where
  pub promise_refused : (e : Refusal) → opening_verdict m needs (length before.points) (length before.slots) depth ≡ Err e → Promise m r needs depth calls before before (Err e)
  promise_refused e against = record {
    refused = λ e' against'. (cc, refl);
    performed = λ ok. absurd cc;
  }

  pub promise_kept : (mem : Memory V) (room : List (Answer V)) (count : ℕ) → opening_verdict m needs (length before.points) (length before.slots) depth ≡ Ok tt → count ≡ min (length calls) (length before.answers) → Running m r (opened depth before) (take count calls) before mem room → Promise m r needs depth calls before (lent_to mem.points mem.slots room) (Ok count)
  promise_kept mem room count ok is run = record {
    refused = λ e against. absurd cc;
    performed = λ _. (ap Ok (is ∙ min_comm (length calls) (length before.answers) ∙ sym (length-take (length before.answers) calls)), all);
  }
    where
      run' : Running m r (opened depth before) (take (length before.answers) calls) before mem room
      run' = subst (λ cs. Running m r (opened depth before) cs before mem room) (ap (λ n. take n calls) (is ∙ min_comm (length calls) (length before.answers)) ∙ take_min (length before.answers) calls) run

      all : Performed m r (opened depth before) (take (length before.answers) calls) before (lent_to mem.points mem.slots room)
      all = record {
        answers = run'.answers;
        points = run'.stands.points;
        slots = run'.slots;
        survivors = run'.stands.moves;
        restored = λ none same.
            let end = after m (opened depth before) (take (length before.answers) calls) in
            let same-opening = opening_stays m (opened depth before) (take (length before.answers) calls) in
            run'.stands.points ∙ values_again m r end none (same ∙ sym (ap (λ o. o.depth) same-opening)) ∙ ap (λ o. o.values) same-opening;
        blind = λ named others alike. blind m r named _ (take (length before.answers) calls) others alike;
      }
