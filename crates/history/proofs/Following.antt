-- Where form and memory stand for a history, a call answers as the history does, and leaves what stands for the next.
use Rattle.std.proofs.Common.{◌≡◌, ◌+◌, ◌-◌, ◌<◌, ◌≤◌, Bool, true, false, leb, List, [], ◌∷◌, ◌++◌, length, get_or, take, set, Ok, Err, sym, refl, ap, ◌∙◌, subst, arith, length-set}
use Rattle.std.proofs.ByRecursion.{All-get_or, All-push, All-take}
use Rattle.std.proofs.lemmas.List.{take_all, take_more, take_more_set, take-take, length-take-le, length_push, get_or-take}
use Rattle.std.proofs.lemmas.Bool.{cond-true, le-leb, lt-ltb, ltb-true, and_from}
use Rattle.hierarchy.specs.Meaning.{Meaning}
use Rattle.kinds.specs.Groups.{Group}
use Rattle.lifting.specs.HalfSteps.{Rule}
use Rattle.lifting.specs.Travel.{Straight}
use Rattle.lifting.proofs.Journeys.{travelled_none}
use Rattle.refusal.specs.declared.Refusal.{Refusal}
use Rattle.history.specs.Answers.{Answer}
use Rattle.history.specs.declared.answer.Reply.{Reply}
use Rattle.history.specs.declared.call.Request.{Request}
use Rattle.history.specs.declared.call.Request.TheVariants.{Analyse, Synthesise, Move, TakeBack, Read}
use Rattle.history.specs.declared.slot.Slot.{Slot}
use Rattle.history.specs.Rows.{Verdict, unless_passed, and_then, unless_refused, answered, finest, lent_verdict, request_verdict}
use Rattle.history.specs.Histories.{History, made, values, state_of, granted, reply, answer, next, verdict, listed}
use Rattle.history.specs.Memory.{Memory, lending, depth_verdict, no_slot, last_slot, names, slot_verdict, memory_verdict, taken_back, served, memory_after, memory_answer, Sound, Stands, call_on, Kept}
use Rattle.history.specs.Runs.{noted}
use Rattle.history.proofs.Making.{made_last, made_on, last_undone}

pub passed : (test : Bool) (e : Refusal) → unless_passed test e ≡ Ok tt → test ≡ true
passed true e h = refl
passed false e h = cc

pub both_passed : (a b : Verdict) → and_then a b ≡ Ok tt → (a ≡ Ok tt) × (b ≡ Ok tt)
both_passed (Ok x) b h = (refl, h)
both_passed (Err e) b h = absurd cc

-- checks that pass whenever those before them do change nothing
three_checks : (a b c d : Verdict) → b ≡ Ok tt → (c ≡ Ok tt → d ≡ Ok tt) → and_then (and_then a (and_then b c)) d ≡ and_then a c
three_checks (Err e) b c d h k = refl
three_checks (Ok x) b (Ok y) d h k = ap (λ v. and_then (and_then v (Ok y)) d) h ∙ k refl
three_checks (Ok x) b (Err e) d h k = ap (λ v. and_then (and_then v (Err e)) d) h

pub refused_first : {v : Verdict} {e : Refusal} (w : Verdict) → v ≡ Err e → and_then v w ≡ Err e
refused_first w h = ap (λ x. and_then x w) h

pub refused_answer : {V : Type 0} {v : Verdict} {e : Refusal} (a : Reply V) → v ≡ Err e → answered v a ≡ Err e
refused_answer a h = ap (λ x. answered x a) h

pub refused_stays : {A : Type 0} {v : Verdict} {e : Refusal} (a b : A) → v ≡ Err e → unless_refused v a b ≡ b
refused_stays a b h = ap (λ x. unless_refused x a b) h

unless_slots : {V : Type 0} (v : Verdict) (a b : Memory V) → (unless_refused v a b).slots ≡ unless_refused v a.slots b.slots
unless_slots (Ok x) a b = refl
unless_slots (Err e) a b = refl

abbrev Good : {V : Type 0} → Meaning → Slot V → Type 0
Good m s = (s.place < finest m) × (s.depth ≤ m.levels)

module _ {V : Type 0} (m : Meaning) (r : Rule V) (straight : Straight m r) (group : Group r.plus r.zero r.opposite) where
  module _ (h : History V) (slots : List (Slot V)) (sound : Sound m h) (moves : take (length h.moves) slots ≡ h.moves) (long : length slots ≡ h.opening.slots) where
    abbrev here : Memory V
    here = lending (state_of h) (values m r h) slots

    slot_is : 0 < length h.moves → last_slot m r.zero here ≡ get_or h.moves (length h.moves - 1) (no_slot m r.zero)
    slot_is some =
        let n = length h.moves in
        sym (get_or-take n slots (n - 1) (no_slot m r.zero) (omega arith)) ∙ ap (λ xs. get_or xs (n - 1) (no_slot m r.zero)) moves

    -- the last surviving move is what its slot says
    last_is : 0 < length h.moves → h.moves ≡ take (length h.moves - 1) h.moves ++ last_slot m r.zero here ∷ []
    last_is some =
        let n = length h.moves in
        let same : n - 1 + 1 ≡ n = omega arith in
        sym (take_all n h.moves (omega arith)) ∙ ap (λ k. take k h.moves) (sym same) ∙ take_more h.moves (n - 1) (no_slot m r.zero) (omega arith)
        ∙ ap (λ s. take (n - 1) h.moves ++ s ∷ []) (sym (slot_is some))

    last_good : 0 < length h.moves → Good m (last_slot m r.zero here)
    last_good some = subst (Good m) (sym (slot_is some)) (All-get_or (Good m) h.moves (length h.moves - 1) (no_slot m r.zero) (omega arith) sound.moves)

    slot_passes : (request : Request V) → request_verdict m (state_of h) request ≡ Ok tt → slot_verdict m r.zero here request ≡ Ok tt
    slot_passes Analyse e = refl
    slot_passes Synthesise e = refl
    slot_passes (Move place amount) e = refl
    slot_passes TakeBack e =
        let good = last_good (ltb-true 0 (length h.moves) (passed _ _ e)) in
        cond-true (names m (last_slot m r.zero here)) _ _ (and_from _ _ (lt-ltb _ _ good.0) (le-leb _ _ good.1))
    slot_passes (Read place) e = refl

    same_verdict : (request : Request V) → memory_verdict m r.zero here request ≡ verdict m h (call_on here request)
    same_verdict request =
        three_checks
        (lent_verdict m (state_of h) (length (values m r h)) (length slots))
        (depth_verdict m (state_of h))
        (request_verdict m (state_of h) request)
        (slot_verdict m r.zero here request)
        (cond-true (leb h.depth m.levels) _ _ (le-leb _ _ sound.depth))
        (slot_passes request)

    granted_stands : (request : Request V) → request_verdict m (state_of h) request ≡ Ok tt → Stands m r (served m r here request) (granted h request)
    unfolding values
    granted_stands Analyse e = record {
      sound = record { whole = sound.whole; depth = omega (arith, sound.depth); moves = sound.moves; few = sound.few };
      state = refl;
      points = made_on m r straight h.opening.depth h.opening.values h.moves h.depth (h.depth - 1);
      moves = moves;
      slots = long;
    }
    granted_stands Synthesise e = record {
      sound = record { whole = sound.whole; depth = omega (arith, ltb-true h.depth m.levels (passed _ _ e)); moves = sound.moves; few = sound.few };
      state = refl;
      points = made_on m r straight h.opening.depth h.opening.values h.moves h.depth (h.depth + 1);
      moves = moves;
      slots = long;
    }
    granted_stands (Move place amount) e =
        let n = length h.moves in
        let s : Slot V = record { place = place; depth = h.depth; amount = amount } in
        let tests = both_passed _ _ e in
        let inside = ltb-true place (finest m) (passed _ _ tests.0) in
        let free = ltb-true n h.opening.slots (passed _ _ tests.1) in
        let count = length_push h.moves s in
        record {
          sound = record {
            whole = sound.whole;
            depth = sound.depth;
            moves = All-push (Good m) h.moves s sound.moves (inside, sound.depth);
            few = omega arith;
          };
          state = λ i. record { depth = h.depth; survivors = sym count i; slots = h.opening.slots };
          points = sym (made_last m r h.opening.depth h.opening.values h.moves s h.depth ∙ travelled_none m r h.depth _);
          moves = ap (λ k. take k (set slots n s)) count ∙ take_more_set slots n s (omega arith) ∙ ap (λ xs. xs ++ s ∷ []) moves;
          slots = length-set slots n s ∙ long;
        }
    granted_stands TakeBack e =
        let n = length h.moves in
        let some = ltb-true 0 n (passed _ _ e) in
        let s = last_slot m r.zero here in
        let fewer = length-take-le (n - 1) h.moves (omega arith) in
        record {
          sound = record { whole = sound.whole; depth = sound.depth; moves = All-take (Good m) (n - 1) h.moves sound.moves; few = omega (arith, fewer, sound.few) };
          state = λ i. record { depth = h.depth; survivors = sym fewer i; slots = h.opening.slots };
          points =
              ap (λ xs. taken_back m r h.depth s (made m r h.opening.depth h.opening.values xs h.depth)) (last_is some)
              ∙ last_undone m r straight group h.opening.depth h.opening.values (take (n - 1) h.moves) s h.depth (omega (arith, (last_good some).0, sound.whole));
          moves = ap (λ k. take k slots) fewer ∙ sym (take-take (n - 1) n slots (omega arith)) ∙ ap (take (n - 1)) moves;
          slots = long;
        }
    granted_stands (Read place) e = record { sound = sound; state = refl; points = refl; moves = moves; slots = long }

    settled : (request : Request V) (v : Verdict) → verdict m h (call_on here request) ≡ v → (answered v (reply r (served m r here request).state (served m r here request).points request) ≡ answered v (reply r (state_of (granted h request)) (values m r (granted h request)) request)) × Stands m r (unless_refused v (served m r here request) here) (unless_refused v (granted h request) h)
    settled request (Ok x) e =
        let stands = granted_stands request (both_passed _ _ e).1 in
        (ap (λ st. Ok (reply r st (served m r here request).points request)) stands.state ∙ ap (λ vs. Ok (reply r (state_of (granted h request)) vs request)) stands.points, stands)
    settled request (Err x) e = (refl, record { sound = sound; state = refl; points = refl; moves = moves; slots = long })

    answers_alike : (request : Request V) → (memory_answer m r here request ≡ answer m r h (call_on here request)) × Stands m r (memory_after m r here request) (next m h (call_on here request))
    answers_alike request =
        let both = settled request (verdict m h (call_on here request)) refl in
        let same = same_verdict request in (
          ap (λ v. answered v (reply r (served m r here request).state (served m r here request).points request)) same ∙ both.0,
          subst (λ v. Stands m r (unless_refused v (served m r here request) here) (next m h (call_on here request))) (sym same) both.1,
        )

    served_slots : (request : Request V) → (served m r here request).slots ≡ listed (state_of h) request slots
    served_slots Analyse = refl
    served_slots Synthesise = refl
    served_slots (Move place amount) = refl
    served_slots TakeBack = refl
    served_slots (Read place) = refl

    slots_alike : (request : Request V) → (memory_after m r here request).slots ≡ noted m h (call_on here request) slots
    slots_alike request =
        ap (λ v. (unless_refused v (served m r here request) here).slots) (same_verdict request) ∙ unless_slots (verdict m h (call_on here request)) (served m r here request) here
        ∙ ap (λ xs. unless_refused (verdict m h (call_on here request)) xs slots) (served_slots request)

  pub slots_follow : (request : Request V) (mem : Memory V) (h : History V) → Stands m r mem h → (memory_after m r mem request).slots ≡ noted m h (call_on mem request) mem.slots
  slots_follow request mem h stands =
      let same : mem ≡ lending (state_of h) (values m r h) mem.slots = λ i. lending (stands.state i) (stands.points i) mem.slots in
      subst
      (λ (x : Memory V). (memory_after m r x request).slots ≡ noted m h (call_on x request) x.slots)
      (sym same)
      (slots_alike h mem.slots stands.sound stands.moves stands.slots request)

  pub follows : (request : Request V) (mem : Memory V) (h : History V) → Stands m r mem h → (memory_answer m r mem request ≡ answer m r h (call_on mem request)) × Stands m r (memory_after m r mem request) (next m h (call_on mem request))
  follows request mem h stands =
      let same : mem ≡ lending (state_of h) (values m r h) mem.slots = λ i. lending (stands.state i) (stands.points i) mem.slots in
      subst
      (λ (x : Memory V). (memory_answer m r x request ≡ answer m r h (call_on x request)) × Stands m r (memory_after m r x request) (next m h (call_on x request)))
      (sym same)
      (answers_alike h mem.slots stands.sound stands.moves stands.slots request)

  -- so a call keeps what is promised once its answer and what it leaves are known
  pub kept : (request : Request V) (before : Memory V) (a : Answer V) (after : Memory V) → a ≡ memory_answer m r before request → after ≡ memory_after m r before request → Kept m r request before a after
  kept request before a after said left = record {
    answered = said;
    left = left;
    follows = λ h stands.
        let both = follows request before h stands in
        (said ∙ both.0, subst (λ x. Stands m r x (next m h (call_on before request))) (sym left) both.1);
    elsewhere = λ h own e stands state wrong.
        let wrong' : lent_verdict m (state_of h) (length before.points) (length before.slots) ≡ Err e = ap (λ st. lent_verdict m st (length before.points) (length before.slots)) (sym (state ∙ stands.state)) ∙ wrong in
        let refused : memory_verdict m r.zero before request ≡ Err e = refused_first _ (refused_first _ wrong) in
        let refused' : verdict m h (call_on before request) ≡ Err e = refused_first _ wrong' in
        (said ∙ refused_answer _ refused ∙ sym (refused_answer _ refused'), left ∙ refused_stays _ before refused, refused_stays _ h refused');
  }
