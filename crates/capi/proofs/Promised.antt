-- What follows from the promise, for a run whose answer is known.
use Rattle.std.proofs.Common.{◌≡◌, ℕ, ◌-◌, ◌≤◌, min, Bool, ◌⊎◌, List, ◌++◌, map, length, take, drop, replicate, None, Ok, Err, Result, sym, refl, ap, ◌∙◌, subst, inl, inr, ⊎_elim, append_assoc, arith, length-take}
use Rattle.std.proofs.lemmas.List.{length-append, length-map, length-replicate, take_min, take-append-le, drop-append-le}
use native.Mathlib.Nat.{min-le_left, min-le_right, min_comm}
use Rattle.refusal.specs.declared.Refusal.{Refusal}
use Rattle.hierarchy.specs.Meaning.{Meaning}
use Rattle.lifting.specs.HalfSteps.{Rule}
use Rattle.history.specs.Answers.{Answer}
use Rattle.history.specs.Histories.{History}
use Rattle.history.specs.Promise.{Promise, Performed, Lent, lent_to, opened, with_room}
use Rattle.history.specs.Rows.{Verdict, opening_verdict}
use Rattle.history.specs.Runs.{answers}
use Rattle.history.specs.declared.answer.Reply.TheVariants.{Count}
use Rattle.history.specs.declared.call.Call.{Call}
use Rattle.capi.specs.declared.crossing.Crossing as Crossing
use Rattle.capi.specs.declared.records.CallRecord.{CallRecord}
use Rattle.capi.specs.declared.stop.Stop.{Stop}
use Rattle.capi.specs.Jobs.{Handed, handed, Run, Called, Performs, written}
use Rattle.capi.specs.Records.{call_of, slot_of, slot_record, answer_record, unknown_call}
use Rattle.capi.specs.Schemes.{Law}
use Rattle.capi.specs.Stops.{settled}

either : (v : Verdict) → (v ≡ Ok tt) ⊎ ((e : Refusal) × (v ≡ Err e))
either (Ok x) = inl refl
either (Err e) = inr (e, refl)

module _ {V : Type 0} (m : Meaning) (r : Rule V) (needs : Bool) (depth : ℕ) (calls : List (Call V)) (before left : Lent V) where
  pub refused_stays : (e : Refusal) → Promise m r needs depth calls before left (Err e) → left ≡ before
  refused_stays e p =
      ⊎_elim
      (λ ok. let is = (p.performed ok).0 in let z : ◌≡◌ {A = ℕ} 0 1 = cc in absurd (omega arith))
      (λ against. (p.refused against.0 against.1).1)
      (either (opening_verdict m needs (length before.points) (length before.slots) depth))

  pub few_made : (n : ℕ) → Promise m r needs depth calls before left (Ok n) → n ≤ length before.answers
  few_made n p =
      ⊎_elim
      (λ ok.
      let is = (p.performed ok).0 in
      let n-is : n ≡ min (length before.answers) (length calls) = cc (length-take (length before.answers) calls) in
      omega (arith, n-is, min-le_left (length before.answers) (length calls)))
      (λ against. let is = (p.refused against.0 against.1).0 in let z : ◌≡◌ {A = ℕ} 0 1 = cc in absurd (omega arith))
      (either (opening_verdict m needs (length before.points) (length before.slots) depth))

-- with so many answers more, which no call is answered by
abbrev roomier : {V : Type 0} → List (Answer V) → Lent V → Lent V
roomier extra l = lent_to l.points l.slots (l.answers ++ extra)

-- room for more answers than there are calls makes no difference
module _ {V : Type 0} (m : Meaning) (r : Rule V) (extra : List (Answer V)) where
  performed_roomier : (h : History V) (calls : List (Call V)) (before left : Lent V) → length calls ≤ length before.answers → Performed m r h calls before left → Performed m r h calls (roomier extra before) (roomier extra left)
  performed_roomier h calls before left within p = record {
    answers = ap (λ l. l ++ extra) p.answers ∙ append_assoc (answers m r h calls) (drop (length calls) before.answers) extra ∙ ap (λ l. answers m r h calls ++ l) (sym (drop-append-le (length calls) before.answers extra within));
    points = p.points;
    slots = p.slots;
    survivors = p.survivors;
    restored = p.restored;
    blind = p.blind;
  }

  promise_roomier : (needs : Bool) (depth : ℕ) (calls : List (Call V)) (before left : Lent V) (result : Result ℕ Refusal) (room : ℕ) → length before.answers ≡ min (length calls) room → length (before.answers ++ extra) ≡ room → Promise m r needs depth calls before left result → Promise m r needs depth calls (roomier extra before) (roomier extra left) result
  promise_roomier needs depth calls before left result room few all p =
      let same : with_room (roomier extra before) calls ≡ with_room before calls =
      ap (λ n. take n calls) all ∙ sym (take_min room calls) ∙ ap (λ n. take n calls) (min_comm room (length calls) ∙ sym few) in
      let within : length (with_room before calls) ≤ length before.answers = omega (arith, length-take (length before.answers) calls, min-le_left (length before.answers) (length calls)) in
      record {
        refused = λ e against. ((p.refused e against).0, ap (roomier extra) (p.refused e against).1);
        performed = λ ok. (
          (p.performed ok).0 ∙ ap (λ cs. Ok (length cs)) (sym same),
          subst (λ cs. Performed m r (opened depth before) cs (roomier extra before) (roomier extra left)) (sym same) (performed_roomier (opened depth before) (with_room before calls) before left within (p.performed ok).1),
        );
      }

written_roomier : {V : Type 0} (k : Crossing.Ghosts V) (extra : List (Answer V)) (answer : Result ℕ Refusal) (before : Handed V) (end : Lent V) → ((n : ℕ) → answer ≡ Ok n → n ≤ length end.answers) → written k answer before end ≡ written k answer before (roomier extra end)
written_roomier k extra (Ok n) before end few =
    ap (λ xs. handed end.points (map (slot_record k.leaves) end.slots) (map (answer_record k.leaves) xs ++ drop n before.answers)) (sym (take-append-le n end.answers extra (few n refl)))
written_roomier k extra (Err e) before end few = refl

module _ {V : Type 0} (k : Crossing.Ghosts V) (m : Meaning) (l : Law V) (depth : ℕ) (calls : List CallRecord) (before left : Handed V) where
  pub performs : (result : Result ℕ Stop) (answer : Result ℕ Refusal) → unknown_call calls ≡ None → result ≡ settled answer → (lent end : Lent V) (asked : List (Call V)) → asked ≡ map (call_of k.arrives) calls → lent.points ≡ before.points → lent.slots ≡ map (slot_of k.arrives) before.slots → length lent.answers ≡ length before.answers → Promise m l.rule l.uniform depth asked lent end answer → left ≡ written k answer before end → Performs k m l depth calls before left result
  performs result answer all_known is lent end asked as_asked points slots room promise leaves =
      let run : Run k m l depth calls before left answer = record {
        lent = lent;
        end = end;
        points = points;
        slots = slots;
        room = room;
        promise = subst (λ cs. Promise m l.rule l.uniform depth cs lent end answer) as_asked promise;
        leaves = leaves;
      } in
      inr (subst (λ o. Called o k m l depth calls before left result) (sym all_known) (answer, is, run))

  -- the same, where room was lent for an answer to each call that is made, and no more
  pub performs_with_just_room : (result : Result ℕ Stop) (answer : Result ℕ Refusal) → unknown_call calls ≡ None → result ≡ settled answer → (lent end : Lent V) (asked : List (Call V)) → asked ≡ map (call_of k.arrives) calls → lent.points ≡ before.points → lent.slots ≡ map (slot_of k.arrives) before.slots → length lent.answers ≡ min (length calls) (length before.answers) → length end.answers ≡ length lent.answers → Promise m l.rule l.uniform depth asked lent end answer → left ≡ written k answer before end → Performs k m l depth calls before left result
  performs_with_just_room result answer all_known is lent end asked as_asked points slots room kept promise leaves =
      let extra : List (Answer V) = replicate (length before.answers - length lent.answers) (Ok (Count 0)) in
      let all : length (lent.answers ++ extra) ≡ length before.answers =
      omega (arith, length-append lent.answers extra, length-replicate {A = Answer V} (length before.answers - length lent.answers) (Ok (Count 0)), room, min-le_right (length calls) (length before.answers)) in
      let enough : length lent.answers ≡ min (length asked) (length before.answers) =
      room ∙ ap (λ n. min n (length before.answers)) (sym (ap length as_asked ∙ length-map calls (call_of k.arrives))) in
      let few : (n : ℕ) → answer ≡ Ok n → n ≤ length end.answers =
      λ n e. omega (arith, kept, few_made m l.rule l.uniform depth asked lent end n (subst (λ a. Promise m l.rule l.uniform depth asked lent end a) e promise)) in
      performs result answer all_known is (roomier extra lent) (roomier extra end) asked as_asked points slots all
      (promise_roomier m l.rule extra l.uniform depth asked lent end answer (length before.answers) enough all promise)
      (leaves ∙ written_roomier k extra answer before end few)
