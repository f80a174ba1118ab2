-- What a call knows once its checks have passed, and how it keeps what is promised of it.
use Rattle.std.proofs.Common.{◌≡◌, ℕ, ◌-◌, ◌<◌, ◌≤◌, Bool, eqb, leb, List, length, Ok, Err, sym, refl, ap, ◌∙◌, ⊎_elim, zero-le, arith}
use Rattle.std.specs.Prelude.{OnOk, IfErr}
use Rattle.std.proofs.lemmas.List.{get_or_past}
use Rattle.std.proofs.lemmas.Bool.{cases_lt, eqb-true, leb-true, ltb-true, eq-eqb, le-leb, and_parts, cond-true}
use Rattle.hierarchy.specs.Meaning.{Meaning}
use Rattle.hierarchy.specs.Lawful.{Lawful}
use Rattle.kinds.specs.Groups.{Group}
use Rattle.lifting.specs.Calls.{between_depths}
use Rattle.lifting.specs.HalfSteps.{Rule}
use Rattle.lifting.specs.Travel.{travelled, Straight}
use Rattle.lifting.proofs.Journeys as journeys
use Rattle.lifting.proofs.Journeys.{travelled_none}
use Rattle.lifting.proofs.Undoing.{level_undone}
use Rattle.refusal.specs.declared.Refusal.{Refusal}
use Rattle.history.specs.declared.answer.Reply.{Reply}
use Rattle.history.specs.declared.call.Request.{Request}
use Rattle.history.specs.declared.call.Request.TheVariants.{Analyse, Synthesise, Move, TakeBack, Read}
use Rattle.history.specs.declared.slot.Slot.{Slot}
use Rattle.history.specs.declared.state.State.{State}
use Rattle.history.specs.Rows.{Verdict, and_then, unless_refused, answered, finest, opening_verdict, request_verdict}
use Rattle.history.specs.Histories.{opening_on, begun, added, values, reply}
use Rattle.history.specs.Memory.{Memory, lending, last_slot, no_slot, names, slot_verdict, call_verdict, memory_verdict, Allowed, Passed, taken_back, served, Stands, Kept}
use Rattle.history.proofs.Following.{passed, both_passed, refused_first, refused_answer, refused_stays, kept}

-- travel between two depths that there are is not refused
pub no_refusal : (m : Meaning) (n a b : ℕ) (e : Refusal) → n ≡ finest m → a ≤ m.levels → b ≤ m.levels → Err e ≡ between_depths m n a b → ⊥
no_refusal m n a b e whole from to h =
    let ok : between_depths m n a b ≡ Ok tt = cond-true (eqb n (finest m)) _ _ (eq-eqb n (finest m) whole) ∙ cond-true (leb a m.levels) _ _ (le-leb a m.levels from) ∙ cond-true (leb b m.levels) _ _ (le-leb b m.levels to) in
    cc

-- a move taken back in three steps
pub three_steps : {V : Type 0} (m : Meaning) (r : Rule V) (depth : ℕ) (vs : List V) {last s : Slot V} {opposite : V} {there changed back : List V} → s ≡ last → there ≡ travelled m r depth s.depth vs → opposite ≡ r.opposite s.amount → changed ≡ added r s.place opposite there → back ≡ travelled m r s.depth depth changed → back ≡ taken_back m r depth last vs
three_steps m r depth vs {last} {s} {opposite} {there} {changed} {back} is went amount took came =
    came ∙ ap (travelled m r s.depth depth) (took ∙ ap (λ a. added r s.place a there) amount ∙ ap (added r s.place (r.opposite s.amount)) went) ∙ ap (λ x. taken_back m r depth x vs) is

-- an opening that nothing speaks against begins a history
pub opens : {V : Type 0} (m : Meaning) (r : Rule V) (needs : Bool) (depth : ℕ) (points : List V) (slots : List (Slot V)) → opening_verdict m needs (length points) (length slots) depth ≡ Ok tt → Stands m r (lending (record { depth = depth; survivors = 0; slots = length slots }) points slots) (begun (opening_on depth points slots))
unfolding values
opens m r needs depth points slots ok =
    let first = both_passed _ _ ok in
    let second = both_passed _ _ first.1 in
    let third = both_passed _ _ second.1 in
    record {
      sound = record {
        whole = eqb-true _ _ (passed _ _ second.0);
        depth = leb-true _ _ (passed _ _ third.1);
        moves = tt;
        few = zero-le;
      };
      state = refl;
      points = sym (travelled_none m r depth points);
      moves = refl;
      slots = refl;
    }

allowed : {V : Type 0} (m : Meaning) (st : State) (request : Request V) → request_verdict m st request ≡ Ok tt → Allowed m st request
allowed m st Analyse e = ltb-true _ _ (passed _ _ e)
allowed m st Synthesise e = ltb-true _ _ (passed _ _ e)
allowed m st (Move place amount) e = let tests = both_passed _ _ e in (ltb-true _ _ (passed _ _ tests.0), ltb-true _ _ (passed _ _ tests.1))
allowed m st TakeBack e = ltb-true _ _ (passed _ _ e)
allowed m st (Read place) e = ltb-true _ _ (passed _ _ e)

module _ {V : Type 0} (m : Meaning) (r : Rule V) (mem : Memory V) where
  pub passed_all : (request : Request V) → call_verdict m mem.state (length mem.points) (length mem.slots) request ≡ Ok tt → Passed m mem request
  passed_all request h =
      let call = both_passed _ _ h in
      let rest = both_passed _ _ call.1 in
      let lent = both_passed _ _ call.0 in
      record {
        verdict = h;
        points = eqb-true _ _ (passed _ _ lent.0);
        slots = eqb-true _ _ (passed _ _ lent.1);
        depth = leb-true _ _ (passed _ _ rest.0);
        allowed = allowed m mem.state request rest.1;
      }

  -- the slot of the last surviving move stands in the list, and names a place and a depth
  pub last_named : slot_verdict m r.zero mem TakeBack ≡ Ok tt → (mem.state.survivors - 1 < length mem.slots) × ((last_slot m r.zero mem).place < finest m) × ((last_slot m r.zero mem).depth ≤ m.levels)
  last_named slot =
      let named = and_parts _ _ (passed (names m (last_slot m r.zero mem)) _ slot) in
      let place : (last_slot m r.zero mem).place < finest m = ltb-true _ _ named.0 in (
        ⊎_elim
            (λ (l : mem.state.survivors - 1 < length mem.slots). l)
            (λ (l : length mem.slots ≤ mem.state.survivors - 1).
            let none : (last_slot m r.zero mem).place ≡ finest m = ap (λ s. s.place) (get_or_past mem.slots (mem.state.survivors - 1) (no_slot m r.zero) l) in
            absurd (omega arith))
            (cases_lt (mem.state.survivors - 1) (length mem.slots)),
        place,
        leb-true _ _ named.1,
      )

  module _ (lawful : Lawful m) (group : Group r.plus r.zero r.opposite) where
    straight : Straight m r
    straight = journeys.straight m r (level_undone m r lawful group)

    pub refused_kept : (request : Request V) (e : Refusal) → memory_verdict m r.zero mem request ≡ Err e → Kept m r request mem (Err e) mem
    refused_kept request e h = kept m r straight group request mem (Err e) mem (sym (refused_answer _ h)) (sym (refused_stays _ mem h))

    -- what a check of a call tells
    pub checked : (request : Request V) (v : Verdict) → v ≡ call_verdict m mem.state (length mem.points) (length mem.slots) request → OnOk v (Passed m mem request) × IfErr v (λ e. Kept m r request mem (Err e) mem)
    checked request (Ok x) h = (passed_all request (sym h), tt)
    checked request (Err e) h = (tt, refused_kept request e (refused_first _ (sym h)))

    -- a call that passed and whose slot is spoiled
    pub slot_refused : (request : Request V) (e : Refusal) → Passed m mem request → slot_verdict m r.zero mem request ≡ Err e → Kept m r request mem (Err e) mem
    slot_refused request e ok h = refused_kept request e (ap (λ v. and_then v (slot_verdict m r.zero mem request)) ok.verdict ∙ h)

    -- a call that passed and did what was asked
    pub served_kept : (request : Request V) (a : Reply V) (after : Memory V) → Passed m mem request → slot_verdict m r.zero mem request ≡ Ok tt → a ≡ reply r (served m r mem request).state (served m r mem request).points request → after ≡ served m r mem request → Kept m r request mem (Ok a) after
    served_kept request a after ok slot said left =
        let h : memory_verdict m r.zero mem request ≡ Ok tt = ap (λ v. and_then v (slot_verdict m r.zero mem request)) ok.verdict ∙ slot in
        kept m r straight group request mem (Ok a) after
        (ap Ok said ∙ sym (ap (λ v. answered v (reply r (served m r mem request).state (served m r mem request).points request)) h))
        (left ∙ sym (ap (λ v. unless_refused v (served m r mem request) mem) h))
