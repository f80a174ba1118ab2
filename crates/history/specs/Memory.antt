-- What a call does to a form and to the memory lent to it, whatever they hold, and when they stand for a history.
use Rattle.std.specs.Prelude.{◌≡◌, ℕ, ◌+◌, ◌-◌, ◌<◌, ◌≤◌, Bool, ◌&&◌, List, length, take, Ok, Err, nat_le, nat_lt, slice_index_or}
use Rattle.std.specs.List.{AllByRecursion}
use Rattle.hierarchy.specs.Meaning.{Meaning}
use Rattle.lifting.specs.HalfSteps.{Rule}
use Rattle.lifting.specs.Travel.{travelled}
use Rattle.refusal.specs.declared.Refusal.{Refusal}
use Rattle.refusal.specs.declared.Refusal.TheVariants.{NoSuchDepth, SpoiledSlot}
use Rattle.history.specs.Answers.{Answer}
use Rattle.history.specs.declared.call.Call.{Call}
use Rattle.history.specs.declared.call.Request.{Request}
use Rattle.history.specs.declared.call.Request.TheVariants.{Analyse, Synthesise, Move, TakeBack, Read}
use Rattle.history.specs.declared.slot.Slot.{Slot}
use Rattle.history.specs.declared.state.State.{State}
use Rattle.history.specs.Rows.{Verdict, unless_passed, and_then, unless_refused, answered, finest, lent_verdict, request_verdict}
use Rattle.history.specs.Histories.{History, added, values, state_of, reply, answer, next, listed}
use Rattle.history.specs.Runs.{lent, noted}

-- a form's state, and the points and the move list that are lent to a call
pub record Memory (V : Type 0) : Type 0 where
  pub state : State
  pub points : List V
  pub slots : List (Slot V)

abbrev pub lending : {V : Type 0} → State → List V → List (Slot V) → Memory V
lending st points slots = record { state = st; points = points; slots = slots }

-- row 19 for a depth above the finest, at which no opened form stands
abbrev pub depth_verdict : Meaning → State → Verdict
depth_verdict m st = unless_passed (nat_le st.depth m.levels) (NoSuchDepth st.depth)

-- a slot that names no place
abbrev pub no_slot : {V : Type 0} → Meaning → V → Slot V
no_slot m zero = record { place = finest m; depth = 0; amount = zero }

-- the slot of the last surviving move
abbrev pub last_slot : {V : Type 0} → Meaning → V → Memory V → Slot V
last_slot m zero mem = slice_index_or mem.slots (mem.state.survivors - 1) (no_slot m zero)

abbrev pub names : {V : Type 0} → Meaning → Slot V → Bool
names m s = nat_lt s.place (finest m) && nat_le s.depth m.levels

-- row 23: the last move's slot names no place or no depth
abbrev pub slot_verdict : {V : Type 0} → Meaning → V → Memory V → Request V → Verdict
slot_verdict m zero mem Analyse = Ok tt
slot_verdict m zero mem Synthesise = Ok tt
slot_verdict m zero mem (Move place amount) = Ok tt
slot_verdict m zero mem TakeBack = unless_passed (names m (last_slot m zero mem)) (SpoiledSlot (mem.state.survivors - 1))
slot_verdict m zero mem (Read place) = Ok tt

-- all that a call is refused for but its slot
abbrev pub call_verdict : {V : Type 0} → Meaning → State → ℕ → ℕ → Request V → Verdict
call_verdict m st points slots request = and_then (lent_verdict m st points slots) (and_then (depth_verdict m st) (request_verdict m st request))

abbrev pub memory_verdict : {V : Type 0} → Meaning → V → Memory V → Request V → Verdict
memory_verdict m zero mem request = and_then (call_verdict m mem.state (length mem.points) (length mem.slots) request) (slot_verdict m zero mem request)

-- what a request may count on that is not refused
abbrev pub Allowed : {V : Type 0} → Meaning → State → Request V → Type 0
Allowed m st Analyse = 0 < st.depth
Allowed m st Synthesise = st.depth < m.levels
Allowed m st (Move place amount) = (place < finest m) × (st.survivors < st.slots)
Allowed m st TakeBack = 0 < st.survivors
Allowed m st (Read place) = place < finest m

-- what is known of a call that is not refused, but for its slot
pub record Passed {V : Type 0} (m : Meaning) (mem : Memory V) (request : Request V) : Type 0 where
  pub verdict : call_verdict m mem.state (length mem.points) (length mem.slots) request ≡ Ok tt
  pub points : length mem.points ≡ finest m
  pub slots : length mem.slots ≡ mem.state.slots
  pub depth : mem.state.depth ≤ m.levels
  pub allowed : Allowed m mem.state request

-- the form at another depth, the points having travelled there
abbrev pub gone_to : {V : Type 0} → Meaning → Rule V → Memory V → ℕ → Memory V
gone_to m r mem to = record {
  state = record { depth = to; survivors = mem.state.survivors; slots = mem.state.slots };
  points = travelled m r mem.state.depth to mem.points;
  slots = mem.slots;
}

-- another number of survivors
abbrev pub surviving : State → ℕ → State
surviving st n = record { depth = st.depth; survivors = n; slots = st.slots }

-- straight travel to the move's depth, the opposite of its amount added at its place, and straight travel back
abbrev pub taken_back : {V : Type 0} → Meaning → Rule V → ℕ → Slot V → List V → List V
taken_back m r depth s vs = travelled m r s.depth depth (added r s.place (r.opposite s.amount) (travelled m r depth s.depth vs))

-- what a request that is not refused does
abbrev pub served : {V : Type 0} → Meaning → Rule V → Memory V → Request V → Memory V
served m r mem Analyse = gone_to m r mem (mem.state.depth - 1)
served m r mem Synthesise = gone_to m r mem (mem.state.depth + 1)
served m r mem (Move place amount) =
    lending (surviving mem.state (mem.state.survivors + 1)) (added r place amount mem.points) (listed mem.state (Move place amount) mem.slots)
served m r mem TakeBack =
    lending (surviving mem.state (mem.state.survivors - 1)) (taken_back m r mem.state.depth (last_slot m r.zero mem) mem.points) mem.slots
served m r mem (Read place) = mem

abbrev pub memory_after : {V : Type 0} → Meaning → Rule V → Memory V → Request V → Memory V
memory_after m r mem request = unless_refused (memory_verdict m r.zero mem request) (served m r mem request) mem

abbrev pub memory_answer : {V : Type 0} → Meaning → Rule V → Memory V → Request V → Answer V
memory_answer m r mem request =
    answered (memory_verdict m r.zero mem request) (reply r (served m r mem request).state (served m r mem request).points request)

-- what every history keeps that began with an opening
pub record Sound {V : Type 0} (m : Meaning) (h : History V) : Type 0 where
  pub whole : length h.opening.values ≡ finest m
  pub depth : h.depth ≤ m.levels
  pub moves : AllByRecursion (λ s. (s.place < finest m) × (s.depth ≤ m.levels)) h.moves
  pub few : length h.moves ≤ h.opening.slots

-- form, points and move list stand for the history: the points are its values, and the first slots are its surviving moves
pub record Stands {V : Type 0} (m : Meaning) (r : Rule V) (mem : Memory V) (h : History V) : Type 0 where
  pub sound : Sound m h
  pub state : mem.state ≡ state_of h
  pub points : mem.points ≡ values m r h
  pub moves : take (length h.moves) mem.slots ≡ h.moves
  pub slots : length mem.slots ≡ h.opening.slots

-- a request, with all that is lent
abbrev pub call_on : {V : Type 0} → Memory V → Request V → Call V
call_on mem request = record { request = request; points = length mem.points; slots = length mem.slots }

-- what is promised of a call: whatever the memory holds, its answer and what it leaves; and where the memory stands for a
-- history, the answer is that of the history, and what is left stands for the next
pub record Kept {V : Type 0} (m : Meaning) (r : Rule V) (request : Request V) (before : Memory V) (a : Answer V) (after : Memory V) : Type 0 where
  pub answered : a ≡ memory_answer m r before request
  pub left : after ≡ memory_after m r before request
  pub follows : (h : History V) → Stands m r before h → (a ≡ answer m r h (call_on before request)) × Stands m r after (next m h (call_on before request))
  -- where it is lent memory of other lengths than the form's own, which stands for a history, that too is answered as the history
  -- answers it, and nothing changes
  pub elsewhere : (h : History V) (own : Memory V) (e : Refusal) → Stands m r own h → before.state ≡ own.state → lent_verdict m before.state (length before.points) (length before.slots) ≡ Err e → (a ≡ answer m r h (call_on before request)) × (after ≡ before) × (next m h (call_on before request) ≡ h)

-- a call of a run, made on memory that stands for the history and has these slots: it is answered as the history answers, and what
-- is left stands for the next
pub record Made {V : Type 0} (m : Meaning) (r : Rule V) (h : History V) (c : Call V) (slots : List (Slot V)) (a : Answer V) (left : Memory V) : Type 0 where
  pub answered : a ≡ answer m r h (lent m h c)
  pub stands : Stands m r left (next m h (lent m h c))
  pub written : left.slots ≡ noted m h (lent m h c) slots
