-- The plain history: the opening, the present depth and the surviving moves. What stands at every place, and every answer, is
-- made afresh from these.
use Rattle.std.specs.Prelude.{ℕ, ◌+◌, ◌-◌, List, [], ◌∷◌, ◌++◌, length, take, slice_index_or, slice_set}
use Rattle.hierarchy.specs.Meaning.{Meaning}
use Rattle.lifting.specs.HalfSteps.{Rule}
use Rattle.lifting.specs.Travel.{travelled}
use Rattle.history.specs.Answers.{Answer}
use Rattle.history.specs.declared.answer.Reply.{Reply}
use Rattle.history.specs.declared.answer.Reply.TheVariants.{Depth, Count, Value}
use Rattle.history.specs.declared.call.Call.{Call}
use Rattle.history.specs.declared.call.Request.{Request}
use Rattle.history.specs.declared.call.Request.TheVariants.{Analyse, Synthesise, Move, TakeBack, Read}
use Rattle.history.specs.declared.slot.Slot.{Slot}
use Rattle.history.specs.declared.state.State.{State}
use Rattle.history.specs.Rows.{Verdict, and_then, unless_refused, answered, lent_verdict, request_verdict}

-- what a form is opened with: a value for each place, a depth, and a move list of so many slots
pub record Opening (V : Type 0) : Type 0 where
  pub values : List V
  pub depth : ℕ
  pub slots : ℕ

-- an opening on these points and this move list
abbrev pub opening_on : {V : Type 0} → ℕ → List V → List (Slot V) → Opening V
opening_on depth points slots = record { values = points; depth = depth; slots = length slots }

pub record History (V : Type 0) : Type 0 where
  pub opening : Opening V
  pub depth : ℕ
  -- those that survive, the oldest first
  pub moves : List (Slot V)

abbrev pub begun : {V : Type 0} → Opening V → History V
begun o = record { opening = o; depth = o.depth; moves = [] }

-- an amount added at a place, on the right
abbrev pub added : {V : Type 0} → Rule V → ℕ → V → List V → List V
added r place amount vs = slice_set vs place (r.plus (slice_index_or vs place r.zero) amount)

-- from the values of one depth to those of another: for each move in order straight travel to its depth and its amount added at
-- its place, then straight travel to the last depth
abbrev pub made : {V : Type 0} → Meaning → Rule V → ℕ → List V → List (Slot V) → ℕ → List V
made m r from vs [] to = travelled m r from to vs
made m r from vs (s ∷ moves) to = made m r s.depth (added r s.place s.amount (travelled m r from s.depth vs)) moves to

-- the value at every place: the opened ones, the surviving moves, and the present depth
unfoldable pub values : {V : Type 0} → Meaning → Rule V → History V → List V
values m r h = made m r h.opening.depth h.opening.values h.moves h.depth

-- what refusals go by
abbrev pub state_of : {V : Type 0} → History V → State
state_of h = record { depth = h.depth; survivors = length h.moves; slots = h.opening.slots }

abbrev pub verdict : {V : Type 0} → Meaning → History V → Call V → Verdict
verdict m h c = and_then (lent_verdict m (state_of h) c.points c.slots) (request_verdict m (state_of h) c.request)

-- what a request that is not refused makes of a history
abbrev pub granted : {V : Type 0} → History V → Request V → History V
granted h Analyse = record { opening = h.opening; depth = h.depth - 1; moves = h.moves }
granted h Synthesise = record { opening = h.opening; depth = h.depth + 1; moves = h.moves }
granted h (Move place amount) = record { opening = h.opening; depth = h.depth; moves = h.moves ++ record { place = place; depth = h.depth; amount = amount } ∷ [] }
granted h TakeBack = record { opening = h.opening; depth = h.depth; moves = take (length h.moves - 1) h.moves }
granted h (Read place) = h

abbrev pub next : {V : Type 0} → Meaning → History V → Call V → History V
next m h c = unless_refused (verdict m h c) (granted h c.request) h

-- the depth reached, the number of moves that survive now, or the value at the place
abbrev pub reply : {V : Type 0} → Rule V → State → List V → Request V → Reply V
reply r st vs Analyse = Depth st.depth
reply r st vs Synthesise = Depth st.depth
reply r st vs (Move place amount) = Count st.survivors
reply r st vs TakeBack = Count st.survivors
reply r st vs (Read place) = Value (slice_index_or vs place r.zero)

abbrev pub answer : {V : Type 0} → Meaning → Rule V → History V → Call V → Answer V
answer m r h c = answered (verdict m h c) (reply r (state_of (granted h c.request)) (values m r (granted h c.request)) c.request)

-- what a request that is not refused leaves in a move list: a move is written into the slot after the survivors', and else slots stay
abbrev pub listed : {V : Type 0} → State → Request V → List (Slot V) → List (Slot V)
listed st Analyse slots = slots
listed st Synthesise slots = slots
listed st (Move place amount) slots = slice_set slots st.survivors (record { place = place; depth = st.depth; amount = amount })
listed st TakeBack slots = slots
listed st (Read place) slots = slots
