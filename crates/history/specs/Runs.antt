-- A run: an opening, and then any list of calls, one after the other.
use Rattle.std.specs.Prelude.{min, List, [], ◌∷◌}
use Rattle.hierarchy.specs.Meaning.{Meaning}
use Rattle.lifting.specs.HalfSteps.{Rule}
use Rattle.history.specs.Answers.{Answer}
use Rattle.history.specs.declared.call.Call.{Call}
use Rattle.history.specs.declared.slot.Slot.{Slot}
use Rattle.history.specs.Rows.{unless_refused, finest}
use Rattle.history.specs.Histories.{History, state_of, verdict, next, answer, listed}

-- the call as it is made: it is lent the first so many points and slots, or all where there are less
abbrev pub lent : {V : Type 0} → Meaning → History V → Call V → Call V
lent m h c = record { request = c.request; points = min c.points (finest m); slots = min c.slots h.opening.slots }

-- what a call makes of a move list
abbrev pub noted : {V : Type 0} → Meaning → History V → Call V → List (Slot V) → List (Slot V)
noted m h c slots = unless_refused (verdict m h c) (listed (state_of h) c.request slots) slots

-- the history after these calls
abbrev pub after : {V : Type 0} → Meaning → History V → List (Call V) → History V
after m h [] = h
after m h (c ∷ cs) = after m (next m h (lent m h c)) cs

-- their answers, in order
abbrev pub answers : {V : Type 0} → Meaning → Rule V → History V → List (Call V) → List (Answer V)
answers m r h [] = []
answers m r h (c ∷ cs) = answer m r h (lent m h c) ∷ answers m r (next m h (lent m h c)) cs

-- what a move list holds after them
abbrev pub listed_by : {V : Type 0} → Meaning → History V → List (Call V) → List (Slot V) → List (Slot V)
listed_by m h [] slots = slots
listed_by m h (c ∷ cs) slots = listed_by m (next m h (lent m h c)) cs (noted m h (lent m h c) slots)
