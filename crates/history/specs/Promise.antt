-- The promise over every run: what is answered and stored is the plain history's, and it is blind, outside the reach of named
-- places, to the amounts moved at them.
use Rattle.std.specs.Prelude.{◌≡◌, ℕ, ◌<◌, Bool, false, cond, List, [], ◌++◌, map, length, get_or, take, drop, Ok, Err, Result, slice_index_or}
use Rattle.hierarchy.specs.Meaning.{Meaning}
use Rattle.lifting.specs.HalfSteps.{Rule}
use Rattle.refusal.specs.declared.Refusal.{Refusal}
use Rattle.history.specs.Answers.{Answer}
use Rattle.history.specs.declared.answer.Reply.TheVariants.{Depth, Count, Value}
use Rattle.history.specs.declared.call.Call.{Call}
use Rattle.history.specs.declared.call.Request.{Request}
use Rattle.history.specs.declared.call.Request.TheVariants.{Analyse, Synthesise, Move, TakeBack, Read}
use Rattle.history.specs.declared.slot.Slot.{Slot}
use Rattle.history.specs.Rows.{opening_verdict}
use Rattle.history.specs.Histories.{History, opening_on, begun, values}
use Rattle.history.specs.Runs.{after, answers, listed_by}
use Rattle.history.specs.Reach.{in_reach}

-- a request with the amount left out, where it is a move at a named place
abbrev pub blank_request : {V : Type 0} → (ℕ → Bool) → V → Request V → Request V
blank_request named none Analyse = Analyse
blank_request named none Synthesise = Synthesise
blank_request named none (Move place amount) = Move place (cond (named place) none amount)
blank_request named none TakeBack = TakeBack
blank_request named none (Read place) = Read place

abbrev pub blank : {V : Type 0} → (ℕ → Bool) → V → Call V → Call V
blank named none c = record { request = blank_request named none c.request; points = c.points; slots = c.slots }

-- the two lists of calls differ only in the amounts of moves at named places: with those left out, they are the same
abbrev pub Alike : {V : Type 0} → Rule V → (ℕ → Bool) → List (Call V) → List (Call V) → Type 0
Alike r named calls others = map (blank named r.zero) calls ≡ map (blank named r.zero) others

-- an answer but for the value read
abbrev pub outline : {V : Type 0} → Answer V → Answer (Unit {0})
outline (Ok (Depth n)) = Ok (Depth n)
outline (Ok (Count n)) = Ok (Count n)
outline (Ok (Value v)) = Ok (Value tt)
outline (Err e) = Err e

-- two lists of calls, made on the same history
pub record Blind {V : Type 0} (m : Meaning) (r : Rule V) (h : History V) (named : ℕ → Bool) (calls others : List (Call V)) : Type 0 where
  -- every refusal, depth and count answered is the same in both, one by one
  pub answered : map outline (answers m r h calls) ≡ map outline (answers m r h others)
  -- after every number of calls, stored values agree at each place outside the reach
  pub stored : (k place : ℕ) → in_reach m named (after m h (take k calls)) place ≡ false → slice_index_or (values m r (after m h (take k calls))) place r.zero ≡ slice_index_or (values m r (after m h (take k others))) place r.zero
  -- and what is read from such a place by the next call is answered the same in both
  pub read : (k place : ℕ) (other : Call V) (none : Answer V) → (get_or calls k other).request ≡ Read place → k < length calls → in_reach m named (after m h (take k calls)) place ≡ false → slice_index_or (answers m r h calls) k none ≡ slice_index_or (answers m r h others) k none

-- what is lent to a run
pub record Lent (V : Type 0) : Type 0 where
  pub points : List V
  pub slots : List (Slot V)
  pub answers : List (Answer V)

abbrev pub lent_to : {V : Type 0} → List V → List (Slot V) → List (Answer V) → Lent V
lent_to points slots answers = record { points = points; slots = slots; answers = answers }

-- the history that begins with an opening on what is lent
abbrev pub opened : {V : Type 0} → ℕ → Lent V → History V
opened depth before = begun (opening_on depth before.points before.slots)

-- a run of these calls that was not refused at its opening, from what was lent to what is left
pub record Performed {V : Type 0} (m : Meaning) (r : Rule V) (h : History V) (calls : List (Call V)) (before left : Lent V) : Type 0 where
  -- every answer, refusals too, is that of the plain history, in order; room for answers that is not used stays
  pub answers : left.answers ≡ answers m r h calls ++ drop (length calls) before.answers
  -- so is every stored value, and the move list holds the moves that were made, the surviving ones first
  pub points : left.points ≡ values m r (after m h calls)
  pub slots : left.slots ≡ listed_by m h calls before.slots
  pub survivors : take (length (after m h calls).moves) left.slots ≡ (after m h calls).moves
  -- where no move survives and the depth is the opened one, the opened values stand again
  pub restored : (after m h calls).moves ≡ [] → (after m h calls).depth ≡ h.depth → left.points ≡ before.points
  -- whatever places are named, and whatever other list of calls differs only in amounts of moves at them
  pub blind : (named : ℕ → Bool) (others : List (Call V)) → Alike r named calls others → Blind m r h named calls others

-- as many of the calls as there is room for answers
abbrev pub with_room : {V : Type 0} → Lent V → List (Call V) → List (Call V)
with_room before calls = take (length before.answers) calls

-- from an opening on what is lent, at a depth, any list of calls: those are made that there is room for answers to
pub record Promise {V : Type 0} (m : Meaning) (r : Rule V) (needs : Bool) (depth : ℕ) (calls : List (Call V)) (before left : Lent V) (result : Result ℕ Refusal) : Type 0 where
  -- a refused opening changes nothing at all
  pub refused : (e : Refusal) → opening_verdict m needs (length before.points) (length before.slots) depth ≡ Err e → (result ≡ Err e) × (left ≡ before)
  -- else every call is made
  pub performed : opening_verdict m needs (length before.points) (length before.slots) depth ≡ Ok tt → (result ≡ Ok (length (with_room before calls))) × Performed m r (opened depth before) (with_room before calls) before left
