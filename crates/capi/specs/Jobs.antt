-- What a whole run asked for in one call does with the memory handed in.
use Rattle.std.specs.Prelude.{◌≡◌, ℕ, ◌⊎◌, List, ◌++◌, map, length, take, drop, Some, None, Ok, Err, Option, Result}
use Rattle.refusal.specs.declared.Refusal.{Refusal}
use Rattle.hierarchy.specs.Meaning.{Meaning}
use Rattle.history.specs.Promise.{Lent, Promise}
use Rattle.capi.specs.declared.crossing.Crossing as Crossing
use Rattle.capi.specs.declared.job.Job.{Job}
use Rattle.capi.specs.declared.point_scheme.PointScheme.{PointScheme}
use Rattle.capi.specs.declared.records.CallRecord.{CallRecord}
use Rattle.capi.specs.declared.records.AnswerRecord.{AnswerRecord}
use Rattle.capi.specs.declared.records.SlotRecord.{SlotRecord}
use Rattle.capi.specs.declared.records.Outcome.{Outcome}
use Rattle.capi.specs.declared.stop.Stop.{Stop}
use Rattle.capi.specs.declared.stop.Stop.TheVariants.{Refused, Memory, UnknownScheme, UnknownCall}
use Rattle.capi.specs.Outcomes.{told}
use Rattle.capi.specs.Records.{call_of, unknown_call, answer_record, slot_of, slot_record}
use Rattle.capi.specs.Schemes.{Law}
use Rattle.capi.specs.Stops.{settled}

-- the memory handed in: points, move list, and room for answers
pub record Handed (V : Type 0) : Type 0 where
  pub points : List V
  pub slots : List SlotRecord
  pub answers : List AnswerRecord

abbrev pub handed : {V : Type 0} → List V → List SlotRecord → List AnswerRecord → Handed V
handed points slots answers = record { points = points; slots = slots; answers = answers }

-- the points, with what a job holds
abbrev pub beside : {V : Type 0} → List V → Job → Handed V
beside points job = handed points job.slots.now job.answers.now

-- a job that still holds the same memory
abbrev pub SameMemory : Job → Job → Type 0
SameMemory before left = (left.slots.ghost_name ≡ before.slots.ghost_name) × (left.answers.ghost_name ≡ before.answers.ghost_name)

-- what a run leaves there: where it was not refused, its points, its move list, and as many answers as there were calls made;
-- room that is not used stays. A refusal changes nothing
abbrev pub written : {V : Type 0} → Crossing.Ghosts V → Result ℕ Refusal → Handed V → Lent V → Handed V
written k (Ok n) before end =
    handed end.points (map (slot_record k.leaves) end.slots) (map (answer_record k.leaves) (take n end.answers) ++ drop n before.answers)
written k (Err e) before end = before

-- a run as promised of every run: it is lent the points, the slots as their records say, and as much room for answers
pub record Run {V : Type 0} (k : Crossing.Ghosts V) (m : Meaning) (l : Law V) (depth : ℕ) (calls : List CallRecord) (before left : Handed V) (answer : Result ℕ Refusal) : Type 0 where
  pub lent : Lent V
  pub end : Lent V
  pub points : lent.points ≡ before.points
  pub slots : lent.slots ≡ map (slot_of k.arrives) before.slots
  pub room : length lent.answers ≡ length before.answers
  pub promise : Promise m l.rule l.uniform depth (map (call_of k.arrives) calls) lent end answer
  pub leaves : left ≡ written k answer before end

-- stopped so, with nothing changed
abbrev pub Stays : {V : Type 0} → Stop → Handed V → Handed V → Result ℕ Stop → Type 0
Stays stop before left result = (result ≡ Err stop) × (left ≡ before)

-- a call whose code is none stops a run before it begins
abbrev pub Called : {V : Type 0} → Option ℕ → Crossing.Ghosts V → Meaning → Law V → ℕ → List CallRecord → Handed V → Handed V → Result ℕ Stop → Type 0
Called None k m l depth calls before left result = (answer : Result ℕ Refusal) × (result ≡ settled answer) × Run k m l depth calls before left answer
Called (Some i) k m l depth calls before left result = Stays (UnknownCall i) before left result

-- on a hierarchy, unless there is no memory; then nothing changes
abbrev pub Performs : {V : Type 0} → Crossing.Ghosts V → Meaning → Law V → ℕ → List CallRecord → Handed V → Handed V → Result ℕ Stop → Type 0
Performs k m l depth calls before left result = Stays Memory before left result ⊎ Called (unknown_call calls) k m l depth calls before left result

-- on the hierarchy of what was handed in, if there is one
abbrev pub On : {V : Type 0} → Result Meaning Refusal → Crossing.Ghosts V → Law V → ℕ → List CallRecord → Handed V → Handed V → Result ℕ Stop → Type 0
On (Ok m) k l depth calls before left result = Performs k m l depth calls before left result
On (Err e) k l depth calls before left result = Stays Memory before left result ⊎ Stays (Refused e) before left result

-- by the scheme of a code, if there is one: this is asked first
abbrev pub By : {V : Type 0} → Option PointScheme → ℕ → (PointScheme → Law V) → Result Meaning Refusal → Crossing.Ghosts V → ℕ → List CallRecord → Handed V → Handed V → Result ℕ Stop → Type 0
By None code law h k depth calls before left result = Stays (UnknownScheme code) before left result
By (Some s) code law h k depth calls before left result = On h k (law s) depth calls before left result

-- what is returned tells such a result
abbrev pub Returned : Outcome → (Result ℕ Stop → Type 0) → Type 0
Returned r P = (result : Result ℕ Stop) × (r ≡ told result) × P result
