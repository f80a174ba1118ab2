-- What the records that cross to C mean.
use Rattle.std.specs.Prelude.{◌≡◌, ℕ, Bool, true, cond, not, ◌&&◌, List, length, Option, Result, Ok, Err, ◌==◌, nat_le, slice_index_or}
use Rattle.refusal.specs.Table.{row}
use Rattle.kinds.specs.MarkSums.{unmarked}
use Rattle.kinds.specs.PointSums.{origin}
use Rattle.mesh.specs.Lowest.{lowest}
use Rattle.refusal.specs.declared.Refusal.{Refusal}
use Rattle.history.specs.declared.answer.Reply.{Reply}
use Rattle.history.specs.declared.answer.Reply.TheVariants.{Depth, Count, Value}
use Rattle.history.specs.declared.call.Call.{Call}
use Rattle.history.specs.declared.call.Request.{Request}
use Rattle.history.specs.declared.call.Request.TheVariants.{Analyse, Synthesise, Move, TakeBack, Read}
use Rattle.history.specs.declared.slot.Slot.{Slot}
use Rattle.capi.specs.declared.records.PointAndMarks.{PointAndMarks}
use Rattle.capi.specs.declared.records.CallRecord.{CallRecord}
use Rattle.capi.specs.declared.records.AnswerRecord.{AnswerRecord}
use Rattle.capi.specs.declared.records.SlotRecord.{SlotRecord}

-- no value
abbrev pub nothing : PointAndMarks
nothing = record { point = origin; marks = unmarked }

abbrev pub request_of : {V : Type 0} → (PointAndMarks → V) → CallRecord → Request V
request_of arrives c =
    cond (c.code == 1) Analyse (cond (c.code == 2) Synthesise (cond (c.code == 3) (Move c.place (arrives c.amount)) (cond (c.code == 4) TakeBack (Read c.place))))

abbrev pub call_of : {V : Type 0} → (PointAndMarks → V) → CallRecord → Call V
call_of arrives c = record { request = request_of arrives c; points = c.points; slots = c.slots }

-- whether there is a call of this code
abbrev pub known : ℕ → Bool
known code = nat_le 1 code && nat_le code 5

-- what stands past the end of a list of calls
abbrev pub no_call : CallRecord
no_call = record { code = 0; place = 0; amount = nothing; points = 0; slots = 0 }

-- the first call whose code is none
abbrev pub unknown_call : List CallRecord → Option ℕ
unknown_call calls = lowest (λ i. not (known (slice_index_or calls i no_call).code)) (length calls)

-- the record that asks for a request
abbrev pub asking : {V : Type 0} → (V → PointAndMarks) → ℕ → ℕ → Request V → CallRecord
asking leaves points slots Analyse = record { code = 1; place = 0; amount = nothing; points = points; slots = slots }
asking leaves points slots Synthesise = record { code = 2; place = 0; amount = nothing; points = points; slots = slots }
asking leaves points slots (Move place amount) = record { code = 3; place = place; amount = leaves amount; points = points; slots = slots }
asking leaves points slots TakeBack = record { code = 4; place = 0; amount = nothing; points = points; slots = slots }
asking leaves points slots (Read place) = record { code = 5; place = place; amount = nothing; points = points; slots = slots }

-- every call can be asked for: there is a record that is read as it
abbrev pub Askable : {V : Type 0} → (PointAndMarks → V) → (V → PointAndMarks) → Type 0
Askable {V} arrives leaves = (c : Call V) → (known (asking leaves c.points c.slots c.request).code ≡ true) × (call_of arrives (asking leaves c.points c.slots c.request) ≡ c)

abbrev pub answer_record : {V : Type 0} → (V → PointAndMarks) → Result (Reply V) Refusal → AnswerRecord
answer_record leaves (Ok (Depth n)) = record { code = 1; row = 0; number = n; value = nothing }
answer_record leaves (Ok (Count n)) = record { code = 2; row = 0; number = n; value = nothing }
answer_record leaves (Ok (Value v)) = record { code = 3; row = 0; number = 0; value = leaves v }
answer_record leaves (Err e) = record { code = 4; row = (row e).number; number = (row e).value; value = nothing }

-- nothing of an answer is lost: no two have the same record
abbrev pub Distinct : {V : Type 0} → (V → PointAndMarks) → Type 0
Distinct {V} leaves = (a b : Result (Reply V) Refusal) → answer_record leaves a ≡ answer_record leaves b → a ≡ b

-- the conversion gives what the function says, and nothing else
abbrev pub Computes : {X Y : Type 0} → (X → Y → Type 0) → (X → Y) → Type 0
Computes {X} {Y} gives f = (x : X) (y : Y) → gives x y → y ≡ f x

abbrev pub slot_of : {V : Type 0} → (PointAndMarks → V) → SlotRecord → Slot V
slot_of arrives s = record { place = s.place; depth = s.depth; amount = arrives s.amount }

abbrev pub slot_record : {V : Type 0} → (V → PointAndMarks) → Slot V → SlotRecord
slot_record leaves s = record { place = s.place; depth = s.depth; amount = leaves s.amount }
