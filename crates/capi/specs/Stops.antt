-- Why a call of the library did not do its work.
use Rattle.std.specs.Prelude.{◌≡◌, ℕ, Some, None, Ok, Err, Option, Result}
use Rattle.refusal.specs.declared.Fault.{Fault}
use Rattle.refusal.specs.declared.Fault.TheVariants.{Refused as Refused-fault, Memory as Memory-fault}
use Rattle.refusal.specs.declared.Refusal.{Refusal}
use Rattle.capi.specs.declared.stop.Stop.{Stop}
use Rattle.capi.specs.declared.stop.Stop.TheVariants.{Refused, Memory, UnknownScheme, UnknownCall}

abbrev pub stop_of : Fault → Stop
stop_of (Refused-fault e) = Refused e
stop_of Memory-fault = Memory

-- an answer, or a refusal from the table
abbrev pub settled : {A : Type 0} → Result A Refusal → Result A Stop
settled (Ok x) = Ok x
settled (Err e) = Err (Refused e)

-- what should be answered or refused was not: it was refused so, or there was no memory
abbrev pub Stopped : {A : Type 0} → Stop → Result A Refusal → Type 0
Stopped (Refused e) due = due ≡ Err e
Stopped Memory due = Unit {0}
Stopped (UnknownScheme code) due = ⊥
Stopped (UnknownCall i) due = ⊥

-- the calls were not read: one was found to be unknown, or, where none was, there was no memory
abbrev pub Unread : Option ℕ → Stop → Type 0
Unread found (Refused e) = ⊥
Unread found Memory = found ≡ None
Unread found (UnknownScheme code) = ⊥
Unread found (UnknownCall i) = found ≡ Some i
