-- What is returned to C.
use Rattle.std.specs.Prelude.{◌≡◌, ℕ, ◌⊎◌, Ok, Err, Result}
use Rattle.refusal.specs.Table.{row}
use Rattle.refusal.specs.declared.Refusal.{Refusal}
use Rattle.base.specs.Bases.{counted}
use Rattle.mesh.specs.Shape.{Shape}
use Rattle.capi.specs.declared.records.Outcome.{Outcome}
use Rattle.capi.specs.declared.records.Judgement.{Judgement}
use Rattle.capi.specs.declared.stop.Stop.{Stop}
use Rattle.capi.specs.declared.stop.Stop.TheVariants.{Refused, Memory, UnknownScheme, UnknownCall}
use Rattle.capi.specs.Stops.{settled}

abbrev pub told : Result ℕ Stop → Outcome
told (Ok n) = record { status = 0; row = 0; value = n }
told (Err (Refused e)) = record { status = 1; row = (row e).number; value = (row e).value }
told (Err Memory) = record { status = 2; row = 0; value = 0 }
told (Err (UnknownScheme code)) = record { status = 3; row = 0; value = code }
told (Err (UnknownCall i)) = record { status = 4; row = 0; value = i }

-- it tells this, unless there was no memory
abbrev pub Tells : Outcome → Result ℕ Refusal → Type 0
Tells r due = (r ≡ told (settled due)) ⊎ (r ≡ told (Err Memory))

abbrev pub judgement : Result Shape Refusal → Judgement
judgement (Ok s) = record { outcome = told (Ok 0); vertices = (counted s).vertices; edges = (counted s).edges; faces = (counted s).faces }
judgement (Err e) = record { outcome = told (Err (Refused e)); vertices = 0; edges = 0; faces = 0 }

abbrev pub unjudged : Judgement
unjudged = record { outcome = told (Err Memory); vertices = 0; edges = 0; faces = 0 }
