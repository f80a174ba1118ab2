-- What the values of the code stand for.
use Rattle.std.specs.Prelude.{ℕ, List, Ok, Err, Result}
use Rattle.std.specs.Borrow.{Bor}
use Rattle.refusal.specs.declared.Refusal.{Refusal}
use Rattle.mesh.specs.Records as records
use Rattle.mesh.specs.Records.{numbers}
use Rattle.base.specs.declared.record.Record.{Record}
use Rattle.base.specs.declared.record.Record.TheVariants.{Vertex, Face, Curve, End}

abbrev pub view : Record → records.Record
view (Vertex dimension) = records.vertex dimension
view (Face body) = records.face (numbers body.now)
view (Curve s) = records.curve s
view End = records.end

abbrev pub seen : Result (Record × Bor (List ℕ)) Refusal → Result (records.Record × List ℕ) Refusal
seen (Ok p) = Ok (view p.0, p.1.now)
seen (Err e) = Err e
