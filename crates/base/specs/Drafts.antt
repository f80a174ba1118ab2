-- What the tables of a draft stand for.
use Rattle.std.specs.Prelude.{◌≡◌, ℕ, Bool, false, List, length, Some, None, Ok, Err, vec_items, Option, Result, nat_le}
use Rattle.refusal.specs.declared.Fault.{Fault}
use Rattle.refusal.specs.declared.Fault.TheVariants.{Refused, Memory}
use Rattle.refusal.specs.declared.Refusal.{Refusal}
use Rattle.mesh.specs.Reading as reading
use Rattle.mesh.specs.Reading.{judged, added, out_of_order, bad_vertex, third_face}
use Rattle.mesh.specs.Records.{Record, face}
use Rattle.base.specs.Meshes.{faces}
use Rattle.base.specs.declared.draft.Draft.{Draft}

abbrev pub drafted : Draft → reading.Draft
drafted m = record { dims = vec_items m.mesh.dims; faces = faces m.mesh; named = vec_items m.named }

-- record n was taken into m, which is m' now
pub record Taken (n : ℕ) (m : Draft) (r : Record) (m' : Draft) : Type 0 where
  pub passed : judged n (drafted m) r ≡ None
  pub value : drafted m' ≡ added (drafted m) r

-- a fault is the refusal that the rows give, or want of memory
abbrev pub TurnedDown : Fault → Option Refusal → Type 0
TurnedDown (Refused x) o = o ≡ Some x
TurnedDown Memory o = Unit {0}

-- a face that no row refuses, as far as the number of edges
pub record Passed (d : reading.Draft) (cs : List ℕ) : Type 0 where
  pub ordered : out_of_order d (face cs) ≡ false
  pub known : bad_vertex d (face cs) ≡ false
  pub room : third_face d (face cs) ≡ false
  pub few : nat_le 256 (length d.faces) ≡ false

-- a fault is the refusal that reading gives, or want of memory
abbrev pub Failed : {A : Type 0} → Fault → Result A Refusal → Type 0
Failed (Refused x) r = r ≡ Err x
Failed Memory r = Unit {0}

-- the finished draft keeps the rules, and these are the marks of its edges
pub record Judged (m : Draft) (marks : List Bool) : Type 0 where
  pub passes : reading.checked (reading.finished (drafted m)) ≡ Ok (reading.finished (drafted m))
  pub marking : marks ≡ (reading.finished (drafted m)).curves
