-- What a base is, and what reading into one answers.
use Rattle.std.specs.Prelude.{◌≡◌, length, Ok, Err, vec_items, Result}
use Rattle.refusal.specs.declared.Fault.{Fault}
use Rattle.refusal.specs.declared.Fault.TheVariants.{Refused, Memory}
use Rattle.refusal.specs.declared.Refusal.{Refusal}
use Rattle.mesh.specs.Shape.{Shape, edges}
use Rattle.base.specs.declared.base.Base.{Base}
use Rattle.base.specs.declared.counts.Counts.{Counts}
use Rattle.base.specs.Meshes.{with_marks}

abbrev pub shape : Base → Shape
shape b = with_marks b.mesh (vec_items b.curves)

abbrev pub counted : Shape → Counts
counted s = record { vertices = length s.dims; edges = length (edges s.faces); faces = length s.faces }

-- a read that should give this verdict: its answer, and the base before and after it.
-- Only want of memory keeps it from giving the verdict, and then the base stays too
abbrev pub Answers : Result Shape Refusal → Result Counts Fault → Base → Base → Type 0
Answers verdict (Ok n) before after = (verdict ≡ Ok (shape after)) × (n ≡ counted (shape after))
Answers verdict (Err (Refused x)) before after = (verdict ≡ Err x) × (after ≡ before)
Answers verdict (Err Memory) before after = after ≡ before
