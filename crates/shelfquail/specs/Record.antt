-- The lines of the record, as bytes. Assumes nothing.
use Rattle.std.specs.Prelude.{◌≡◌, ℕ, List, ◌++◌, Ok, Err, codes, decimal, Result}
use Rattle.refusal.specs.Printed.{printed}
use Rattle.refusal.specs.declared.Refusal.{Refusal}
use Rattle.mesh.specs.Shape.{Shape}
use Rattle.base.specs.Bases.{shape, counted}
use Rattle.base.specs.declared.base.Base.{Base}
use Rattle.base.specs.declared.counts.Counts.{Counts}

abbrev pub base_read : Counts → List ℕ
base_read n = codes "base " ++ (decimal n.vertices ++ (codes " " ++ (decimal n.edges ++ (codes " " ++ decimal n.faces))))

abbrev pub base_refused : Refusal → List ℕ
base_refused x = codes "base " ++ printed x

abbrev pub base_line : Result Counts Refusal → List ℕ
base_line (Ok n) = base_read n
base_line (Err x) = base_refused x

-- the line for the verdict on the bytes of a base
abbrev pub base_entry : Result Shape Refusal → List ℕ
base_entry (Ok s) = base_read (counted s)
base_entry (Err x) = base_refused x

-- what the verdict makes of the base that a session holds
abbrev pub Takes : Result Shape Refusal → Base → Base → Type 0
Takes (Ok s) before after = shape after ≡ s
Takes (Err x) before after = after ≡ before
