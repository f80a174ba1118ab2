-- What reading and writing have to do with each other.
use Rattle.std.specs.Prelude.{◌≡◌, ℕ, true, List, is_some, Ok, count_by}
use Rattle.std.specs.List.{AllByRecursion}
use Rattle.mesh.specs.declared.Side.{Side}
use Rattle.mesh.specs.Shape.{Shape, joins, edge_of, curve_edges}
use Rattle.mesh.specs.Rules.{Rules}
use Rattle.mesh.specs.Records.{written, written_with}
use Rattle.mesh.specs.Reading.{reading}

-- the bytes are the shape's writing, up to order and direction of the curve records
pub record Writing (s : Shape) (bytes : List ℕ) : Type 0 where
  -- the curve records, in the order and the directions that they have
  pub curves : List Side
  pub spelled : bytes ≡ written_with s.dims s.faces curves
  -- each names a curve edge, and each curve edge is named once
  pub curves_only : AllByRecursion (λ c. is_some (edge_of (curve_edges s) c) ≡ true) curves
  pub each_once : AllByRecursion (λ e. count_by (joins e) curves ≡ 1) (curve_edges s)

-- what is written of a shape that keeps the rules is read as that shape
abbrev pub ReadsBack : Type 0
ReadsBack = (s : Shape) → Rules s → reading (written s) ≡ Ok s

-- what is read keeps the rules, and is the writing of what is read
abbrev pub ReadsWritings : Type 0
ReadsWritings = (bytes : List ℕ) (s : Shape) → reading bytes ≡ Ok s → Rules s × Writing s bytes
