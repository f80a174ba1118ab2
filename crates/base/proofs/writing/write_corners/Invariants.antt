use Rattle.std.proofs.Common.{◌≡◌, ◌++◌, map, drop, vec_items}
use Rattle.std.specs.List.{flat_map}
use Rattle.mesh.specs.Records.{two_bytes}
use Rattle.base.proofs.writing.write_corners.Given as goal

abbrev pub invariant-loop-side : goal.invariant-loop-side
invariant-loop-side l = vec_items l.out ++ flat_map two_bytes (map (λ s. s.tail) (drop l.side-index l.sides)) ≡ vec_items l.initial.out ++ flat_map two_bytes (map (λ s. s.tail) l.sides)
