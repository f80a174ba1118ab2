use Rattle.std.proofs.Common.{◌≡◌, ◌++◌, length, drop, sum, vec_items}
use Rattle.std.specs.List.{flat_map}
use Rattle.mesh.specs.Records.{bytes_of, face}
use Rattle.base.specs.Bases.{shape}
use Rattle.base.specs.Faces.{parts}
use Rattle.base.proofs.base.Base.write_faces.Given as goal

abbrev pub invariant-loop-size : goal.invariant-loop-size
invariant-loop-size l = record {
  total : sum (drop l.size-index l.size-items) ≡ length l.rest;
  wrote : vec_items l.out ++ flat_map (λ f. bytes_of (face f)) (parts (drop l.size-index l.size-items) l.rest) ≡ vec_items l.initial.out ++ flat_map (λ f. bytes_of (face f)) (shape l.self).faces;
}
