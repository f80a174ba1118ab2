use Rattle.std.proofs.Common.{◌≡◌, ◌++◌, drop, vec_items}
use Rattle.std.specs.List.{flat_map}
use Rattle.mesh.specs.Records.{bytes_of, curve}
use Rattle.base.proofs.writing.write_curves.Given as goal

abbrev pub invariant-loop-edge : goal.invariant-loop-edge
invariant-loop-edge l = vec_items l.out ++ flat_map (λ s. bytes_of (curve s)) (drop l.edge-index l.edges) ≡ vec_items l.initial.out ++ flat_map (λ s. bytes_of (curve s)) l.edges
