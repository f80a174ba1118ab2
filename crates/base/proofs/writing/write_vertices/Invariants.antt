use Rattle.std.proofs.Common.{◌≡◌, ◌++◌, drop, vec_items}
use Rattle.std.specs.List.{flat_map}
use Rattle.mesh.specs.Records.{bytes_of, vertex}
use Rattle.base.proofs.writing.write_vertices.Given as goal

abbrev pub invariant-loop-dimension : goal.invariant-loop-dimension
invariant-loop-dimension l = vec_items l.out ++ flat_map (λ d. bytes_of (vertex d)) (drop l.dimension-index l.dims) ≡ vec_items l.initial.out ++ flat_map (λ d. bytes_of (vertex d)) l.dims
