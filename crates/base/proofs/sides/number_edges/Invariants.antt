use Rattle.std.proofs.Common.{◌≡◌, drop, vec_items, fold}
use Rattle.mesh.specs.Shape.{with_side}
use Rattle.base.proofs.sides.number_edges.Given as goal

abbrev pub invariant-loop-side : goal.invariant-loop-side
invariant-loop-side l = fold with_side (vec_items l.edges) (drop l.side-index l.sides) ≡ fold with_side (vec_items l.initial.edges) l.sides
