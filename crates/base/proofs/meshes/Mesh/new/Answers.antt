use Rattle.std.proofs.Common.{refl}
use Rattle.mesh.specs.Shape.{firsts}
use Rattle.base.proofs.meshes.Mesh.new.Goals as goal

pub invariant_of-result : goal.invariant_of-result
unfolding firsts
invariant_of-result c = record {
  total = simp (c.new-2.ensures.items, c.new-3.ensures.items);
  sided = simp (c.new-2.ensures.items, c.new-3.ensures.items);
  edged = simp (c.new-2.ensures.items, c.new-4.ensures.items) refl;
}
