use Rattle.std.proofs.Common.{◌≡◌, length}
use Rattle.mesh.specs.Rules.{proper}
use Rattle.base.proofs.face.are_proper.Given as goal

abbrev pub invariant-loop-rest : goal.invariant-loop-rest
invariant-loop-rest l = proper l.vertices l.rest ≡ proper l.vertices l.corners

abbrev pub decreases-loop-rest : goal.decreases-loop-rest
decreases-loop-rest l = length l.rest
