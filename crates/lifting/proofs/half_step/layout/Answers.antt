use Rattle.std.proofs.Common.{arith}
use Rattle.lifting.proofs.Room.{room}
use Rattle.lifting.proofs.half_step.layout.Goals as goal

pub overflow_add-result : goal.overflow_add-result
overflow_add-result g c =
    let lawful = g.H.Hierarchy.lawful c.args.h.now in
    record { fits = omega (arith, room lawful c.args.level c.requires, lawful.few_vertices) }
