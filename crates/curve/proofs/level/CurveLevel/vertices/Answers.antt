use Rattle.std.proofs.Common.{arith}
use Rattle.curve.proofs.Levels.{few_vertices, more_vertices}
use Rattle.curve.proofs.level.CurveLevel.vertices.Goals as goal

pub returns : goal.returns
returns c =
    let here = c.args.self in
    record { value = omega (arith, more_vertices here); few = omega (arith, more_vertices here, few_vertices here) }
