use Rattle.std.proofs.Common.{arith}
use Rattle.std.proofs.lemmas.Grind.{common_steps}
use Rattle.curve.proofs.Levels.{two}
use Rattle.curve.proofs.Faceless.{dimensioned}
use Rattle.curve.proofs.questions.CurveHierarchy.dimension.Goals as goal

pub returns-in-Some : goal.returns-in-Some
returns-in-Some c =
    let it = c.args.self.now in
    let some = two it in
    grind (arith, common_steps, c.in-Some.ensures, dimensioned it.closed it.points it.levels c.args.level c.args.vertex (omega arith))
