use Rattle.std.proofs.Common.{arith}
use Rattle.std.proofs.lemmas.Grind.{common_steps}
use Rattle.curve.proofs.Faceless.{marked}
use Rattle.curve.proofs.questions.CurveHierarchy.is_curve.Goals as goal

pub returns : goal.returns
returns c =
    let it = c.args.self.now in
    grind (arith, common_steps, marked it.closed it.points it.levels c.args.level c.args.edge)
