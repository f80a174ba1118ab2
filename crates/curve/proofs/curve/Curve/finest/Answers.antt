use Rattle.std.proofs.Common.{arith}
use Rattle.std.proofs.lemmas.Bool.Decides.{nat_tests}
use Rattle.levels.proofs.CurveCounts.{vertices_few}
use Rattle.curve.proofs.curve.Curve.finest.Goals as goal

pub returns-clause-few : goal.returns-clause-few
returns-clause-few c =
    let it = c.args.self.now in
    grind (arith, nat_tests, vertices_few it.closed it.points it.levels it.enough it.bounded it.shallow)
