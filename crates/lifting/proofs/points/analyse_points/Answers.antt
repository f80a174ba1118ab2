use Rattle.lifting.specs.IntegerLifting.{Analysis}
use Rattle.lifting.proofs.Accepted.{outcome}
use Rattle.lifting.proofs.points.analyse_points.Goals as goal

pub returns-clause-equations : goal.returns-clause-equations
returns-clause-equations g c =
    let m = g.H.Hierarchy.meaning c.args.h.now in
    let j = c.args.level in
    let factor = g.F.Factors.factor c.args.table in
    let before = c.args.points.now in
    let done = c.analyse_level.ensures in
    outcome m j c.analyse_level.result before c.analyse_level.new.values _ (Analysis m j factor before) done.result done.values (done.equations.analysis factor before)
