use Rattle.curve.proofs.Faceless.{no_faces}
use Rattle.curve.proofs.questions.CurveHierarchy.faces.Goals as goal

pub returns : goal.returns
returns c =
    let it = c.args.self.now in
    no_faces it.closed it.points it.levels c.args._level
