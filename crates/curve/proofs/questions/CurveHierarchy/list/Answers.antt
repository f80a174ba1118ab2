use Rattle.curve.proofs.Faceless.{no_face_listed}
use Rattle.curve.proofs.questions.CurveHierarchy.list.Goals as goal

pub returns-in-EdgeFaces : goal.returns-in-EdgeFaces
returns-in-EdgeFaces c =
    let it = c.args.self.now in
    no_face_listed it.closed it.points it.levels c.args.level c.args.link c.args.of c.in-EdgeFaces.is
