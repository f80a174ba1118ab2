use Rattle.mesh.proofs.Certain.{rules_from}
use Rattle.base.specs.Bases.{shape}
use Rattle.base.proofs.base.Base.dimensions.Goals as goal

pub returns-clause-rules : goal.returns-clause-rules
returns-clause-rules c = rules_from (shape c.args.self.now) c.args.self.now.rules
