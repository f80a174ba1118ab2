use Rattle.capi.specs.Records.{slot_of}
use Rattle.capi.proofs.job.Job.list.Goals as goal

pub returns : goal.returns
returns g c = c.read_all.ensures (slot_of g.V.Crossing.arrives) (λ x y e. e)
