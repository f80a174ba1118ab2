use Rattle.std.proofs.Common.{ap, ◌∙◌, arith}
use Rattle.curve.specs.Made.{coarsest}
use Rattle.curve.specs.Positions.{number_at}
use Rattle.curve.proofs.Neighbours.{ends_rising, ends_falling}
use Rattle.curve.proofs.level.CurveLevel.ends.Goals as goal

pub returns-then-tail-head : goal.returns-then-tail-head
returns-then-tail-head c =
    let here = c.args.self in
    let it = here.curve.now in
    ends_rising it.closed it.points it.enough here.level c.args.edge c.numbered-tail.result c.numbered-head.result (omega arith) c.numbered-tail.ensures (c.numbered-head.ensures ∙ ap (number_at (coarsest it) here.level) c.next_position.ensures) (omega arith)

pub returns-else-tail-head : goal.returns-else-tail-head
returns-else-tail-head c =
    let here = c.args.self in
    let it = here.curve.now in
    ends_falling it.closed it.points it.enough here.level c.args.edge c.numbered-tail.result c.numbered-head.result (omega arith) c.numbered-tail.ensures (c.numbered-head.ensures ∙ ap (number_at (coarsest it) here.level) c.next_position.ensures) (omega arith)
