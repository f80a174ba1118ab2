use Rattle.std.proofs.Common.{sym, ◌∙◌, arith}
use Rattle.lifting.specs.HalfSteps.{rule}
use Rattle.lifting.proofs.Journeys.{travelled_down, travelled_up}
use Rattle.lifting.proofs.transform.Transform.go.Goals as goal

pub returns-then-to-from-clause-values : goal.returns-then-to-from-clause-values
returns-then-to-from-clause-values g c =
    let m = g.H.Hierarchy.meaning c.args.self.now.h.now in
    let r = rule g.S.Scheme g.S.Value.ValueKind c.args.self.now.s.now in
    c.descend.ensures.values ∙ sym (travelled_down m r c.args.from c.args.to c.args.self.now.values.now (omega arith))

pub returns-else-to-from-clause-values : goal.returns-else-to-from-clause-values
returns-else-to-from-clause-values g c =
    let m = g.H.Hierarchy.meaning c.args.self.now.h.now in
    let r = rule g.S.Scheme g.S.Value.ValueKind c.args.self.now.s.now in
    c.climb.ensures.values ∙ sym (travelled_up m r c.args.from c.args.to c.args.self.now.values.now (omega arith))
