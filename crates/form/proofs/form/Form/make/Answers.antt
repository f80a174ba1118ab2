use Rattle.lifting.specs.HalfSteps.{rule}
use Rattle.lifting.proofs.Journeys.{straight}
use Rattle.lifting.proofs.Undoing.{level_undone}
use Rattle.history.proofs.Lending.{part_made}
use Rattle.form.proofs.form.Form.make.Goals as goal

pub returns-clause-call : goal.returns-clause-call
returns-clause-call g c =
    let m = g.H.Hierarchy.meaning c.args.self.now.setting.hierarchy.now in
    let r = rule g.S.Scheme g.S.Value.ValueKind c.args.self.now.setting.scheme.now in
    let laws = g.S.Value.ValueKind.laws in
    λ h stands. part_made m r (straight m r (level_undone m r (g.H.Hierarchy.lawful c.args.self.now.setting.hierarchy.now) laws)) laws h c.args.call c.args.self.now.state c.args.points.now c.args.slots.now c.min-points_lent.result c.min-slots_lent.result c.min-points_lent.ensures c.min-slots_lent.ensures stands c.serve.result _ _ _ c.serve.ensures.call
