use Rattle.std.proofs.Common.{true, false, rules, sym, ◌∙◌}
use Rattle.schemes.specs.Readings.{none_read}
use Rattle.lifting.specs.HalfSteps.{rule}
use Rattle.lifting.proofs.Amounts.{at_curve}
use Rattle.lifting.proofs.Gathering.{kept_all}
use Rattle.lifting.proofs.reading.Points.s_lift_edge.Goals as goal

pub returns-then-is_curve : goal.returns-then-is_curve
returns-then-is_curve g c =
    let p = c.args.self.now in
    let r = rule g.S.Scheme g.S.Value.ValueKind p.s.now in
    c.amount.ensures none_read c.start.ensures ∙ at_curve (g.H.Hierarchy.meaning p.h.now) r c.args.step p.at.level p.values.now c.args.edge true (sym c.is_curve.ensures ∙ c.if-is_curve.true)

pub returns : goal.returns
returns g c =
    let p = c.args.self.now in
    let r = rule g.S.Scheme g.S.Value.ValueKind p.s.now in
    let faces = rw kept_all at (c.gather-faces.ensures (λ _. true) (λ _ _ _ post. search rules) none_read c.start-2.ensures) in
    c.amount-2.ensures _ faces ∙ at_curve (g.H.Hierarchy.meaning p.h.now) r c.args.step p.at.level p.values.now c.args.edge false (sym c.is_curve.ensures ∙ c.if-is_curve.false)
