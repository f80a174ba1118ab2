use Rattle.std.proofs.Common.{true, rules, ap, ◌∙◌}
use Rattle.schemes.specs.Readings.{none_read}
use Rattle.schemes.specs.declared.steps.Class.TheVariants.{Edge}
use Rattle.schemes.specs.declared.steps.Step.TheVariants.{Second}
use Rattle.lifting.specs.Reading.{w_lift_reads, values_read}
use Rattle.lifting.proofs.Gathering.{kept_all}
use Rattle.lifting.proofs.reading.Points.w_lift_edge.Goals as goal

pub returns : goal.returns
returns g c =
    let p = c.args.self.now in
    let m = g.H.Hierarchy.meaning p.h.now in
    let read = values_read m g.S.Value.ValueKind.zero p.values.now p.at.level (w_lift_reads m p.at.level Edge c.args.edge) in
    let ends = rw kept_all at (c.gather-ends.ensures (λ _. true) (λ _ _ _ post. search rules) none_read c.start.ensures) in
    c.amount.ensures read ends ∙ ap (λ d. g.S.Scheme.amount p.s.now Second Edge d read) c.dimension.ensures
