use Rattle.std.proofs.Common.{◌≡◌, suc, ◌-◌, sym, ap, ◌∙◌, rules, arith}
use Rattle.lifting.specs.HalfSteps.{rule, analysed}
use Rattle.lifting.specs.Travel.{descended}
use Rattle.lifting.proofs.Journeys.{descended_step, descended_none}
use Rattle.lifting.proofs.transform.Transform.descend.Goals as goal

pub loop-level-preserved : goal.loop-level-preserved
loop-level-preserved g c =
    let first = c.args.self.now in
    let m = g.H.Hierarchy.meaning first.h.now in
    let r = rule g.S.Scheme g.S.Value.ValueKind first.s.now in
    let now = c.loop-level.self in
    let so_far = c.loop-level.invariant in
    let level = c.loop-level.level - 1 in
    let here : suc level ≡ c.loop-level.level = omega arith in
    let done = c.cross.ensures.values ∙ ap (λ h. analysed (g.H.Hierarchy.meaning h.now) (rule g.S.Scheme g.S.Value.ValueKind now.s.now) level now.values.now) so_far.hierarchy ∙ ap (λ s. analysed m (rule g.S.Scheme g.S.Value.ValueKind s.now) level now.values.now) so_far.scheme in
    record {
      hierarchy = search rules;
      scheme = search rules;
      place = search rules;
      values = ap (descended m r level c.args.to) done ∙ sym (descended_step m r level c.args.to now.values.now (omega arith)) ∙ ap (λ n. descended m r n c.args.to now.values.now) here ∙ so_far.values;
    }

pub returns-clause-values : goal.returns-clause-values
returns-clause-values g c =
    let m = g.H.Hierarchy.meaning c.args.self.now.h.now in
    let r = rule g.S.Scheme g.S.Value.ValueKind c.args.self.now.s.now in
    sym (descended_none m r c.loop-level.level c.args.to c.loop-level.self.values.now c.loop-level-test.false) ∙ c.loop-level.invariant.values
