use Rattle.std.proofs.Common.{◌≡◌, suc, ◌+◌, sym, refl, ap, ◌∙◌, le_refl, rules, arith}
use Rattle.lifting.specs.HalfSteps.{rule, synthesised}
use Rattle.lifting.specs.Travel.{climbed}
use Rattle.lifting.proofs.Journeys.{climbed_step, climbed_none}
use Rattle.lifting.proofs.transform.Transform.climb.Goals as goal

pub loop-level-init : goal.loop-level-init
loop-level-init g c =
    let m = g.H.Hierarchy.meaning c.args.self.now.h.now in
    let r = rule g.S.Scheme g.S.Value.ValueKind c.args.self.now.s.now in
    record { hierarchy = refl; scheme = refl; place = refl; values = sym (climbed_none m r c.args.from c.args.from c.args.self.now.values.now (le_refl _)) }

pub loop-level-preserved : goal.loop-level-preserved
loop-level-preserved g c =
    let first = c.args.self.now in
    let m = g.H.Hierarchy.meaning first.h.now in
    let r = rule g.S.Scheme g.S.Value.ValueKind first.s.now in
    let now = c.loop-level.self in
    let so_far = c.loop-level.invariant in
    let level = c.loop-level.level in
    let next : suc level ≡ level + 1 = omega arith in
    let done = c.cross.ensures.values ∙ ap (λ h. synthesised (g.H.Hierarchy.meaning h.now) (rule g.S.Scheme g.S.Value.ValueKind now.s.now) level now.values.now) so_far.hierarchy ∙ ap (λ s. synthesised m (rule g.S.Scheme g.S.Value.ValueKind s.now) level now.values.now) so_far.scheme in
    record {
      hierarchy = search rules;
      scheme = search rules;
      place = search rules;
      values = done ∙ ap (synthesised m r level) so_far.values ∙ sym (climbed_step m r c.args.from level first.values.now c.loop-level.auto.level) ∙ ap (λ n. climbed m r c.args.from n first.values.now) next;
    }

pub returns-clause-values : goal.returns-clause-values
returns-clause-values g c =
    let m = g.H.Hierarchy.meaning c.args.self.now.h.now in
    let r = rule g.S.Scheme g.S.Value.ValueKind c.args.self.now.s.now in
    let there : c.loop-level.level ≡ c.args.to = omega arith in
    c.loop-level.invariant.values ∙ ap (λ n. climbed m r c.args.from n c.args.self.now.values.now) there
