use Rattle.std.proofs.Common.{◌≡◌, [], ◌∷◌, map, get_or, take, sym, ap, ◌∙◌, rules, arith}
use Rattle.std.proofs.lemmas.List.{take_more, take_all, map-append}
use Rattle.std.proofs.lemmas.Iterator.Adapters.{YieldsList-from_rev_slice}
use Rattle.std.proofs.lemmas.Iterator.Consumers.{YieldsList-end}
use Rattle.schemes.specs.declared.steps.Class.{Class}
use Rattle.schemes.specs.declared.steps.Class.TheVariants.{Vertex}
use Rattle.schemes.specs.declared.steps.Step.{Step}
use Rattle.schemes.specs.declared.steps.Step.TheVariants.{First}
use Rattle.lifting.specs.declared.way.Way.TheVariants.{Down, Up}
use Rattle.lifting.specs.HalfSteps.{rule, half, halves, lifts, analysed, synthesised, crossed}
use Rattle.lifting.proofs.Changing.{one_more}
use Rattle.lifting.proofs.transform.Transform.cross.Goals as goal

pub loop-step-preserved : goal.loop-step-preserved
loop-step-preserved g c =
    let first = c.args.self.now in
    let m = g.H.Hierarchy.meaning first.h.now in
    let r = rule g.S.Scheme g.S.Value.ValueKind first.s.now in
    let j = c.args.level in
    let now = c.loop-step.self in
    let so_far = c.loop-step.invariant in
    let k = c.loop-step.step-index in
    let lift : Step × Class = get_or lifts k (First, Vertex) in
    let made : c.change.new.self.values.now ≡ half m r Down j lift now.values.now = c.change.ensures.values
    ∙ ap (λ h. half (g.H.Hierarchy.meaning h.now) (rule g.S.Scheme g.S.Value.ValueKind now.s.now) c.args.way j lift now.values.now) so_far.hierarchy
    ∙ ap (λ s. half m (rule g.S.Scheme g.S.Value.ValueKind s.now) c.args.way j lift now.values.now) so_far.scheme
    ∙ ap (λ w. half m r w j lift now.values.now) c.in-Down.is in
    record {
      hierarchy = search rules;
      scheme = search rules;
      place = search rules;
      values = one_more m r Down j (take k lifts) lift first.values.now so_far.values made ∙ ap (λ ls. halves m r Down j ls first.values.now) (sym (take_more lifts k (First, Vertex) c.loop-step-test.true));
    }

pub returns-after-loop-step-clause-values : goal.returns-after-loop-step-clause-values
unfolding analysed
returns-after-loop-step-clause-values g c =
    let first = c.args.self.now in
    let m = g.H.Hierarchy.meaning first.h.now in
    let r = rule g.S.Scheme g.S.Value.ValueKind first.s.now in
    let all = take_all c.loop-step.step-index lifts c.loop-step-test.false in
    c.loop-step.invariant.values ∙ ap (λ ls. halves m r Down c.args.level ls first.values.now) all ∙ ap (λ w. crossed m r w c.args.level first.values.now) (sym c.in-Down.is)

pub change-requires-in-loop-step-2 : goal.change-requires-in-loop-step-2
change-requires-in-loop-step-2 g c = omega (arith, c.requires, ap (λ h. (g.H.Hierarchy.meaning h.now).levels) c.loop-step-2.invariant.hierarchy)

pub loop-step-2-preserved : goal.loop-step-2-preserved
loop-step-2-preserved g c =
    let first = c.args.self.now in
    let m = g.H.Hierarchy.meaning first.h.now in
    let r = rule g.S.Scheme g.S.Value.ValueKind first.s.now in
    let j = c.args.level in
    let now = c.loop-step-2.self in
    let so_far = c.loop-step-2.invariant in
    let lift : Step × Class = c.in-Some.field-0.now in
    let made : c.change-in-loop-step-2.new.self.values.now ≡ half m r Up j lift now.values.now = c.change-in-loop-step-2.ensures.values
    ∙ ap (λ h. half (g.H.Hierarchy.meaning h.now) (rule g.S.Scheme g.S.Value.ValueKind now.s.now) c.args.way j lift now.values.now) so_far.hierarchy
    ∙ ap (λ s. half m (rule g.S.Scheme g.S.Value.ValueKind s.now) c.args.way j lift now.values.now) so_far.scheme
    ∙ ap (λ w. half m r w j lift now.values.now) c.in-Up.is in
    record {
      hierarchy = search rules;
      scheme = search rules;
      place = search rules;
      values = one_more m r Up j (map (λ x. x.now) c.loop-step-2.yielded) lift first.values.now so_far.values made
          ∙ ap (λ ls. halves m r Up j ls first.values.now) (sym (map-append (λ x. x.now) c.loop-step-2.yielded (c.in-Some.field-0 ∷ [])));
    }

pub returns-in-None-clause-kept : goal.returns-in-None-clause-kept
returns-in-None-clause-kept g c = (c.loop-step-2.invariant.hierarchy, c.loop-step-2.invariant.scheme, c.loop-step-2.invariant.place)

pub returns-in-None-clause-values : goal.returns-in-None-clause-values
unfolding synthesised
returns-in-None-clause-values g c =
    let first = c.args.self.now in
    let m = g.H.Hierarchy.meaning first.h.now in
    let r = rule g.S.Scheme g.S.Value.ValueKind first.s.now in
    let end = YieldsList-end (YieldsList-from_rev_slice {s = c.into_iter-step-iterator.result} lifts (cc)) c.loop-step-2.yielded _ c.loop-step-2.yielded_by _ _ c.in-None.is c.next.ensures.steps in
    c.loop-step-2.invariant.values ∙ ap (λ ls. halves m r Up c.args.level ls first.values.now) end.0 ∙ ap (λ w. crossed m r w c.args.level first.values.now) (sym c.in-Up.is)
