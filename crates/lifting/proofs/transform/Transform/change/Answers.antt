use Rattle.std.proofs.Common.{◌≡◌, ◌+◌, ◌<◌, T, sym, ap, ◌∙◌, subst, arith}
use Rattle.lifting.specs.Places.{count_of, first_place}
use Rattle.lifting.specs.HalfSteps.{rule, amount_at}
use Rattle.lifting.proofs.Room.{point_inside}
use Rattle.lifting.proofs.Gathering.{begins}
use Rattle.lifting.proofs.Changing.{partly, partly_none, turn_changes, half_is}
use Rattle.lifting.proofs.Idling.{half_idle}
use Rattle.lifting.proofs.transform.Transform.change.Goals as goal

pub returns-then-is_idle-clause-values : goal.returns-then-is_idle-clause-values
returns-then-is_idle-clause-values g c =
    let m = g.H.Hierarchy.meaning c.args.self.now.h.now in
    let r = rule g.S.Scheme g.S.Value.ValueKind c.args.self.now.s.now in
    let none = c.is_idle.ensures.nothing (subst T (sym c.if-is_idle.true) tt) in
    sym (half_idle m r g.S.Value.ValueKind.laws c.args.way c.args.level c.args.step c.args.class (none c.args.class) c.args.self.now.values.now)

pub loop-number-init : goal.loop-number-init
loop-number-init g c = sym (partly_none (g.H.Hierarchy.meaning c.args.self.now.h.now) (rule g.S.Scheme g.S.Value.ValueKind c.args.self.now.s.now) c.args.way c.args.step c.args.level c.args.class c.args.self.now.values.now)

pub overflow_add-from : goal.overflow_add-from
overflow_add-from g c =
    let lawful = g.H.Hierarchy.lawful c.args.self.now.h.now in
    let from = begins lawful c.layout-at.ensures.laid c.args.class c.layout-at.ensures.level c.first-from.ensures in
    let inside = point_inside lawful c.args.level c.args.class c.loop-number.number c.requires (omega (arith, c.count-number-end.ensures)) in
    record { fits = omega (arith, lawful.few_vertices) }

pub add_at-requires : goal.add_at-requires
add_at-requires g c =
    let lawful = g.H.Hierarchy.lawful c.args.self.now.h.now in
    let from = begins lawful c.layout-at.ensures.laid c.args.class c.layout-at.ensures.level c.first-from.ensures in
    let inside = point_inside lawful c.args.level c.args.class c.loop-number.number c.requires (omega (arith, c.count-number-end.ensures)) in
    omega (arith, c.loop-number.auto.values, c.args.self.now.whole)

pub loop-number-preserved : goal.loop-number-preserved
loop-number-preserved g c =
    let m = g.H.Hierarchy.meaning c.args.self.now.h.now in
    let r = rule g.S.Scheme g.S.Value.ValueKind c.args.self.now.s.now in
    let lawful = g.H.Hierarchy.lawful c.args.self.now.h.now in
    let number = c.loop-number.number in
    let few : number < count_of m c.args.level c.args.class = omega (arith, c.count-number-end.ensures) in
    let from : c.first-from.result ≡ first_place m c.args.level c.args.class = begins lawful c.layout-at.ensures.laid c.args.class c.layout-at.ensures.level c.first-from.ensures in
    let inside = point_inside lawful c.args.level c.args.class number c.requires few in
    let added = c.amount-added.ensures ∙ ap (λ j. amount_at m r c.args.step j c.args.class number c.loop-number.values) c.layout-at.ensures.level in
    turn_changes lawful r c.args.way c.args.step c.args.level c.args.class c.args.self.now.values.now number few (omega (arith, c.args.self.now.whole)) c.loop-number.invariant (ap (λ p. p + number) from) added c.add_at.ensures

pub returns-clause-values : goal.returns-clause-values
returns-clause-values g c =
    let m = g.H.Hierarchy.meaning c.args.self.now.h.now in
    let r = rule g.S.Scheme g.S.Value.ValueKind c.args.self.now.s.now in
    let all : c.loop-number.number ≡ count_of m c.args.level c.args.class = omega (arith, c.count-number-end.ensures) in
    c.loop-number.invariant ∙ ap (λ n. partly m r c.args.way c.args.step c.args.level c.args.class n c.args.self.now.values.now) all ∙ sym (half_is m r c.args.way c.args.step c.args.level c.args.class c.args.self.now.values.now)
