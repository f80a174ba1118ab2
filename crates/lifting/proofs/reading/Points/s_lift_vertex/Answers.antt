use Rattle.std.proofs.Common.{◌≡◌, true, [], rules, sym, ◌∙◌, arith}
use Rattle.hierarchy.specs.declared.link.Link.TheVariants.{VertexEdges}
use Rattle.schemes.specs.Readings.{none_read}
use Rattle.lifting.specs.Reading.{values_read}
use Rattle.lifting.specs.HalfSteps.{rule}
use Rattle.lifting.proofs.Amounts.{at_dimension}
use Rattle.lifting.proofs.Gathering.{kept_all}
use Rattle.lifting.proofs.reading.Points.s_lift_vertex.Goals as goal

pub returns-in-2 : goal.returns-in-2
returns-in-2 g c =
    let p = c.args.self.now in
    let m = g.H.Hierarchy.meaning p.h.now in
    let r = rule g.S.Scheme g.S.Value.ValueKind p.s.now in
    let edges = rw kept_all at (c.gather-edges.ensures (λ _. true) (λ _ _ _ post. search rules) none_read c.start.ensures) in
    let faces = rw kept_all at (c.gather-faces.ensures (λ _. true) (λ _ _ _ post. search rules) (values_read m g.S.Value.ValueKind.zero p.values.now p.at.level (record { vertices = []; edges = m.list p.at.level VertexEdges c.args.vertex; faces = [] })) edges) in
    c.amount.ensures _ faces ∙ at_dimension m r c.args.step p.at.level p.values.now c.args.vertex 2 (sym c.dimension.ensures ∙ c.in-2.is)

pub returns-in-1 : goal.returns-in-1
returns-in-1 g c =
    let p = c.args.self.now in
    let m = g.H.Hierarchy.meaning p.h.now in
    let r = rule g.S.Scheme g.S.Value.ValueKind p.s.now in
    let curves = c.gather-curves.ensures (m.curve p.at.level) (λ _ _ _ post. search rules) none_read c.start-in-1.ensures in
    c.amount-in-1.ensures _ curves ∙ at_dimension m r c.args.step p.at.level p.values.now c.args.vertex 1 (sym c.dimension.ensures ∙ c.in-1.is)

pub returns-in_default : goal.returns-in_default
returns-in_default g c =
    let p = c.args.self.now in
    let m = g.H.Hierarchy.meaning p.h.now in
    let r = rule g.S.Scheme g.S.Value.ValueKind p.s.now in
    let few = (g.H.Hierarchy.lawful p.h.now).dimensions p.at.level c.args.vertex in
    let two : c.dimension.result ≡ 2 → ⊥ = search rules in
    let one : c.dimension.result ≡ 1 → ⊥ = search rules in
    let corner : m.dimension p.at.level c.args.vertex ≡ 0 = omega (arith, c.dimension.ensures) in
    c.amount-in_default.ensures none_read c.start-in_default.ensures ∙ at_dimension m r c.args.step p.at.level p.values.now c.args.vertex 0 corner
