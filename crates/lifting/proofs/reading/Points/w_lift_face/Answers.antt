use Rattle.std.proofs.Common.{true, [], rules}
use Rattle.hierarchy.specs.declared.link.Link.TheVariants.{FaceVertices}
use Rattle.schemes.specs.Readings.{none_read}
use Rattle.lifting.specs.Reading.{values_read}
use Rattle.lifting.proofs.Gathering.{kept_all}
use Rattle.lifting.proofs.reading.Points.w_lift_face.Goals as goal

pub returns : goal.returns
returns g c =
    let p = c.args.self.now in
    let m = g.H.Hierarchy.meaning p.h.now in
    let vertices = rw kept_all at (c.gather-vertices.ensures (λ _. true) (λ _ _ _ post. search rules) none_read c.start.ensures) in
    let edges = rw kept_all at (c.gather-edges.ensures (λ _. true) (λ _ _ _ post. search rules) (values_read m g.S.Value.ValueKind.zero p.values.now p.at.level (record { vertices = m.list p.at.level FaceVertices c.args.face; edges = []; faces = [] })) vertices) in
    c.amount.ensures _ edges
