use Rattle.std.proofs.Common.{length, vec_items, sym, ap, ◌∙◌}
use Rattle.base.proofs.Tables.{length_parts}
use Rattle.base.proofs.base.Base.counts.Goals as goal

pub returns : goal.returns
returns c =
    let b = c.args.self.now in
    let vertices = c.len.ensures ∙ b.mesh.dims.ok.0 in
    let edges = c.len-2.ensures ∙ b.mesh.edges.ok.0 ∙ ap length b.mesh.edged in
    let faces = c.len-3.ensures ∙ b.mesh.sizes.ok.0 ∙ sym (length_parts (vec_items b.mesh.sizes) (vec_items b.mesh.sides)) in
    λ i. record { vertices = vertices i; edges = edges i; faces = faces i }
