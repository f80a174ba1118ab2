use Rattle.std.proofs.Common.{◌≡◌, ℕ, List, ◌++◌, vec_items, ap, ◌∙◌}
use Rattle.std.specs.List.{flat_map}
use Rattle.mesh.specs.Reading.{reading}
use Rattle.mesh.specs.declared.Side.{Side}
use Rattle.mesh.specs.Records.{bytes_of, vertex, curve}
use Rattle.mesh.specs.Rules.{Rules}
use Rattle.mesh.specs.Shape.{edges, marked, curve_edges}
use Rattle.mesh.proofs.Certain.{rules_from}
use Rattle.mesh.proofs.ReadsBack.{reads_back}
use Rattle.base.specs.declared.base.Base.{Base}
use Rattle.base.specs.Bases.{shape}
use Rattle.base.specs.Meshes.{faces}
use Rattle.base.proofs.Written.{one_by_one}
use Rattle.base.proofs.base.Base.write.Goals as goal

rules : (b : Base) → Rules (shape b)
rules b = rules_from (shape b) b.rules

pub returns : goal.returns
returns c =
    let b = c.args.self.now in
    let vertices = c.in_ok-write_vertices.ensures ∙ ap (λ (l : List ℕ). vec_items c.new-out.result ++ flat_map (λ d. bytes_of (vertex d)) l) c.deref-2.ensures.value in
    let marks : c.deref-3.result.now ≡ curve_edges (shape b) = c.deref-3.ensures.value ∙ c.in_ok-curves.ensures ∙ ap (marked (edges (faces b.mesh))) c.deref.ensures.value in
    let curves = c.in_ok-write_curves.ensures ∙ ap (λ (l : List Side). vec_items c.write_faces.new.out ++ flat_map (λ s. bytes_of (curve s)) l) marks in
    let all = one_by_one (vec_items c.new-out.result) (vec_items c.write_vertices.new.out) (vec_items c.write_faces.new.out) (vec_items c.write_curves.new.out) (vec_items c.push.new.self) _ _ _ c.new-out.ensures.items vertices c.in_ok-write_faces.ensures curves c.in_ok-push.ensures.items in
    record { bytes = all; back = ap reading all ∙ reads_back (shape b) (rules b) }
