use Rattle.std.proofs.Common.{not, eqb, vec_items, sym, ap, ◌∙◌}
use Rattle.base.proofs.Rows.{empty_eqb, empty_parts}
use Rattle.base.proofs.draft.Draft.has_faces.Goals as goal

pub returns : goal.returns
returns c =
    let m = c.args.self.now.mesh in
    ap not (c.is_empty.ensures ∙ ap (λ n. eqb n 0) m.sizes.ok.0 ∙ sym (empty_eqb _) ∙ sym (empty_parts (vec_items m.sizes) (vec_items m.sides)))
