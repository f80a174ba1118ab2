use Rattle.std.proofs.Common.{◌≡◌, false, not, [], ◌∷◌, Some, sym, refl, ap, ◌∙◌}
use Rattle.mesh.specs.Records.{curve}
use Rattle.mesh.specs.Reading.{bad_vertex}
use Rattle.mesh.specs.Rules.{proper}
use Rattle.mesh.specs.Shape.{edges, edge_of}
use Rattle.base.specs.Drafts.{drafted}
use Rattle.base.proofs.Rows.{row_curve, row_none, curve_found}
use Rattle.base.proofs.draft.Draft.judge_curve.Goals as goal
use Rattle.base.proofs.draft.Draft.judge_curve.Goals.{After-has_named}

module _ (c : After-has_named) where
  known : bad_vertex (drafted c.args.self.now) (curve c.args.side) ≡ false
  known =
      let s = c.args.side in
      ap not (ap (λ n. proper n (s.tail ∷ s.head ∷ [])) (sym (c.len.ensures ∙ c.args.self.now.mesh.dims.ok.0)) ∙ sym c.are_proper.ensures ∙ c.if-not-are_proper.false)

  found : edge_of (edges (drafted c.args.self.now).faces) c.args.side ≡ Some c.in-Some.edge
  found = ap (λ l. edge_of l c.args.side) (sym (c.deref.ensures.value ∙ c.args.self.now.mesh.edged)) ∙ sym c.in-Some.ensures

pub returns-then-has_named : goal.returns-then-has_named
returns-then-has_named c =
    let k = (goal.at.returns-then-has_named c).After-has_named in
    record {
      judged = sym (row_curve c.args.number (drafted c.args.self.now) (curve c.args.side) refl (known k) (curve_found (drafted c.args.self.now) c.args.side c.in-Some.edge (found k) ∙ sym c.if-has_named.ensures));
      edge = tt;
    }

pub returns : goal.returns
returns c =
    let k = (goal.at.returns c).After-has_named in
    record {
      judged = sym (row_none c.args.number (drafted c.args.self.now) (curve c.args.side) refl (known k) (curve_found (drafted c.args.self.now) c.args.side c.in-Some.edge (found k) ∙ sym c.if-has_named.ensures) refl refl);
      edge = found k;
    }
