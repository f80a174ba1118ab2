use Rattle.std.proofs.Common.{sym, refl, ◌∙◌, arith}
use Rattle.std.proofs.lemmas.Bool.{or_left, or_right, or_from, lt-ltb, le-ltb, le-leb, lt-leb}
use Rattle.mesh.specs.Records.{vertex}
use Rattle.base.specs.Drafts.{drafted}
use Rattle.base.proofs.Rows.{row_order, row_vertex, row_many, row_none}
use Rattle.base.proofs.draft.Draft.judge_vertex.Goals as goal
use Rattle.base.proofs.draft.Draft.judge_vertex.Goals.{then-has_faces-via-then-has_faces, then-has_faces-via-else-has_faces+then-has_curves}

pub returns-then-has_faces : goal.returns-then-has_faces
returns-then-has_faces c =
    let row = row_order c.args.number (drafted c.args.self.now) (vertex c.args.dimension) in
    elim c.then-has_faces.branch [
      | then-has_faces-via-then-has_faces w ↦ sym (row (or_left _ _ (sym c.has_faces.ensures ∙ w.if-has_faces.true)))
      | then-has_faces-via-else-has_faces+then-has_curves w ↦ sym (row (or_right _ _ (sym w.has_curves.ensures ∙ w.if-has_curves.true)))
    ]

pub returns-then-dimension-gt2 : goal.returns-then-dimension-gt2
returns-then-dimension-gt2 c =
    sym (row_vertex c.args.number (drafted c.args.self.now) (vertex c.args.dimension) (or_from _ _ (sym c.if-has_faces.ensures) (sym c.if-has_curves.ensures)) (lt-ltb 2 _ c.if-dimension-gt2.true))

pub returns-then-len-ge-MOST_VERTICES : goal.returns-then-len-ge-MOST_VERTICES
returns-then-len-ge-MOST_VERTICES c =
    sym (row_many c.args.number (drafted c.args.self.now) (vertex c.args.dimension) (or_from _ _ (sym c.if-has_faces.ensures) (sym c.if-has_curves.ensures)) (le-ltb 2 _ c.if-dimension-gt2.false) refl refl
    (le-leb 256 _ (omega (arith, c.args.self.now.mesh.dims.ok.0))))

pub returns : goal.returns
returns c =
    sym (row_none c.args.number (drafted c.args.self.now) (vertex c.args.dimension) (or_from _ _ (sym c.if-has_faces.ensures) (sym c.if-has_curves.ensures)) (le-ltb 2 _ c.if-dimension-gt2.false) refl refl
    (lt-leb 256 _ (omega (arith, c.args.self.now.mesh.dims.ok.0))))
