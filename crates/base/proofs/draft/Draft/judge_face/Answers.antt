use Rattle.std.proofs.Common.{◌≡◌, false, not, leb, length, vec_items, count_by, sym, refl, ap, ◌∙◌, ap₂, arith}
use Rattle.std.proofs.lemmas.Bool.{or_left, le-leb, lt-leb}
use Rattle.mesh.specs.Reading.{bad_vertex, third_face}
use Rattle.mesh.specs.Records.{face}
use Rattle.mesh.specs.Rules.{proper}
use Rattle.mesh.specs.Shape.{any, joins}
use Rattle.base.specs.Drafts.{drafted}
use Rattle.base.proofs.Rows.{row_many}
use Rattle.base.proofs.Tables.{length_parts}
use Rattle.base.proofs.draft.Draft.judge_face.Goals as goal
use Rattle.base.proofs.draft.Draft.judge_face.Goals.{After-len-2}

module _ (c : After-len-2) where
  known : bad_vertex (drafted c.args.self.now) (face (vec_items c.args.next.now.corners)) ≡ false
  known = ap not (ap₂ proper (sym (c.len.ensures ∙ c.args.self.now.mesh.dims.ok.0)) (sym c.deref.ensures.value) ∙ sym c.are_proper.ensures ∙ c.if-not-are_proper.false)

  room : third_face (drafted c.args.self.now) (face (vec_items c.args.next.now.corners)) ≡ false
  room = ap₂ (λ ss fs. any (λ s. leb 2 (count_by (joins s) ss)) fs) (sym (c.deref-2.ensures.value ∙ c.args.self.now.mesh.sided)) (sym (c.deref-3.ensures.value ∙ c.args.next.now.round)) ∙ sym c.if-has_full_edge.ensures

  faces : length (drafted c.args.self.now).faces ≡ c.len-2.result
  faces = length_parts (vec_items c.args.self.now.mesh.sizes) (vec_items c.args.self.now.mesh.sides) ∙ sym (c.len-2.ensures ∙ c.args.self.now.mesh.sizes.ok.0)

pub returns-then-len-ge-MOST_FACES : goal.returns-then-len-ge-MOST_FACES
returns-then-len-ge-MOST_FACES c =
    let d = drafted c.args.self.now in
    let k = (goal.at.returns-then-len-ge-MOST_FACES c).After-len-2 in
    row_many c.args.number d (face (vec_items c.args.next.now.corners)) (sym c.if-has_curves.ensures) (known k) refl (room k) (or_left (leb 256 (length d.faces)) _ (le-leb 256 (length d.faces) (omega (arith, faces k))))

pub returns : goal.returns
returns c =
    let d = drafted c.args.self.now in
    let k = (goal.at.returns c).After-len-2 in
    record { ordered = sym c.if-has_curves.ensures; known = known k; room = room k; few = lt-leb 256 (length d.faces) (omega (arith, faces k)) }
