use Rattle.std.proofs.Common.{◌≡◌, ◌∷◌, ◌++◌, [], ℕ, List, length, fold, vec_items, sym, ap, ap₂, ◌∙◌, arith}
use Rattle.mesh.specs.declared.Side.{Side}
use Rattle.mesh.specs.Shape.{with_side, edges as edges_of}
use Rattle.base.specs.Meshes.{faces}
use Rattle.base.proofs.Tables.{edges_more, faces_more, total_more, sided_more, edged_more}
use Rattle.base.proofs.meshes.Mesh.with_face.Goals.{After-len, In_ok-push}
use Rattle.base.proofs.meshes.Mesh.with_face.Goals as goal

counted : (c : After-len) → length (edges_of (faces c.args.self ++ vec_items c.args.face.now.corners ∷ [])) ≡ c.len.result
counted c =
    ap length (edges_more (faces c.args.self) (vec_items c.args.face.now.corners) ∙ sym (ap₂ (fold with_side) c.args.self.edged c.args.face.now.round)
    ∙ sym (c.in_ok-number_edges.ensures ∙ ap (fold with_side (vec_items c.args.self.edges)) c.deref.ensures.value))
    ∙ sym (c.len.ensures ∙ c.number_edges.new.edges.ok.0)

module _ (c : In_ok-push) where
  sizes : vec_items c.push.new.self ≡ vec_items c.args.self.sizes ++ length (vec_items c.args.face.now.sides) ∷ []
  sizes = c.in_ok-push.ensures.items ∙ ap (λ (n : ℕ). vec_items c.args.self.sizes ++ n ∷ []) (c.len-2.ensures ∙ c.args.face.now.sides.ok.0)

  sides : vec_items c.extend_from_slice.new.self ≡ vec_items c.args.self.sides ++ vec_items c.args.face.now.sides
  sides = c.in_ok-extend_from_slice.ensures.items ∙ ap (λ (l : List Side). vec_items c.args.self.sides ++ l) c.deref-2.ensures.value

  edges : vec_items c.number_edges.new.edges ≡ fold with_side (vec_items c.args.self.edges) (vec_items c.args.face.now.sides)
  edges = c.in_ok-number_edges.ensures ∙ ap (fold with_side (vec_items c.args.self.edges)) c.deref.ensures.value

pub returns-then-len-most-clause-few : goal.returns-then-len-most-clause-few
returns-then-len-most-clause-few c =
    let k = (goal.at.returns-then-len-most-clause-few c).After-len in
    omega (arith, counted k)

pub invariant_of-result : goal.invariant_of-result
invariant_of-result c =
    let k = (goal.at.invariant_of-result c).In_ok-push in
    let m = c.args.self in
    record {
      total = total_more _ _ _ _ _ _ _ _ m.total m.sided m.edged c.args.face.now.round (sizes k) (sides k) (edges k);
      sided = sided_more _ _ _ _ _ _ _ _ m.total m.sided m.edged c.args.face.now.round (sizes k) (sides k) (edges k);
      edged = edged_more _ _ _ _ _ _ _ _ m.total m.sided m.edged c.args.face.now.round (sizes k) (sides k) (edges k);
    }

pub returns-clause-faces : goal.returns-clause-faces
returns-clause-faces c =
    let k = (goal.at.returns-clause-faces c).In_ok-push in
    let m = c.args.self in
    faces_more _ _ _ _ _ _ _ _ m.total m.sided m.edged c.args.face.now.round (sizes k) (sides k) (edges k)
