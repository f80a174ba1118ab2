use Rattle.std.proofs.Common.{length, ap, ◌∙◌, arith}
use Rattle.std.proofs.lemmas.List.{length-map}
use Rattle.base.specs.Bases.{shape}
use Rattle.levels.proofs.Rounds.{length_sides}
use Rattle.plan.proofs.Coarse.{few_corners}
use Rattle.plan.proofs.coarsest.first_block.Goals as goal

pub overflow_cast-result-3 : goal.overflow_cast-result-3
overflow_cast-result-3 c =
    let s = shape c.args.base.now in
    omega (arith, ap length c.face_sizes.ensures, length-map s.faces length, c.dimensions.ensures.rules.most_faces)

pub overflow_cast-result-4 : goal.overflow_cast-result-4
overflow_cast-result-4 c =
    let s = shape c.args.base.now in
    omega (arith, ap length c.face_sides.ensures, length_sides s.faces, few_corners s c.dimensions.ensures.rules)

pub returns : goal.returns
returns c =
    let s = shape c.args.base.now in
    let faces = ap length c.face_sizes.ensures ∙ length-map s.faces length in
    let corners = ap length c.face_sides.ensures ∙ length_sides s.faces in
    λ i. record { at = 0; vertices = length (c.dimensions.ensures.value i); edges = length (c.edge_sides.ensures i); faces = faces i; corners = corners i }
