use Rattle.std.proofs.Common.{◌≡◌, ◌∙◌, rules}
use Rattle.schemes.proofs.Zeros.{s_lift_leaves_vertices, s_lift_leaves_edges, s_lift_leaves_faces}
use Rattle.schemes.proofs.factor.Factor.s_lift.Goals as goal

pub returns-in_default : goal.returns-in_default
returns-in_default c a q w h =
    let two : c.args.dimension ≡ 2 → ⊥ = search rules in
    let one : c.args.dimension ≡ 1 → ⊥ = search rules in
    c.zero.ensures ∙ s_lift_leaves_vertices a c.args.class c.args.dimension q c.in-Vertex.is two one

pub returns-in_default-dimension : goal.returns-in_default-dimension
returns-in_default-dimension c a q w h =
    let two : c.args.dimension ≡ 2 → ⊥ = search rules in
    c.zero-in_default-dimension.ensures ∙ s_lift_leaves_edges a c.args.class c.args.dimension q c.in-Edge.is two

pub returns-in-Face : goal.returns-in-Face
returns-in-Face c a q w h = c.zero-in-Face.ensures ∙ s_lift_leaves_faces a c.args.class c.args.dimension q c.in-Face.is
