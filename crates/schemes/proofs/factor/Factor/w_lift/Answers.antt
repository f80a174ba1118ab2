use Rattle.std.proofs.Common.{◌∙◌}
use Rattle.schemes.proofs.Zeros.{w_lift_leaves_vertices}
use Rattle.schemes.proofs.factor.Factor.w_lift.Goals as goal

pub returns-in-Vertex : goal.returns-in-Vertex
returns-in-Vertex c a d q w h = c.zero.ensures ∙ w_lift_leaves_vertices a c.args.class d q c.in-Vertex.is
