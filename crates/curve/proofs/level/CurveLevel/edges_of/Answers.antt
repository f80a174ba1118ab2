use Rattle.std.proofs.Common.{◌-◌, [], ◌∷◌, ap, ◌∙◌, arith}
use Rattle.curve.proofs.Neighbours.{edges_at_seam, edges_at_first, edges_at_last, edges_at_inner}
use Rattle.curve.proofs.level.CurveLevel.edges_of.Goals as goal

pub returns-then-self : goal.returns-then-self
returns-then-self c =
    let here = c.args.self in
    let it = here.curve.now in
    ap (λ e. 0 ∷ (e - 1) ∷ []) c.edges-last.ensures.value
    ∙ edges_at_seam it.closed it.points it.enough here.level c.args.vertex (omega arith) c.if-self.true (omega arith)

pub returns-else-self : goal.returns-else-self
returns-else-self c =
    let here = c.args.self in
    let it = here.curve.now in
    edges_at_first it.closed it.points it.enough here.level c.args.vertex (omega arith) c.if-self.false (omega arith)

pub returns-then-position-last : goal.returns-then-position-last
returns-then-position-last c =
    let here = c.args.self in
    let it = here.curve.now in
    ap (λ e. (e - 1) ∷ []) c.edges-last.ensures.value
    ∙ edges_at_last it.closed it.points it.enough here.level c.args.vertex (omega arith) (omega arith)

pub returns : goal.returns
returns c =
    let here = c.args.self in
    let it = here.curve.now in
    ap (λ p. (p - 1) ∷ p ∷ []) c.placed-position.ensures
    ∙ edges_at_inner it.closed it.points it.enough here.level c.args.vertex (omega arith) (omega arith) (omega arith)
