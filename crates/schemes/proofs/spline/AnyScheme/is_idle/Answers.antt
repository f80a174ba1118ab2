use Rattle.std.proofs.Common.{sym, subst, eqb→eq, w64, of_z}
use Rattle.schemes.specs.Fractions.{Worth}
use Rattle.schemes.proofs.Unmoved.{unmoved, stored_zero}
use Rattle.schemes.proofs.spline.AnyScheme.is_idle.Goals as goal

pub returns-clause-nothing : goal.returns-clause-nothing
returns-clause-nothing g c t class d q =
    let factor = g.F.Factors.factor c.args.self.now in
    let s = c.args.step in
    let k = c.factor.result.sixteenths in
    sym (unmoved factor s class d q (subst (λ n. Worth (factor s) n 16) (stored_zero k c.factor.result.small (eqb→eq (of_z w64 k) 0 t)) c.factor.ensures))
