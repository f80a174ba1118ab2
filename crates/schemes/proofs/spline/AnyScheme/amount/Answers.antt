use Rattle.std.proofs.Common.{◌≡◌, ℕ, refl, ◌∙◌, ⊎_elim}
use Rattle.kinds.specs.declared.point.Point.{Point}
use Rattle.schemes.specs.declared.steps.Class.{Class}
use Rattle.schemes.specs.declared.steps.Step.{Step}
use Rattle.schemes.specs.declared.steps.Step.TheVariants.{First, Second, Third}
use Rattle.schemes.specs.Equations.{s_lift, w_lift, means}
use Rattle.schemes.specs.Fractions.{Fraction}
use Rattle.schemes.specs.PointAmounts.{by_coordinate, point_amount}
use Rattle.schemes.specs.Readings.{Reads}
use Rattle.schemes.proofs.spline.AnyScheme.amount.Goals as goal

module _ (factor : Step → Fraction) (s : Step) (c : Class) (d : ℕ) (q : Reads Point) where
  at_first : s ≡ First → by_coordinate (λ ns. s_lift (factor s) c d (means ns)) q ≡ point_amount factor s c d q
  unfolding point_amount
  at_first e = rw e refl

  at_second : s ≡ Second → by_coordinate (λ ns. w_lift (factor s) c d (means ns)) q ≡ point_amount factor s c d q
  unfolding point_amount
  at_second e = rw e refl

  at_third : s ≡ Third → by_coordinate (λ ns. s_lift (factor s) c d (means ns)) q ≡ point_amount factor s c d q
  unfolding point_amount
  at_third e = rw e refl

pub returns-in-First : goal.returns-in-First
returns-in-First g c q h =
    let factor = g.F.Factors.factor c.args.self.now in
    let s = c.args.step in
    let class = c.args.class in
    let d = c.args.dimension in
    c.s_lift.ensures (factor s) q c.factor-factor.ensures h ∙ ⊎_elim (at_first factor s class d q) (at_third factor s class d q) c.in-First.is

pub returns-in-Second : goal.returns-in-Second
returns-in-Second g c q h =
    let factor = g.F.Factors.factor c.args.self.now in
    let s = c.args.step in
    c.w_lift.ensures (factor s) c.args.dimension q c.factor-factor.ensures h ∙ at_second factor s c.args.class c.args.dimension q c.in-Second.is
