-- A step with factor 0 adds nothing.
use Rattle.std.proofs.Common.{◌≡◌, ℕ, ◌≤◌, eqb, ℤ, pos, ◌*ℤ◌, nat_abs, ap, ◌∙◌, arith, w64, of_z}
use lib.IntN.{zero-*ℤ}
use Rattle.std.proofs.lemmas.Int.{ints}
use Rattle.std.proofs.lemmas.Bool.{cond_both}
use Rattle.kinds.specs.PointSums.{origin}
use Rattle.kinds.specs.declared.point.Point.{Point}
use Rattle.schemes.specs.declared.steps.Class.{Class}
use Rattle.schemes.specs.declared.steps.Class.TheVariants.{Vertex, Edge, Face}
use Rattle.schemes.specs.declared.steps.Step.{Step}
use Rattle.schemes.specs.declared.steps.Step.TheVariants.{First, Second, Third}
use Rattle.schemes.specs.Equations.{by_one, by_two, s_lift, w_lift, lift, Means, means}
use Rattle.schemes.specs.Fractions.{Fraction, Same, Worth, whole, ◌⊕◌, ◌⊗◌}
use Rattle.schemes.specs.PointAmounts.{point_amount}
use Rattle.schemes.specs.Readings.{Reads, parts}
use Rattle.schemes.specs.Rounding.{rounded}
use Rattle.schemes.proofs.Roundings.{rounded_same, rounded_whole}
use Rattle.schemes.proofs.Zeros.{zero_point}

-- 0 over anything rounds to 0
null : (q : Fraction) → q.over ≡ pos 0 → rounded q ≡ pos 0
null q e =
    let same : Same q (whole (pos 0)) = rw e (omega (arith, ints)) in
    rounded_same q (whole (pos 0)) same ∙ rounded_whole (pos 0)

module _ (a : Fraction) (e : a.over ≡ pos 0) where
  one_null : (m : Fraction) → rounded (by_one a m) ≡ pos 0
  unfolding by_one ◌⊗◌
  one_null m = null (by_one a m) (rw e (zero-*ℤ m.over))

  two_null : (m n : Fraction) → rounded (by_two a m n) ≡ pos 0
  unfolding by_two ◌⊗◌ ◌⊕◌
  two_null m n =
      let left : (pos 4 *ℤ (a.over *ℤ a.over)) *ℤ m.over ≡ pos 0 = rw e (zero-*ℤ m.over) in
      let right : (pos 4 *ℤ a.over) *ℤ n.over ≡ pos 0 = rw e (zero-*ℤ n.over) in
      null (by_two a m n) (rw (left, right) (ap pos (omega arith)))

  s_null : (c : Class) (d : ℕ) (m : Means) → rounded (s_lift a c d m) ≡ pos 0
  s_null Vertex d m =
      cond_both (eqb d 2) _ _ (λ q. rounded q ≡ pos 0) (λ _. two_null m.faces m.edges)
      (λ _. cond_both (eqb d 1) _ _ (λ q. rounded q ≡ pos 0) (λ _. one_null m.edges) (λ _. rounded_whole (pos 0)))
  s_null Edge d m = cond_both (eqb d 2) _ _ (λ q. rounded q ≡ pos 0) (λ _. one_null m.faces) (λ _. rounded_whole (pos 0))
  s_null Face d m = rounded_whole (pos 0)

  w_null : (c : Class) (d : ℕ) (m : Means) → rounded (w_lift a c d m) ≡ pos 0
  w_null Vertex d m = rounded_whole (pos 0)
  w_null Edge d m = one_null m.vertices
  w_null Face d m = two_null m.vertices m.edges

lift_null : (factor : Step → Fraction) (s : Step) (c : Class) (d : ℕ) (m : Means) → (factor s).over ≡ pos 0 → rounded (lift factor s c d m) ≡ pos 0
lift_null factor First c d m e = s_null (factor First) e c d m
lift_null factor Second c d m e = w_null (factor Second) e c d m
lift_null factor Third c d m e = s_null (factor Third) e c d m

pub unmoved : (factor : Step → Fraction) (s : Step) (c : Class) (d : ℕ) (q : Reads Point) → Worth (factor s) (pos 0) 16 → origin ≡ point_amount factor s c d q
unfolding point_amount
unmoved factor s c d q w =
    let e : (factor s).over ≡ pos 0 = omega (arith, ints) in
    zero_point _ _ _ (lift_null factor s c d (means (parts (λ p. p.x) q)) e) (lift_null factor s c d (means (parts (λ p. p.y) q)) e) (lift_null factor s c d (means (parts (λ p. p.z) q)) e)

pub stored_zero : (k : ℤ) → nat_abs k ≤ 16 → of_z w64 k ≡ 0 → k ≡ pos 0
stored_zero k h e = omega (arith, ints)
