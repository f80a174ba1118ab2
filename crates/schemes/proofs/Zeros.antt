-- Where an equation gives 0, the point is the origin.
use Rattle.std.proofs.Common.{◌≡◌, ℕ, ℤ, pos, sym, refl}
use Rattle.kinds.specs.PointSums.{modulo, origin, same_point}
use Rattle.kinds.specs.Residues.{residue}
use Rattle.std.proofs.lemmas.Bool.{ne_eqb}
use Rattle.kinds.specs.declared.point.Point.{Point}
use Rattle.schemes.specs.declared.steps.Class.{Class}
use Rattle.schemes.specs.declared.steps.Class.TheVariants.{Vertex, Edge, Face}
use Rattle.schemes.specs.Equations.{s_lift, w_lift, means}
use Rattle.schemes.specs.Fractions.{Fraction, whole}
use Rattle.schemes.specs.PointAmounts.{by_coordinate}
use Rattle.schemes.specs.Readings.{Reads}
use Rattle.schemes.specs.Rounding.{rounded}
use Rattle.schemes.proofs.Roundings.{rounded_whole}

zero_residue : (z : ℤ) → z ≡ pos 0 → residue z ≡ pos 0
unfolding residue
zero_residue z e = rw e refl

pub zero_point : (x y z : ℤ) → x ≡ pos 0 → y ≡ pos 0 → z ≡ pos 0 → origin ≡ modulo x y z
zero_point x y z e f g = same_point (sym (zero_residue x e)) (sym (zero_residue y f)) (sym (zero_residue z g))

pub nothing_added : origin ≡ modulo (rounded (whole (pos 0))) (rounded (whole (pos 0))) (rounded (whole (pos 0)))
nothing_added = let z = rounded_whole (pos 0) in zero_point _ _ _ z z z

-- what a lift leaves as it was
pub s_lift_leaves_vertices : (a : Fraction) (c : Class) (d : ℕ) (q : Reads Point) → c ≡ Vertex → (d ≡ 2 → ⊥) → (d ≡ 1 → ⊥) → origin ≡ by_coordinate (λ ns. s_lift a c d (means ns)) q
s_lift_leaves_vertices a c d q e two one = rw (e, ne_eqb d 2 two, ne_eqb d 1 one) nothing_added

pub s_lift_leaves_edges : (a : Fraction) (c : Class) (d : ℕ) (q : Reads Point) → c ≡ Edge → (d ≡ 2 → ⊥) → origin ≡ by_coordinate (λ ns. s_lift a c d (means ns)) q
s_lift_leaves_edges a c d q e two = rw (e, ne_eqb d 2 two) nothing_added

pub s_lift_leaves_faces : (a : Fraction) (c : Class) (d : ℕ) (q : Reads Point) → c ≡ Face → origin ≡ by_coordinate (λ ns. s_lift a c d (means ns)) q
s_lift_leaves_faces a c d q e = rw e nothing_added

pub w_lift_leaves_vertices : (a : Fraction) (c : Class) (d : ℕ) (q : Reads Point) → c ≡ Vertex → origin ≡ by_coordinate (λ ns. w_lift a c d (means ns)) q
w_lift_leaves_vertices a c d q e = rw e nothing_added
