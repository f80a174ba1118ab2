-- The sum of points, coordinate by coordinate, modulo 2^32.
use mathlib.Core.HLevel.{is_prop→PathP}
use Rattle.std.specs.Prelude.{◌≡◌, ◌^◌, ◌<◌, ℤ, pos, ◌+ℤ◌, neg_ℤ}
use Rattle.std.proofs.Math.Bridge.{le_prop}
use Rattle.std.proofs.Common.{lit<}
use Rattle.std.specs.Int.Signed.{mag}
use Rattle.kinds.specs.declared.point.Point.{Point}
use Rattle.kinds.specs.Groups.{Group}
use Rattle.kinds.specs.Residues as residues
use Rattle.kinds.specs.Residues.{Residue, residue, residue_is, residue_fits, only}

-- the point of these coordinates modulo 2^32
abbrev pub modulo : ℤ → ℤ → ℤ → Point
modulo x y z = record { x = residue x; y = residue y; z = residue z; fits = (residue_fits x, residue_fits y, residue_fits z) }

abbrev pub added : Point → Point → Point
added p q = modulo (p.x +ℤ q.x) (p.y +ℤ q.y) (p.z +ℤ q.z)

abbrev pub origin : Point
origin = record { x = pos 0; y = pos 0; z = pos 0; fits = (lit< tt, lit< tt, lit< tt) }

abbrev pub opposed : Point → Point
opposed p = modulo (neg_ℤ p.x) (neg_ℤ p.y) (neg_ℤ p.z)

abbrev Fits : ℤ → ℤ → ℤ → Type 0
Fits x y z = (mag x < 2 ^ 31) × (mag y < 2 ^ 31) × (mag z < 2 ^ 31)

-- points are the same where their coordinates are
pub same_point : {p q : Point} → p.x ≡ q.x → p.y ≡ q.y → p.z ≡ q.z → p ≡ q
same_point {p} {q} x y z = λ i. record {
  x = x i;
  y = y i;
  z = z i;
  fits = is_prop→PathP (λ j. Fits (x j) (y j) (z j)) (λ j u v. λ k. (le_prop u.0 v.0 k, le_prop u.1 v.1 k, le_prop u.2 v.2 k)) p.fits q.fits i;
}

pub point_laws : Group added origin opposed
point_laws = record {
  associative = λ p q r. same_point (residues.sum_associative p.x q.x r.x) (residues.sum_associative p.y q.y r.y) (residues.sum_associative p.z q.z r.z);
  zero_left = λ p. same_point (residues.zero_left p.x p.fits.0) (residues.zero_left p.y p.fits.1) (residues.zero_left p.z p.fits.2);
  zero_right = λ p. same_point (residues.zero_right p.x p.fits.0) (residues.zero_right p.y p.fits.1) (residues.zero_right p.z p.fits.2);
  opposite_left = λ p. same_point (residues.opposite_left p.x) (residues.opposite_left p.y) (residues.opposite_left p.z);
  opposite_right = λ p. same_point (residues.opposite_right p.x) (residues.opposite_right p.y) (residues.opposite_right p.z);
}

-- each coordinate of r differs from one of these whole numbers by a multiple of 2^32
pub record Congruent (x y z : ℤ) (r : Point) : Type 0 where
  pub by_x : Residue x r.x
  pub by_y : Residue y r.y
  pub by_z : Residue z r.z

-- and r is the one point of which that holds
pub record Modulo (x y z : ℤ) (r : Point) : Type 0 where
  pub congruent : Congruent x y z r
  pub alone : (s : Point) → Congruent x y z s → s ≡ r

pub modulo_is : (x y z : ℤ) → Modulo x y z (modulo x y z)
modulo_is x y z =
    let here : Congruent x y z (modulo x y z) = record { by_x = residue_is x; by_y = residue_is y; by_z = residue_is z } in
    record { congruent = here; alone = λ s c. same_point (only c.by_x here.by_x) (only c.by_y here.by_y) (only c.by_z here.by_z) }
