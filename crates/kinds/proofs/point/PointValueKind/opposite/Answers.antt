use Rattle.std.proofs.Common.{◌≡◌, ◌-◌, ◌%◌, ◌^◌, ◌<◌, ℤ, neg_ℤ, ◌∙◌, w32, SFits, to_z, of_z}
use lib.Signed.{mag}
use Rattle.std.proofs.lemmas.Int.{to_z-of_z}
use Rattle.kinds.specs.Residues.{residue}
use Rattle.kinds.specs.PointSums.{same_point}
use Rattle.kinds.proofs.Points.{modulo_of}
use Rattle.kinds.proofs.Wrapping.{neg_residue}
use Rattle.kinds.proofs.point.PointValueKind.opposite.Goals as goal

-- what goes into a call and comes out of it is read back from its bits
coordinate : (a : ℤ) {r : ℤ} → mag a < 2 ^ 31 → SFits w32 r → r ≡ to_z w32 ((2 ^ 32 - of_z w32 (to_z w32 (of_z w32 a))) % 2 ^ 32) → to_z w32 (of_z w32 r) ≡ residue (neg_ℤ a)
coordinate a {r} f g e = to_z-of_z w32 r g ∙ e ∙ neg_residue a f

pub returns : goal.returns
returns c =
    let p = c.args.self in
    let x = coordinate p.x p.fits.0 (record { sfits = c.wrapping_neg.type_inv }) c.wrapping_neg.ensures in
    let y = coordinate p.y p.fits.1 (record { sfits = c.wrapping_neg-2.type_inv }) c.wrapping_neg-2.ensures in
    let z = coordinate p.z p.fits.2 (record { sfits = c.wrapping_neg-3.type_inv }) c.wrapping_neg-3.ensures in
    let is = same_point x y z in
    record { value = is; modulo = modulo_of is }
