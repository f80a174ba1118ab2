use Rattle.std.proofs.Common.{◌≡◌, ℤ, ap, ◌∙◌, w32, w64, SFits, to_z, of_z}
use Rattle.std.proofs.lemmas.Int.{to_z-of_z}
use Rattle.kinds.specs.Residues.{residue}
use Rattle.kinds.specs.PointSums.{same_point}
use Rattle.kinds.proofs.Points.{modulo_of}
use Rattle.kinds.proofs.point.Point.modulo.Goals as goal

-- what goes into a call and comes out of it is read back from its bits
coordinate : {a r : ℤ} → SFits w64 a → SFits w32 r → r ≡ residue (to_z w64 (of_z w64 a)) → to_z w32 (of_z w32 r) ≡ residue a
coordinate {a} {r} f g e = to_z-of_z w32 r g ∙ e ∙ ap residue (to_z-of_z w64 a f)

pub returns : goal.returns
returns c =
    let x = coordinate c.ranges.x (record { sfits = c.residue.type_inv }) c.residue.ensures in
    let y = coordinate c.ranges.y (record { sfits = c.residue-2.type_inv }) c.residue-2.ensures in
    let z = coordinate c.ranges.z (record { sfits = c.residue-3.type_inv }) c.residue-3.ensures in
    let is = same_point x y z in
    record { value = is; modulo = modulo_of is }
