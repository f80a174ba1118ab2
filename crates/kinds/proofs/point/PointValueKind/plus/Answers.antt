use Rattle.kinds.specs.PointSums.{same_point}
use Rattle.kinds.proofs.Points.{modulo_of}
use Rattle.kinds.proofs.Wrapping.{add_residue}
use Rattle.kinds.proofs.point.PointValueKind.plus.Goals as goal

pub returns : goal.returns
returns c =
    let p = c.args.self in
    let q = c.args.other in
    let x = add_residue p.x q.x p.fits.0 q.fits.0 in
    let y = add_residue p.y q.y p.fits.1 q.fits.1 in
    let z = add_residue p.z q.z p.fits.2 q.fits.2 in
    let is = same_point x y z in
    record { value = is; modulo = modulo_of is }
