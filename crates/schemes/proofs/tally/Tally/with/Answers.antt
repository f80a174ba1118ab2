use Rattle.std.proofs.Common.{◌≡◌, ℕ, ◌*◌, ◌^◌, ◌<◌, ◌≤◌, ℤ, ◌+ℤ◌, nat_abs, refl, arith, w32, w64, to_z, of_z}
use lib.Signed.{mag}
use Rattle.std.proofs.lemmas.Int.{ints}
use Rattle.schemes.proofs.Tallies.{tallied_few}
use Rattle.schemes.proofs.tally.Tally.with.Goals as goal

joined : (n : ℕ) (a p r : ℤ) → n ≤ 8 → nat_abs a ≤ n * 2 ^ 31 → mag p < 2 ^ 31 → r ≡ to_z w32 (of_z w32 p) → to_z w64 (of_z w64 (to_z w64 (of_z w64 a) +ℤ to_z w64 (of_z w64 r))) ≡ a +ℤ p
joined n a p r few small fits e = omega (arith, ints)

pub returns : goal.returns
returns c ps h =
    let t = c.args.self in
    let p = c.args.p in
    let x = joined _ _ p.x _ t.few t.small.0 p.fits.0 c.from.ensures in
    let y = joined _ _ p.y _ t.few t.small.1 p.fits.1 c.from-2.ensures in
    let z = joined _ _ p.z _ t.few t.small.2 p.fits.2 c.from-3.ensures in
    tallied_few t _ p ps c.if-self-ge8.false refl x y z h
