use Rattle.std.proofs.Common.{◌-◌, ◌^◌, ap, ◌∙◌, w32, w64, to_z, of_z}
use lib.Bits.{bit_and}
use Rattle.std.proofs.lemmas.Int.{to_z-of_z}
use Rattle.kinds.proofs.Wrapping.{low_residue}
use Rattle.kinds.proofs.point.residue.Goals as goal

pub returns : goal.returns
returns c =
    let bits = c.cast_unsigned.ensures ∙ ap (of_z w64) (to_z-of_z w64 c.args.z c.ranges.z) in
    to_z-of_z w32 _ (record { sfits = c.cast_signed.type_inv }) ∙ c.cast_signed.ensures
    ∙ ap (λ n. to_z w32 (bit_and n (2 ^ 32 - 1))) bits ∙ low_residue c.args.z c.ranges.z
