-- The sum of marks, and its flags.
use Rattle.std.specs.Prelude.{ℕ, ◌/◌, ◌%◌, ◌^◌, Bool, true, false, not, ◌==◌, bit_xor}
use Rattle.std.proofs.Common.{ap}
use Rattle.std.specs.Int.Bits.{xor_assoc, xor_zero_l, xor_zero_r, xor_self}
use Rattle.kinds.specs.Groups.{Group}
use Rattle.kinds.specs.declared.marks.Marks.{Marks}

abbrev of_flags : ℕ → Marks
of_flags n = record { flags = n }

-- the flags in which the two differ
abbrev pub differing : Marks → Marks → Marks
differing m n = of_flags (bit_xor m.flags n.flags)

abbrev pub unmarked : Marks
unmarked = of_flags 0

pub marks_laws : Group differing unmarked (λ m. m)
marks_laws = record {
  associative = λ x y z. ap of_flags (xor_assoc x.flags y.flags z.flags);
  zero_left = λ x. ap of_flags (xor_zero_l x.flags);
  zero_right = λ x. ap of_flags (xor_zero_r x.flags);
  opposite_left = λ x. ap of_flags (xor_self x.flags);
  opposite_right = λ x. ap of_flags (xor_self x.flags);
}

-- whether flag k is set
abbrev pub flag : Marks → ℕ → Bool
flag m k = m.flags / 2 ^ k % 2 == 1

-- one of the two, and not both
abbrev pub exactly_one : Bool → Bool → Bool
exactly_one true b = not b
exactly_one false b = b
