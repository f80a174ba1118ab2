-- What is printed of a refusal: its row of the table, with the number first. Assumes nothing.
use Rattle.std.specs.Prelude.{ℕ, List, ◌++◌, codes, decimal}
use Rattle.refusal.specs.declared.Fault.{Fault}
use Rattle.refusal.specs.declared.Fault.TheVariants.{Refused, Memory}
use Rattle.refusal.specs.declared.Refusal.{Refusal}
use Rattle.refusal.specs.Table.{row}

abbrev pub printed : Refusal → List ℕ
printed x = codes "refused " ++ (decimal (row x).number ++ (codes " " ++ decimal (row x).value))

-- want of memory stands outside the table
abbrev pub printed_fault : Fault → List ℕ
printed_fault (Refused x) = printed x
printed_fault Memory = codes "out of memory"
