-- The amounts for marks: in step 2 the flags that all vertices read have in common.
use Rattle.std.specs.Prelude.{◌≡◌, ℕ, ◌-◌, ◌^◌, Bool, true, false, ◌&&◌, List, [], ◌∷◌, length, fold, bit_and}
use Rattle.kinds.specs.MarkSums.{unmarked, flag}
use Rattle.kinds.specs.declared.marks.Marks.{Marks}
use Rattle.schemes.specs.declared.marks_scheme.MarksSum.{MarksSum}
use Rattle.schemes.specs.declared.steps.Step.{Step}
use Rattle.schemes.specs.declared.steps.Step.TheVariants.{First, Second, Third}
use Rattle.schemes.specs.Readings.{Reads}

-- what is left of some flags
abbrev pub within : ℕ → List Marks → ℕ
within flags ms = fold (λ f m. bit_and f m.flags) flags ms

-- nothing, of no marks
abbrev pub in_common : List Marks → Marks
in_common [] = unmarked
in_common (m ∷ ms) = record { flags = within m.flags ms }

abbrev pub marks_amount : Step → Reads Marks → Marks
marks_amount First q = unmarked
marks_amount Second q = in_common q.vertices
marks_amount Third q = unmarked

-- the idle steps
abbrev pub marks_rest : Step → Bool
marks_rest First = true
marks_rest Second = false
marks_rest Third = true

-- whether each of the marks has flag k
abbrev pub each_has : ℕ → List Marks → Bool
each_has k [] = true
each_has k (m ∷ ms) = flag m k && each_has k ms

-- and there are any
abbrev pub all_have : ℕ → List Marks → Bool
all_have k [] = false
all_have k (m ∷ ms) = each_has k (m ∷ ms)

-- whether a step adds flag k
abbrev pub adds_flag : Step → ℕ → List Marks → Bool
adds_flag First k ms = false
adds_flag Second k ms = all_have k ms
adds_flag Third k ms = false

-- the sum is of these marks: all flags, of no marks
abbrev pub shared : List Marks → ℕ
shared [] = 2 ^ 32 - 1
shared (m ∷ ms) = within m.flags ms

pub record Marked (s : MarksSum) (q : Reads Marks) : Type 0 where
  pub counted : s.count ≡ length q.vertices
  pub common : s.common ≡ shared q.vertices
