-- From the records to what reading gives. Assumes nothing.
use Rattle.std.proofs.Common.{◌≡◌, ℕ, ◌-◌, ◌<◌, List, [], ◌∷◌, length, Ok, Err, Result, arith}
use Rattle.refusal.specs.declared.Fault.{Fault}
use Rattle.refusal.specs.declared.Fault.TheVariants.{Refused, Memory}
use Rattle.refusal.specs.declared.Refusal.{Refusal}
use Rattle.refusal.specs.declared.Refusal.TheVariants.{TrailingByte}
use Rattle.mesh.specs.Reading.{Draft, blank, records, finished, checked, reading}
use Rattle.base.specs.Drafts.{Failed}

-- a refusal that passes on unchanged
pub passed_on : {A B : Type 0} (f : Fault) (r : Result A Refusal) (s : Result B Refusal) → ((x : Refusal) → r ≡ Err x → s ≡ Err x) → Failed f r → Failed f s
passed_on (Refused x) r s h e = h x e
passed_on Memory r s h e = tt

module _ (bs : List ℕ) where
  pub stopped : (x : Refusal) → records (length bs) 0 blank bs ≡ Err x → reading bs ≡ Err x
  unfolding reading
  stopped x e = rw e

  pub trailed : (d : Draft) (rest : List ℕ) → records (length bs) 0 blank bs ≡ Ok (d, rest) → 0 < length rest → reading bs ≡ Err (TrailingByte (length bs - length rest))
  unfolding reading
  trailed d [] e l = absurd (omega arith)
  trailed d (b ∷ rest) e l = rw e

  pub whole : (d : Draft) (rest : List ℕ) → records (length bs) 0 blank bs ≡ Ok (d, rest) → length rest ≡ 0 → reading bs ≡ checked (finished d)
  unfolding reading
  whole d [] e l = rw e
  whole d (b ∷ rest) e l = absurd (omega arith)
