-- The amounts of a pair of schemes, part by part.
use Rattle.kinds.specs.PairSums.{pair}
use Rattle.kinds.specs.declared.pair.Pair.{Pair}
use Rattle.schemes.specs.Readings.{Reads, parts}

abbrev pub firsts : {A B : Type 0} → Reads (Pair A B) → Reads A
firsts q = parts (λ v. v.first) q

abbrev pub seconds : {A B : Type 0} → Reads (Pair A B) → Reads B
seconds q = parts (λ v. v.second) q

-- each part of the sum holds its part of the values
abbrev pub both_hold : {A B S T : Type 0} → (S → Reads A → Type 0) → (T → Reads B → Type 0) → Pair S T → Reads (Pair A B) → Type 0
both_hold f g s q = f s.first (firsts q) × g s.second (seconds q)

abbrev pub both_amounts : {A B : Type 0} → (Reads A → A) → (Reads B → B) → Reads (Pair A B) → Pair A B
both_amounts f g q = pair (f (firsts q)) (g (seconds q))
