-- Straight travel between depths, and the laws of the transform.
use Rattle.std.specs.Prelude.{◌≡◌, ℕ, zero, suc, cond, List, nat_le}
use Rattle.hierarchy.specs.Meaning.{Meaning}
use Rattle.lifting.specs.HalfSteps.{Rule, analysed, synthesised}

-- analyses alone, at the levels from − 1 down to to
abbrev pub descended : {V : Type 0} → Meaning → Rule V → ℕ → ℕ → List V → List V
descended m r zero to vs = vs
descended m r (suc from) to vs = cond (nat_le to from) (descended m r from to (analysed m r from vs)) vs

-- syntheses alone, at the levels from up to to − 1
abbrev pub climbed : {V : Type 0} → Meaning → Rule V → ℕ → ℕ → List V → List V
climbed m r from zero vs = vs
climbed m r from (suc to) vs = cond (nat_le from to) (synthesised m r to (climbed m r from to vs)) vs

unfoldable pub travelled : {V : Type 0} → Meaning → Rule V → ℕ → ℕ → List V → List V
travelled m r from to vs = cond (nat_le to from) (descended m r from to vs) (climbed m r from to vs)

-- at a level, synthesis takes back analysis, and analysis takes back synthesis, whatever the values
abbrev pub Undone : {V : Type 0} → Meaning → Rule V → ℕ → Type 0
Undone {V} m r j = (vs : List V) → (synthesised m r j (analysed m r j vs) ≡ vs) × (analysed m r j (synthesised m r j vs) ≡ vs)

-- to travel by way of another depth is to travel straight
abbrev pub Straight : {V : Type 0} → Meaning → Rule V → Type 0
Straight {V} m r = (a b c : ℕ) (vs : List V) → travelled m r b c (travelled m r a b vs) ≡ travelled m r a c vs

-- to travel to another depth and back changes nothing
abbrev pub Returned : {V : Type 0} → Meaning → Rule V → Type 0
Returned {V} m r = (a b : ℕ) (vs : List V) → travelled m r b a (travelled m r a b vs) ≡ vs
