-- The list that at most two numbers stand for.
use Rattle.std.specs.Prelude.{ℕ, List, [], ◌∷◌}
use Rattle.curve.specs.declared.few.Few.{Few}
use Rattle.curve.specs.declared.few.Few.TheVariants.{Nothing, One, Two}

abbrev pub listed : Few → List ℕ
listed Nothing = []
listed (One a) = a ∷ []
listed (Two a b) = a ∷ b ∷ []
