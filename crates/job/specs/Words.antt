-- The words of a line: its longest runs of bytes that are no spaces. Assumes nothing.
use Rattle.std.specs.Prelude.{◌≡◌, ℕ, ◌<◌, cond, List, [], ◌∷◌, ◌++◌, length, ◌==◌, ◌≢◌}
use Rattle.std.specs.List.{AllByRecursion}

abbrev pub space : ℕ
space = 32

-- the word w, or none if it is empty
abbrev pub unless_empty : List ℕ → List (List ℕ)
unless_empty [] = []
unless_empty (b ∷ w) = (b ∷ w) ∷ []

-- the words of w and bs together, where w holds no space
abbrev pub words_from : List ℕ → List ℕ → List (List ℕ)
words_from w [] = unless_empty w
words_from w (b ∷ bs) = cond (b == space) (unless_empty w ++ words_from [] bs) (words_from (w ++ b ∷ []) bs)

unfoldable pub words : List ℕ → List (List ℕ)
words bs = words_from [] bs

abbrev pub Spaces : List ℕ → Type 0
Spaces bs = AllByRecursion (λ b. b ≡ space) bs

-- bs ends, or goes on with a space
abbrev pub Breaks : List ℕ → Type 0
Breaks [] = Unit {0}
Breaks (b ∷ bs) = b ≡ space

-- a word is not empty and holds no space
pub record Word (w : List ℕ) : Type 0 where
  pub some : 0 < length w
  pub solid : AllByRecursion (λ b. b ≢ space) w

-- bs is spaces, the word w, and then rest
pub record First (bs w rest : List ℕ) : Type 0 where
  pub gap : List ℕ
  pub cut : bs ≡ gap ++ (w ++ rest)
  pub blank : Spaces gap
  pub word : Word w
  pub whole : Breaks rest

-- ws are the words of bs, in their order, and between them are spaces alone
abbrev pub Cut : List ℕ → List (List ℕ) → Type 0
Cut bs [] = Spaces bs
Cut bs (w ∷ ws) = (rest : List ℕ) × First bs w rest × Cut rest ws
