-- What a line says, by its words. Assumes nothing.
use Rattle.std.specs.Prelude.{ℕ, Bool, false, cond, List, [], ◌∷◌, length, codes, ◌==◌}
use Rattle.std.specs.Str.{bytes_eq}

pub data Meaning : Type 0 where
  -- the line is passed over
  nothing : Meaning
  -- read the base in the file of this name
  base : List ℕ → Meaning
  -- no command begins with this word
  unknown : List ℕ → Meaning
  -- the command is written so, and the line has this number of words
  wrong_count : List ℕ → ℕ → Meaning

-- the word begins with '#'
abbrev pub comment : List ℕ → Bool
comment [] = false
comment (b ∷ w) = b == 35

-- n is the number of all words of the line, and the list has those after the command's
abbrev pub base_of : ℕ → List (List ℕ) → Meaning
base_of n [] = wrong_count (codes "base FILE") n
base_of n (file ∷ []) = base file
base_of n (file ∷ w ∷ ws) = wrong_count (codes "base FILE") n

abbrev pub meaning_of : ℕ → List (List ℕ) → Meaning
meaning_of n [] = nothing
meaning_of n (w ∷ ws) = cond (comment w) nothing (cond (bytes_eq w (codes "base")) (base_of n ws) (unknown w))

abbrev pub meaning : List (List ℕ) → Meaning
meaning ws = meaning_of (length ws) ws
