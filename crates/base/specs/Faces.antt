-- The faces that a table of sides stands for.
use Rattle.std.specs.Prelude.{ℕ, List, [], ◌∷◌, map, take, drop}
use Rattle.mesh.specs.declared.Side.{Side}

-- the faces whose sides stand in a row, by their numbers of corners: a corner is the tail of its side
abbrev pub parts : List ℕ → List Side → List (List ℕ)
parts [] ss = []
parts (k ∷ ks) ss = map (λ s. s.tail) (take k ss) ∷ parts ks (drop k ss)
