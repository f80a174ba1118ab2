-- The starting base keeps the rules, since its records are read as that base. Assumes nothing.
use Rattle.std.proofs.Common.{◌≡◌, List, [], ◌∷◌, Ok, refl}
use Rattle.mesh.specs.declared.Side.{Side}
use Rattle.mesh.specs.Lowest.{lowest}
use Rattle.mesh.specs.Reading.{reading, records}
use Rattle.mesh.specs.Records.{written}
use Rattle.mesh.specs.Rules.{Rules}
use Rattle.mesh.specs.Shape.{side, edges, firsts, starting}
use Rattle.mesh.proofs.ReadsWritings.{reads_writings}
use Rattle.base.specs.Faces.{parts}

abbrev pub round : List Side
round = side 0 1 ∷ side 1 2 ∷ side 2 0 ∷ []

pub round_edges : round ≡ edges (parts (3 ∷ []) round)
unfolding firsts lowest
round_edges = refl

starting_read : reading (written starting) ≡ Ok starting
unfolding reading records firsts lowest
starting_read = refl

pub starting_rules : Rules starting
starting_rules = (reads_writings (written starting) starting starting_read).0
