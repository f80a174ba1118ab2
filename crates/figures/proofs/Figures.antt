-- Every row of the table holds, by computation.
use Rattle.std.proofs.Common.{refl}
use Rattle.mesh.specs.Lowest.{lowest}
use Rattle.mesh.specs.Reading.{records, reading}
use Rattle.mesh.specs.Shape.{firsts}
use Rattle.levels.specs.Finer.{level}
use Rattle.kinds.specs.Residues.{residue}
use Rattle.schemes.specs.Equations.{by_one, by_two}
use Rattle.schemes.specs.Fractions.{◌⊕◌, ◌⊗◌, mean}
use Rattle.schemes.specs.PointAmounts.{point_amount}
use Rattle.schemes.specs.Rounding.{rounded}
use Rattle.lifting.specs.HalfSteps.{half, analysed, synthesised}
use Rattle.lifting.specs.Travel.{travelled}
use Rattle.history.specs.Histories.{values}
use Rattle.figures.specs.Table.{EveryRowHolds}

infixr 4 ◌and◌
◌and◌ : {A B : Type 0} → A → B → A × B
a and b = (a, b)

pub every_row : EveryRowHolds
unfolding EveryRowHolds reading records level firsts lowest half analysed synthesised travelled values point_amount rounded residue by_one by_two ◌⊕◌ ◌⊗◌ mean
every_row =
    refl
    and (refl, refl, refl)
    and (refl, refl, refl)
    and (refl, refl, refl)
    and refl
    and refl
    and refl
    and refl
    and refl
    and (refl, refl, refl)
    and (refl, refl, refl)
    and (refl, refl, refl)
    and refl
    and refl
    and refl
    and refl
    and (refl, refl, refl)
    and (refl, refl, refl)
    and (refl, refl, refl)
    and (refl, refl, refl)
    and (refl, refl, refl)
    and (refl, refl, refl)
    and (refl, refl, refl)
    and (refl, refl, refl)
    and refl
    and (refl, refl, refl)
    and refl
    and refl
    and (refl, refl, refl)
    and refl
    and refl
    and refl
    and refl
    and refl
    and tt
