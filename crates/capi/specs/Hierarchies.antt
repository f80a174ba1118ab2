-- Which hierarchy the bytes of a base, or the description of a curve, give.
use Rattle.std.specs.Prelude.{ℕ, Bool, List, Ok, Result}
use Rattle.refusal.specs.declared.Refusal.{Refusal}
use Rattle.hierarchy.specs.Meaning.{Meaning}
use Rattle.mesh.specs.Reading.{reading, unless, then}
use Rattle.mesh.specs.Shape.{Shape}
use Rattle.levels.specs.Curves.{curve_level}
use Rattle.levels.specs.Incidence.{hierarchy}
use Rattle.levels.specs.Surfaces.{surface}
use Rattle.plan.specs.Planning.{need}
use Rattle.curve.specs.Made.{refused}

-- how many numbers its plan takes
abbrev pub base_need : List ℕ → ℕ → Result ℕ Refusal
base_need bytes levels = then (reading bytes) (λ s. need (surface s) levels)

abbrev pub shape_hierarchy : ℕ → Shape → Result Meaning Refusal
shape_hierarchy levels s = then (need (surface s) levels) (λ n. Ok (hierarchy (surface s) levels))

abbrev pub base_hierarchy : List ℕ → ℕ → Result Meaning Refusal
base_hierarchy bytes levels = then (reading bytes) (shape_hierarchy levels)

abbrev pub curve_hierarchy : Bool → ℕ → ℕ → Result Meaning Refusal
curve_hierarchy closed points levels = unless (refused closed points levels) (Ok (hierarchy (curve_level closed points) levels))

-- how many places there are
abbrev pub places : Result Meaning Refusal → Result ℕ Refusal
places h = then h (λ m. Ok (m.vertices m.levels))
