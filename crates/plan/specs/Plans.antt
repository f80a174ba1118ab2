-- What a plan means, and what planning does with the memory handed in.
use Rattle.std.specs.Prelude.{◌≡◌, ℕ, ◌≤◌, List, length, Ok, Err, vec_items, Result, slice_index}
use Rattle.refusal.specs.declared.Refusal.{Refusal}
use Rattle.hierarchy.specs.Meaning.{Meaning}
use Rattle.levels.specs.Incidence.{hierarchy}
use Rattle.levels.specs.Level.{Level}
use Rattle.levels.specs.Surfaces.{surface}
use Rattle.mesh.specs.Shape.{Shape}
use Rattle.plan.specs.declared.plan.Plan.{Plan}
use Rattle.plan.specs.Planning.{needs, tells}

abbrev pub means : Plan → Meaning
means p = tells (vec_items p.table) p.levels p.blocks

-- the plan tells these levels, in a table that had these numbers: those beyond the need stay
pub record Planned (m : Level) (levels : ℕ) (before : List ℕ) (p : Plan) : Type 0 where
  pub meaning : means p ≡ hierarchy m levels
  pub size : length (vec_items p.table) ≡ length before
  pub beyond : (i : ℕ) → needs m levels ≤ i → slice_index (vec_items p.table) i ≡ slice_index before i

-- the same of the base that was read
abbrev pub PlannedBytes : Result Shape Refusal → ℕ → List ℕ → Plan → Type 0
PlannedBytes (Ok s) levels before p = Planned (surface s) levels before p
PlannedBytes (Err e) levels before p = ⊥
