-- Planning: which table a base needs, and what a plan tells.
use Rattle.std.specs.Prelude.{ℕ, zero, suc, ◌+◌, ◌*◌, false, cond, ltb, List, [], length, Some, None, Ok, Err, Option, Result, nat_le, nat_lt, slice_index_or}
use Rattle.refusal.specs.declared.Refusal.{Refusal}
use Rattle.refusal.specs.declared.Refusal.TheVariants.{LevelCount, TooFine, TableTooShort}
use Rattle.hierarchy.specs.Limits.{has_levels}
use Rattle.hierarchy.specs.Meaning.{Meaning}
use Rattle.mesh.specs.Lowest.{lowest}
use Rattle.mesh.specs.Reading.{reading, unless, then}
use Rattle.mesh.specs.Shape.{Shape, edges, corners}
use Rattle.levels.specs.Level.{Level}
use Rattle.levels.specs.Finer.{level}
use Rattle.levels.specs.Surfaces.{surface}
use Rattle.plan.specs.declared.block.Block.{Block}
use Rattle.plan.specs.Loaded.{loaded, loaded_curve, loaded_dimension}
use Rattle.plan.specs.Written.{next}

-- how many corners so many levels have, from the coarsest on
abbrev pub corner_total : Level → ℕ → ℕ
corner_total m zero = 0
corner_total m (suc j) = corner_total m j + (level m j).corners

-- how many numbers the levels below the finest take
abbrev pub needs : Level → ℕ → ℕ
needs m levels = 16 * corner_total m levels

abbrev pub bad_levels : ℕ → Option Refusal
bad_levels levels = cond (has_levels levels) None (Some (LevelCount levels))

abbrev pub over : Option ℕ → Option Refusal
over None = None
over (Some j) = Some (TooFine j)

-- the first level with more than 65,536 vertices
abbrev pub too_fine : Level → ℕ → Option Refusal
too_fine m levels = over (lowest (λ j. ltb 65536 (level m j).vertices) (levels + 1))

-- the need, or why there can be no plan
abbrev pub need : Level → ℕ → Result ℕ Refusal
need m levels = unless (bad_levels levels) (unless (too_fine m levels) (Ok (needs m levels)))

-- where a table has so many numbers and is to have n: how many vertices the finest level has, unless it is too short
abbrev pub in_table : Level → ℕ → ℕ → ℕ → Result ℕ Refusal
in_table m levels given n = cond (nat_lt given n) (Err (TableTooShort n)) (Ok (level m levels).vertices)

-- what planning into a table of so many numbers answers
abbrev pub planned : Level → ℕ → ℕ → Result ℕ Refusal
planned m levels given = then (need m levels) (in_table m levels given)

-- the same from the bytes of a base: what the reader refuses comes first
abbrev pub planned_bytes : List ℕ → ℕ → ℕ → Result ℕ Refusal
planned_bytes bytes levels given = then (reading bytes) (λ s. planned (surface s) levels given)

abbrev pub no_block : Block
no_block = record { at = 0; vertices = 0; edges = 0; faces = 0; corners = 0 }

abbrev pub block_of : List Block → ℕ → Block
block_of bs j = slice_index_or bs j no_block

-- the coarsest level's block stands first, and each finer one's behind it
abbrev pub first_block : Shape → Block
first_block s = record { at = 0; vertices = length s.dims; edges = length (edges s.faces); faces = length s.faces; corners = length (corners s.faces) }

unfoldable pub block_at : Block → ℕ → Block
block_at b zero = b
block_at b (suc j) = next (block_at b j)

-- what a table tells of so many levels, by their blocks
abbrev pub tells : List ℕ → ℕ → List Block → Meaning
tells t levels bs = record {
  levels = levels;
  vertices = λ j. cond (nat_le j levels) (block_of bs j).vertices 0;
  edges = λ j. cond (nat_le j levels) (block_of bs j).edges 0;
  faces = λ j. cond (nat_le j levels) (block_of bs j).faces 0;
  list = λ j link i. cond (nat_lt j levels) (loaded t (block_of bs j) link i) [];
  curve = λ j e. cond (nat_lt j levels) (loaded_curve t (block_of bs j) e) false;
  dimension = λ j v. cond (nat_lt j levels) (loaded_dimension t (block_of bs j) v) 0;
}
