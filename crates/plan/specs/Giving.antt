-- What a closure gives for one number after the other, as they are written.
use Rattle.std.specs.Prelude.{ℕ, ◌+◌, List}
use Rattle.std.specs.Borrow.{Bor}
use Rattle.std.specs.Fn.{Shared}
use Rattle.plan.specs.Sorting.{Keeps}

-- number i may be r, from a table that is as it was but for the numbers before it
pub record Gives {F : Type 0} (g : Shared F (Bor (List ℕ) × (ℕ × Unit {0})) ℕ) (number : F) (t : List ℕ) (at i r : ℕ) : Type 0 where
  pub table : Bor (List ℕ)
  pub kept : Keeps t table.now at (at + i)
  pub says : g.post number (table, (i, tt)) r
