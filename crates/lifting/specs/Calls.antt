-- What a call is refused for, and what it leaves.
use Rattle.std.specs.Prelude.{ℕ, cond, List, Ok, Err, Result, ◌==◌, nat_le, nat_lt}
use Rattle.hierarchy.specs.Meaning.{Meaning}
use Rattle.refusal.specs.declared.Refusal.{Refusal}
use Rattle.refusal.specs.declared.Refusal.TheVariants.{WrongLength, NoSuchDepth}

-- the first check that fails; values of another length than there are finest vertices are refused
abbrev pub fits_then : Meaning → ℕ → Result (Unit {0}) Refusal → Result (Unit {0}) Refusal
fits_then m n next = cond (n == m.vertices m.levels) next (Err (WrongLength n))

-- at a level: it has to be below the finest
abbrev pub at_level : Meaning → ℕ → ℕ → Result (Unit {0}) Refusal
at_level m n j = fits_then m n (cond (nat_lt j m.levels) (Ok tt) (Err (NoSuchDepth j)))

-- between two depths: neither is above the finest
abbrev pub between_depths : Meaning → ℕ → ℕ → ℕ → Result (Unit {0}) Refusal
between_depths m n a b = fits_then m n (cond (nat_le a m.levels) (cond (nat_le b m.levels) (Ok tt) (Err (NoSuchDepth b))) (Err (NoSuchDepth a)))

-- a refused call leaves the values as they were
abbrev pub unless_refused : {V : Type 0} → Result (Unit {0}) Refusal → List V → List V → List V
unless_refused (Ok x) after before = after
unless_refused (Err e) after before = before
