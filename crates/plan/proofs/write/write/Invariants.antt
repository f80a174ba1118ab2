use Rattle.std.proofs.Common.{ℕ, ◌+◌, ◌<◌, get_or}
use Rattle.plan.specs.Giving.{Gives}
use Rattle.plan.specs.Sorting.{Keeps}
use Rattle.plan.proofs.write.write.Given as goal

abbrev pub invariant-loop-i : goal.invariant-loop-i
invariant-loop-i g l = record { written : (k : ℕ) → k < l.i → Gives g.F.Fn l.number l.initial.table l.at k (get_or l.table (l.at + k) 0); kept : Keeps l.initial.table l.table l.at (l.at + l.i) }
