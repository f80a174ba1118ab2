use Rattle.std.proofs.Common.{◌≡◌, ◌++◌, map, take, drop}
use Rattle.capi.specs.Records.{Computes}
use Rattle.capi.proofs.lists.write_front.Given as goal

abbrev pub invariant-loop-i : goal.invariant-loop-i
invariant-loop-i g l =
    (f : g.row.T.Denot → g.row.R.Denot) → Computes g.R.From.from_gives f → l.records ≡ map f (take l.i l.items) ++ drop l.i l.initial.records
