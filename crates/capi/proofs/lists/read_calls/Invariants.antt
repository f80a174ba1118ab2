use Rattle.std.proofs.Common.{◌≡◌, map, take, vec_items}
use Rattle.capi.specs.Records.{call_of}
use Rattle.capi.proofs.lists.read_calls.Given as goal

abbrev pub invariant-loop-i : goal.invariant-loop-i
invariant-loop-i g l = vec_items l.calls ≡ map (call_of g.V.Crossing.arrives) (take l.i l.records)
