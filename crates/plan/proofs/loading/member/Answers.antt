use Rattle.std.proofs.Common.{sym, ◌∙◌, arith}
use Rattle.std.proofs.lemmas.List.FromFn.{length-map-range_with_len, get_or-map-range_with_len}
use Rattle.std.proofs.lemmas.List.{get_or_past}
use Rattle.plan.specs.Loaded.{at, listed}
use Rattle.plan.proofs.loading.member.Goals as goal

pub returns-then-k-list : goal.returns-then-k-list
returns-then-k-list c =
    let k = c.args.k in
    let list = c.args.list in
    c.load.ensures.value ∙ sym (get_or-map-range_with_len (at c.args.table.now list.from) 0 list.count k k 0 c.if-k-list.true (omega arith))

pub returns-else-k-list : goal.returns-else-k-list
returns-else-k-list c =
    let t = c.args.table.now in
    let list = c.args.list in
    sym (get_or_past (listed t list) c.args.k 0 (omega (arith, length-map-range_with_len (at t list.from) 0 list.count, c.if-k-list.false)))
