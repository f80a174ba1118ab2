use Rattle.std.proofs.Common.{vec_items, sym}
use Rattle.std.proofs.lemmas.List.FromFn.{length-map-range_with_len}
use Rattle.plan.specs.Loaded.{at}
use Rattle.plan.proofs.questions.PlanHierarchy.list_length.Goals as goal

pub returns : goal.returns
returns c =
    let list = c.args.list in
    sym (length-map-range_with_len (at (vec_items c.args.self.now.table) list.from) 0 list.count)
