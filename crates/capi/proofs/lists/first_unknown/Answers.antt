use Rattle.std.proofs.Common.{rules, tests, Bool, not, ◌∙◌}
use Rattle.std.proofs.lemmas.Iterator.{YieldsList-from_slice}
use Rattle.std.proofs.lemmas.Iterator.Search.{position_from_yields_List}
use Rattle.base.proofs.Searches.{lowest_position}
use Rattle.capi.specs.Records.{known, no_call}
use Rattle.capi.specs.declared.records.CallRecord.{CallRecord}
use Rattle.capi.proofs.lists.first_unknown.Goals as goal

pub returns : goal.returns
returns c =
    let unknown : CallRecord → Bool = λ r. not (known r.code) in
    position_from_yields_List unknown _ _ c.position.result c.position.ensures.ran (YieldsList-from_slice c.args.records.now (cc)) (λ x b q k. search (rules, tests))
    ∙ lowest_position unknown c.args.records.now no_call
