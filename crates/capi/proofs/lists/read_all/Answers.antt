use Rattle.std.proofs.Common.{rules}
use Rattle.std.proofs.lemmas.Iterator.{items_from_collect, YieldsList-from_map, YieldsList-from_slice}
use Rattle.capi.proofs.lists.read_all.Goals as goal

pub returns : goal.returns
returns g c =
    λ f same. items_from_collect _ c.collect.ensures.ran (YieldsList-from_map _ f (YieldsList-from_slice c.args.records.now cc) c.map.ensures.closure (λ x r q k. search (rules, same)))
