use Rattle.std.proofs.Common.{◌≡◌, ◌<◌, Bool, true, false, not, map, length, take, vec_items, sym, refl, ap, ◌∙◌}
use Rattle.std.proofs.lemmas.List.{get_or_read, map_more, take_all}
use Rattle.mesh.proofs.Lowests.{lowest_missing}
use Rattle.capi.specs.Records.{known, no_call, call_of}
use Rattle.capi.proofs.lists.read_calls.Goals as goal

holds : (b : Bool) → not b ≡ false → b ≡ true
holds true e = refl
holds false e = sym e

pub returns-in_default-try_from : goal.returns-in_default-try_from
returns-in_default-try_from g c =
    let read = get_or_read c.args.records.now c.loop-i.i c.index-records-i.result c.loop-i-test.true c.index-records-i.is no_call in
    let none = sym c.first_unknown.ensures ∙ c.in_default.is in
    let is_known = holds _ (lowest_missing _ (length c.args.records.now) none c.loop-i.i c.loop-i-test.true) in
    absurd (c.in_default-try_from.ensures.value (ap (λ x. known x.code) read ∙ is_known))

pub loop-i-preserved : goal.loop-i-preserved
loop-i-preserved g c =
    let here : c.loop-i.i < length c.args.records.now = c.loop-i-test.true in
    let more = map_more (call_of g.V.Crossing.arrives) c.args.records.now c.loop-i.i c.index-records-i.result here in
    let so_far : vec_items c.loop-i.calls ≡ map (call_of g.V.Crossing.arrives) (take c.loop-i.i c.args.records.now) = c.loop-i.invariant in
    let pushed = c.in_ok-push.ensures.items in
    let one = c.in-Ok.ensures.value.1 in
    let is = c.index-records-i.is in
    cc

pub returns : goal.returns
returns g c =
    (sym c.first_unknown.ensures ∙ c.in_default.is, c.loop-i.invariant ∙ ap (map (call_of g.V.Crossing.arrives)) (take_all c.loop-i.i c.args.records.now c.loop-i-test.false))
