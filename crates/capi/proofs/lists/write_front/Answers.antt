use Rattle.std.proofs.Common.{◌≡◌, ◌++◌, ◌<◌, map, length, take, drop, ap, ◌∙◌, subst, arith}
use Rattle.std.proofs.lemmas.List.{take_all}
use Rattle.capi.proofs.Fronts.{front_more}
use Rattle.capi.proofs.lists.write_front.Goals as goal

pub loop-i-preserved : goal.loop-i-preserved
loop-i-preserved g c = λ f same.
    let here : c.loop-i.i < length c.args.items.now = omega arith in
    let room : c.loop-i.i < length c.args.records.now = omega arith in
    rw (same _ _ c.from.ensures) (front_more f c.args.items.now c.args.records.now c.loop-i.records c.loop-i.i c.index-items-i.result here room c.index-items-i.is (c.loop-i.invariant f same))

pub returns : goal.returns
returns g c = λ f same.
    let items = c.args.items.now in
    let all : c.loop-i.i ≡ length items = omega arith in
    subst (λ n. c.loop-i.records ≡ map f (take n items) ++ drop n c.args.records.now) all (c.loop-i.invariant f same)
    ∙ ap (λ xs. map f xs ++ drop (length items) c.args.records.now) (take_all (length items) items (omega arith))
