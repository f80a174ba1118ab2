use Rattle.std.proofs.Common.{◌≡◌, ◌+◌, not, List, get_or, drop, is_some, vec_items, fold, sym, ap, ◌∙◌}
use Rattle.mesh.specs.declared.Side.{Side}
use Rattle.std.proofs.lemmas.List.{at_drop_more, at_drop_all}
use Rattle.mesh.specs.Shape.{with_side, edge_of, nowhere}
use Rattle.base.proofs.Steps.{with_known, with_new}
use Rattle.base.proofs.sides.number_edges.Goals as goal
use Rattle.base.proofs.sides.number_edges.Goals.{then-is_none+in_ok-push, else-is_none}

pub loop-side-preserved : goal.loop-side-preserved
loop-side-preserved c =
    let es = vec_items c.loop-side.edges in
    let s = get_or c.args.sides.now c.loop-side.side-index nowhere in
    let step = at_drop_more (fold with_side es) c.args.sides.now c.loop-side.side-index nowhere c.loop-side-test.true in
    let on = λ (l : List Side). fold with_side l (drop (c.loop-side.side-index + 1) c.args.sides.now) in
    let told : is_some (edge_of es s) ≡ not c.is_none.result = ap (λ l. is_some (edge_of l s)) (sym c.deref.ensures.value) ∙ ap is_some (sym c.find_edge.ensures) ∙ c.is_none.ensures in
    elim c.if-is_none.branch [
      | then-is_none+in_ok-push w ↦ ap (λ v. on (vec_items v)) w.edges-is ∙ ap on (w.in_ok-push.ensures.items ∙ sym (with_new es s (told ∙ ap not w.if-is_none.true))) ∙ sym step ∙ c.loop-side.invariant
      | else-is_none w ↦ ap (λ v. on (vec_items v)) w.edges-is ∙ ap on (sym (with_known es s (told ∙ ap not w.if-is_none.false))) ∙ sym step ∙ c.loop-side.invariant
    ]

pub returns : goal.returns
returns c =
    sym (at_drop_all (fold with_side (vec_items c.loop-side.edges)) c.args.sides.now c.loop-side.side-index c.loop-side-test.false) ∙ c.loop-side.invariant
