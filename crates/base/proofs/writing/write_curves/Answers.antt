use Rattle.std.proofs.Common.{[], ◌∷◌, get_or, vec_items, ◌∙◌}
use Rattle.std.specs.List.{flat_map}
use Rattle.std.proofs.lemmas.List.{at_drop_more, at_drop_all}
use Rattle.mesh.specs.Records.{bytes_of, curve, two_bytes}
use Rattle.mesh.specs.Shape.{nowhere}
use Rattle.base.proofs.Steps.{appended, twice_appended, all_appended}
use Rattle.base.proofs.writing.write_curves.Goals as goal

pub loop-edge-preserved : goal.loop-edge-preserved
loop-edge-preserved c =
    let step = at_drop_more (flat_map (λ s. bytes_of (curve s))) c.args.edges.now c.loop-edge.edge-index nowhere c.loop-edge-test.true in
    let e = get_or c.args.edges.now c.loop-edge.edge-index nowhere in
    let begun = twice_appended (vec_items c.loop-edge.out) (vec_items c.push.new.self) (vec_items c.write_number.new.out) (2 ∷ []) (two_bytes e.tail) c.in_ok-push.ensures.items c.in_ok-write_number.ensures in
    appended _ _ _ _ (bytes_of (curve e)) (twice_appended (vec_items c.loop-edge.out) (vec_items c.write_number.new.out) (vec_items c.write_number-in-loop-edge.new.out) (2 ∷ two_bytes e.tail) (two_bytes e.head) begun c.in_ok-write_number-2.ensures) step ∙ c.loop-edge.invariant

pub returns : goal.returns
returns c =
    let last = at_drop_all (flat_map (λ s. bytes_of (curve s))) c.args.edges.now c.loop-edge.edge-index c.loop-edge-test.false in
    all_appended _ _ _ last c.loop-edge.invariant
