use Rattle.std.proofs.Common.{[], ◌∷◌, get_or, vec_items, ◌∙◌}
use Rattle.std.specs.List.{flat_map}
use Rattle.std.proofs.lemmas.List.{at_drop_more, at_drop_all}
use Rattle.mesh.specs.Records.{bytes_of, vertex}
use Rattle.base.proofs.Steps.{appended, twice_appended, all_appended}
use Rattle.base.proofs.writing.write_vertices.Goals as goal

pub loop-dimension-preserved : goal.loop-dimension-preserved
loop-dimension-preserved c =
    let step = at_drop_more (flat_map (λ d. bytes_of (vertex d))) c.args.dims.now c.loop-dimension.dimension-index 0 c.loop-dimension-test.true in
    let d = get_or c.args.dims.now c.loop-dimension.dimension-index 0 in
    appended _ _ _ _ (1 ∷ d ∷ []) (twice_appended (vec_items c.loop-dimension.out) (vec_items c.push.new.self) (vec_items c.push-in-loop-dimension.new.self) (1 ∷ []) (d ∷ []) c.in_ok-push.ensures.items c.in_ok-push-2.ensures.items) step ∙ c.loop-dimension.invariant

pub returns : goal.returns
returns c =
    let last = at_drop_all (flat_map (λ d. bytes_of (vertex d))) c.args.dims.now c.loop-dimension.dimension-index c.loop-dimension-test.false in
    all_appended _ _ _ last c.loop-dimension.invariant
