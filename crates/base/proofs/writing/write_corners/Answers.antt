use Rattle.std.proofs.Common.{map, get_or, ◌∙◌}
use Rattle.std.specs.List.{flat_map}
use Rattle.std.proofs.lemmas.List.{at_drop_more, at_drop_all}
use Rattle.mesh.specs.declared.Side.{Side}
use Rattle.mesh.specs.Records.{two_bytes}
use Rattle.mesh.specs.Shape.{nowhere}
use Rattle.base.proofs.Steps.{appended, all_appended}
use Rattle.base.proofs.writing.write_corners.Goals as goal

pub loop-side-preserved : goal.loop-side-preserved
loop-side-preserved c =
    let step = at_drop_more (λ ss. flat_map two_bytes (map (λ (s : Side). s.tail) ss)) c.args.sides.now c.loop-side.side-index nowhere c.loop-side-test.true in
    appended _ _ _ _ (two_bytes (get_or c.args.sides.now c.loop-side.side-index nowhere).tail) c.in_ok-write_number.ensures step ∙ c.loop-side.invariant

pub returns : goal.returns
returns c =
    let last = at_drop_all (λ ss. flat_map two_bytes (map (λ (s : Side). s.tail) ss)) c.args.sides.now c.loop-side.side-index c.loop-side-test.false in
    all_appended _ _ _ last c.loop-side.invariant
