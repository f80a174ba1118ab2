use Rattle.std.proofs.Common.{◌*◌, ◌%◌, ◌^◌, ap, ◌∙◌, arith}
use Rattle.curve.proofs.Levels.{some_edges, few_edges, shifted_edges}
use Rattle.curve.proofs.level.CurveLevel.edges.Goals as goal

pub returns : goal.returns
returns c =
    let here = c.args.self in
    let shifted = ap (λ e. e * 2 ^ here.level % 2 ^ 64) c.base_edges.ensures ∙ shifted_edges here in
    record { value = shifted; some = omega (arith, shifted, some_edges here); few = omega (arith, shifted, few_edges here) }
