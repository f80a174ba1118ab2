use Rattle.std.proofs.Common.{◌+◌, ◌/◌, ◌^◌, sym, ap, ◌∙◌, arith}
use lib.Count.{count_trailing_zeros}
use Rattle.levels.specs.Level.{Level}
use Rattle.curve.specs.Made.{coarsest}
use Rattle.curve.proofs.Zeros.{number_kept, number_born}
use Rattle.curve.proofs.level.CurveLevel.numbered.Goals as goal

pub returns-then-zeros-self : goal.returns-then-zeros-self
returns-then-zeros-self c = sym (number_kept (coarsest c.args.self.curve.now) c.args.self.level 64 c.args.position (omega arith) (omega arith))

pub returns : goal.returns
returns c =
    let it = c.args.self.curve.now in
    ap (λ n. n + c.args.position / 2 ^ (count_trailing_zeros 64 c.args.position + 1)) (c.vertices.ensures.value ∙ ap (λ (m : Level). m.vertices) c.coarser.ensures)
    ∙ sym (number_born (coarsest it) c.args.self.level 64 c.args.position (omega arith) (omega arith))
