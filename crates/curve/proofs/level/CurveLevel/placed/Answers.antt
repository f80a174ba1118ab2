use Rattle.std.proofs.Common.{◌+◌, ◌-◌, ◌*◌, ◌^◌, sym, ap, ◌∙◌, arith}
use Rattle.std.proofs.lemmas.Nat.{shl_whole}
use Rattle.levels.specs.Level.{Level}
use Rattle.curve.proofs.Births.{position_kept, position_born}
use Rattle.curve.proofs.Levels.{few_vertices}
use Rattle.curve.proofs.level.CurveLevel.placed.Goals as goal

pub returns-then-number-self : goal.returns-then-number-self
returns-then-number-self c =
    let it = c.args.self.curve.now in
    shl_whole c.args.number 11 c.args.self.level 64 (omega arith) (omega arith) ∙ sym (position_kept it.closed it.points c.args.self.level c.args.number (omega arith))

pub overflow_mul-result : goal.overflow_mul-result
overflow_mul-result c = omega (arith, few_vertices c.args.self)

pub overflow_add-result : goal.overflow_add-result
overflow_add-result c = omega (arith, few_vertices c.args.self)

pub returns : goal.returns
returns c =
    let here = c.args.self in
    let it = here.curve.now in
    let few = few_vertices here in
    let before = c.edge_level-before.result in
    let count = c.vertices.result in
    let shift = here.level - before - 1 in
    shl_whole (2 * (c.args.number - count) + 1) 17 shift 64 (omega arith) (omega arith)
    ∙ ap (λ v. (2 * (c.args.number - v) + 1) * 2 ^ shift) (c.vertices.ensures.value ∙ ap (λ (m : Level). m.vertices) c.coarser.ensures)
    ∙ sym (position_born it.closed it.points here.level before c.args.number c.edge_level-before.ensures.before c.edge_level-before.ensures.low c.edge_level-before.ensures.high)
