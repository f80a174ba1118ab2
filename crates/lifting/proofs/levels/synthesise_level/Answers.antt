use Rattle.std.proofs.Common.{refl}
use Rattle.std.proofs.lemmas.Result.{err_from_is_err_and}
use Rattle.lifting.specs.HalfSteps.{rule}
use Rattle.lifting.proofs.Undoing.{level_undone}
use Rattle.lifting.proofs.IntegerLifts.{lifting_equations}
use Rattle.lifting.proofs.levels.synthesise_level.Goals as goal

pub returns-in_err-check_level : goal.returns-in_err-check_level
returns-in_err-check_level g c =
    let p = err_from_is_err_and c.from_residual.result c.from_residual.ensures.1 in
    let m = g.H.Hierarchy.meaning c.args.h.now in
    rw (p.1, p.2) (record {
      result = c.in_err-check_level.ensures;
      values = refl;
      undone = level_undone m (rule g.S.Scheme g.S.Value.ValueKind c.args.s.now) (g.H.Hierarchy.lawful c.args.h.now) g.S.Value.ValueKind.laws c.args.level;
      equations = lifting_equations (g.H.Hierarchy.lawful c.args.h.now) c.args.level;
    })

pub returns-clause-undone : goal.returns-clause-undone
returns-clause-undone g c = level_undone (g.H.Hierarchy.meaning c.args.h.now) (rule g.S.Scheme g.S.Value.ValueKind c.args.s.now) (g.H.Hierarchy.lawful c.args.h.now) g.S.Value.ValueKind.laws c.args.level

pub returns-clause-equations : goal.returns-clause-equations
returns-clause-equations g c = lifting_equations (g.H.Hierarchy.lawful c.args.h.now) c.args.level
