use Rattle.std.proofs.Common.{refl}
use Rattle.std.proofs.lemmas.Result.{err_from_is_err_and}
use Rattle.lifting.specs.HalfSteps.{rule}
use Rattle.lifting.proofs.Undoing.{level_undone}
use Rattle.lifting.proofs.Journeys.{straight, returned}
use Rattle.lifting.proofs.journey.travel.Goals as goal

pub returns-in_err-check_depths : goal.returns-in_err-check_depths
returns-in_err-check_depths g c =
    let p = err_from_is_err_and c.from_residual.result c.from_residual.ensures.1 in
    let m = g.H.Hierarchy.meaning c.args.h.now in
    let r = rule g.S.Scheme g.S.Value.ValueKind c.args.s.now in
    let undone = level_undone m r (g.H.Hierarchy.lawful c.args.h.now) g.S.Value.ValueKind.laws in
    rw (p.1, p.2) (record {
      result = c.in_err-check_depths.ensures;
      values = refl;
      straight = straight m r undone;
      returned = returned m r undone;
    })

pub returns-clause-straight : goal.returns-clause-straight
returns-clause-straight g c =
    let m = g.H.Hierarchy.meaning c.args.h.now in
    let r = rule g.S.Scheme g.S.Value.ValueKind c.args.s.now in
    straight m r (level_undone m r (g.H.Hierarchy.lawful c.args.h.now) g.S.Value.ValueKind.laws)

pub returns-clause-returned : goal.returns-clause-returned
returns-clause-returned g c =
    let m = g.H.Hierarchy.meaning c.args.h.now in
    let r = rule g.S.Scheme g.S.Value.ValueKind c.args.s.now in
    returned m r (level_undone m r (g.H.Hierarchy.lawful c.args.h.now) g.S.Value.ValueKind.laws)
