use Rattle.std.proofs.Common.{sym, refl}
use Rattle.lifting.specs.HalfSteps.{rule}
use Rattle.history.proofs.Blinding.{blind}
use Rattle.history.proofs.Serving.{opens}
use Rattle.form.proofs.form.Form.open.Goals as goal

pub returns : goal.returns
returns g c =
    let m = g.H.Hierarchy.meaning c.args.hierarchy.now in
    let r = rule g.S.Scheme g.S.Value.ValueKind c.args.scheme.now in
    let ok = sym c.in_ok-check_opening.ensures in
    (record { verdict = ok; state = refl; stands = opens m r _ c.args.depth c.args.points.now c.args.slots.now ok; blind = λ named calls others alike. blind m r named _ calls others alike }, refl, refl)
