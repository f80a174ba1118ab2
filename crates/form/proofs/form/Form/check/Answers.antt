use Rattle.lifting.specs.HalfSteps.{rule}
use Rattle.history.specs.Memory.{lending}
use Rattle.history.proofs.Serving.{checked}
use Rattle.form.proofs.form.Form.check.Goals as goal

pub returns : goal.returns
returns g c =
    let m = g.H.Hierarchy.meaning c.args.self.now.setting.hierarchy.now in
    let r = rule g.S.Scheme g.S.Value.ValueKind c.args.self.now.setting.scheme.now in
    let mem = lending c.args.self.now.state c.args.points.now c.args.slots.now in
    let both = checked m r mem (g.H.Hierarchy.lawful c.args.self.now.setting.hierarchy.now) g.S.Value.ValueKind.laws c.args.request c.check_call.result c.check_call.ensures in
    record { passed = both.0; refused = both.1 }
