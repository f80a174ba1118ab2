use Rattle.history.proofs.Serving.{no_refusal}
use Rattle.form.proofs.form.Form.go.Goals as goal

pub returns-in_err-travel : goal.returns-in_err-travel
returns-in_err-travel g c =
    let m = g.H.Hierarchy.meaning c.args.self.now.setting.hierarchy.now in
    absurd (no_refusal m _ _ _ _ c.requires.whole c.requires.from c.requires.to c.in_err-travel.ensures.result)
