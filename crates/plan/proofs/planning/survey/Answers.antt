use Rattle.std.proofs.Common.{ℕ, ◌+◌, Ok, Option, sym, ap, ◌∙◌}
use Rattle.mesh.specs.Reading.{unless}
use Rattle.mesh.proofs.Certain.{rules_from}
use Rattle.base.specs.Bases.{shape}
use Rattle.refusal.specs.declared.Refusal.TheVariants.{TooFine}
use Rattle.plan.specs.Planning.{over}
use Rattle.plan.proofs.Surveying.{judged, survey_refused, survey_passed}
use Rattle.plan.proofs.planning.survey.Goals as goal

pub returns-in-Some : goal.returns-in-Some
returns-in-Some c =
    let s = shape c.args.base.now in
    let bs = c.lay_out-blocks.result in
    survey_refused s (rules_from s c.args.base.now.rules) c.args.levels (sym c.if-not-has_levels.ensures) bs c.lay_out-blocks.ensures (TooFine c.in-Some.level)
    (ap (λ (o : Option ℕ). unless (over o) (Ok (tt {0}))) (sym c.in-Some.is ∙ c.too_fine.ensures) ∙ judged bs (c.args.levels + 1))

pub returns-in-None : goal.returns-in-None
returns-in-None c =
    let s = shape c.args.base.now in
    let bs = c.lay_out-blocks.result in
    survey_passed s (rules_from s c.args.base.now.rules) c.args.levels (sym c.if-not-has_levels.ensures) bs c.lay_out-blocks.ensures
    (ap (λ (o : Option ℕ). unless (over o) (Ok (tt {0}))) (sym c.in-None.is ∙ c.too_fine.ensures) ∙ judged bs (c.args.levels + 1))
