use Rattle.std.proofs.Common.{Ok, sym, ap, ◌∙◌}
use Rattle.std.proofs.lemmas.Result.{err_from_is_err_and}
use Rattle.mesh.specs.Rules.{Rules}
use Rattle.mesh.specs.Shape.{Shape}
use Rattle.mesh.proofs.Certain.{rules_from}
use Rattle.base.specs.Bases.{shape}
use Rattle.levels.specs.Refined.{Refined}
use Rattle.levels.specs.Surfaces.{surface}
use Rattle.levels.proofs.Refining.{levels_refined}
use Rattle.levels.proofs.SurfaceSound.{surface_sound, surface_covered}
use Rattle.plan.proofs.Surveying.{need_at}
use Rattle.plan.proofs.planning.needed.Goals as goal

refined : (s : Shape) → Rules s → Refined (surface s)
refined s rules = levels_refined (surface s) (surface_sound s rules) (surface_covered s rules)

pub returns-in_err-blocks : goal.returns-in_err-blocks
returns-in_err-blocks c =
    let s = shape c.args.base.now in
    let p = err_from_is_err_and c.from_residual.result c.from_residual.ensures.1 in
    rw (p.1, p.2) (record { value = sym c.in_err-blocks.ensures; refined = refined s (rules_from s c.args.base.now.rules) })

pub returns : goal.returns
returns c =
    let s = shape c.args.base.now in
    let rules = rules_from s c.args.base.now.rules in
    let found = c.in_ok-blocks.ensures in
    record { value = ap Ok (need_at s rules c.args.levels c.in_ok-blocks.blocks found) ∙ sym found.needed; refined = refined s rules }
