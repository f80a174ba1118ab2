use Rattle.std.proofs.Common.{◌≡◌, ℕ, ◌+◌, ◌*◌, cond, eqb, refl, ap, ◌∙◌, ap₂}
use Rattle.levels.specs.Finer.{finer, half_at}
use Rattle.plan.specs.Decoded.{shown}
use Rattle.plan.proofs.Finding.{end_even}
use Rattle.plan.proofs.view.View.fine_half.Goals as goal

pub returns : goal.returns
returns c =
    let m = finer (shown c.args.self.now) in
    let s = c.fine_side-side.result in
    let tail : c.fine_end.result ≡ m.tail s = c.fine_end.ensures ∙ end_even m s (2 * s) refl in
    c.half_at.ensures.value ∙ ap₂ (λ (t v : ℕ). 2 * s + cond (eqb t v) 0 1) tail c.fine_vertex.ensures ∙ ap (λ e. half_at m e (m.vertex c.args.corner)) c.fine_side-side.ensures.value
