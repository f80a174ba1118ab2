use Rattle.std.proofs.Common.{◌≡◌, ◌+◌, ◌<◌, List, length, get_or, sym, ap, ◌∙◌, subst, inl, inr, arith}
use Rattle.mesh.specs.declared.Side.{Side}
use Rattle.mesh.specs.Shape.{nowhere}
use Rattle.mesh.proofs.Certain.{rules_from}
use Rattle.base.specs.Bases.{shape}
use Rattle.levels.specs.Finer.{half_at}
use Rattle.levels.specs.Sound.{Runs}
use Rattle.levels.specs.Surfaces.{surface}
use Rattle.levels.proofs.Rounds.{length_sides, side_at}
use Rattle.levels.proofs.SurfaceSound.{surface_sound}
use Rattle.plan.specs.declared.block.Array.TheVariants.{Ends, VertexHalfEnds, VertexHalves}
use Rattle.plan.specs.Decoded.{corner_half}
use Rattle.plan.specs.Written.{Ended}
use Rattle.plan.proofs.Coarse.{first_facts, only_edge}
use Rattle.plan.proofs.Places.{wrote_none, wrote_more, wrote_at}
use Rattle.plan.proofs.Reading.{reads_kept}
use Rattle.plan.proofs.Showing.{grouped_kept}
use Rattle.plan.proofs.coarsest.write_halves.Goals as goal

pub loop-c-init : goal.loop-c-init
loop-c-init c = wrote_none _ _ _

pub loop-c-preserved : goal.loop-c-preserved
loop-c-preserved c =
    let s = shape c.args.base.now in
    let rules = rules_from s c.args.base.now.rules in
    let m = surface s in
    let b = c.args.b in
    let t = c.args.table.now in
    let u = c.loop-c.table in
    let at = c.start-at.result in
    let i = c.loop-c.c in
    let n = first_facts s rules b c.requires.block in
    let given = c.face_sides-side-items.result.now in
    let items = c.face_sides-side-items.ensures in
    let start = c.start-at.ensures.value in
    let inside : i < m.corners = omega (arith, c.loop-c-test.true, ap length items, length_sides s.faces) in
    let side = ap (λ (l : List Side). get_or l i nowhere) items ∙ side_at s.faces i inside in
    let from = (get_or given i nowhere).tail in
    let to = (get_or given i nowhere).head in
    let tail : from ≡ m.vertex i = ap (λ (x : Side). x.tail) side in
    let head : to ≡ m.vertex (m.forth i) = ap (λ (x : Side). x.head) side in
    let sound = surface_sound s rules in
    let kept = c.loop-c.invariant.1 in
    let ended : Ended u b m = record { counts = c.requires.ended.counts; ends = λ h l. ap (λ f. f h) (reads_kept t u b Ends at (at + i) (inl (omega arith)) kept) ∙ c.requires.ended.ends h l } in
    let listed = grouped_kept t u b VertexHalfEnds VertexHalves at (at + i) _ _ _ (inr (omega (arith, n.0.corners))) (inr (omega (arith, n.0.corners))) kept c.requires.listed in
    let runs : Runs m (m.side i) from to = subst (λ p. Runs m (m.side i) p to) (sym tail) (subst (λ q. Runs m (m.side i) (m.vertex i) q) (sym head) (sound.joined i inside)) in
    let found = c.find_half-half.ensures.found m (m.side i) ended listed sound (subst (λ p. p < m.vertices) (sym tail) (sound.placed i inside)) (sound.sided i inside) runs (λ e l r. only_edge s rules (m.side i) e from to (sound.sided i inside) l runs r) in
    wrote_more (corner_half m) at i _ c.loop-c.invariant
    (omega (arith, n.1, n.0.corners, c.requires.within, c.loop-c.auto.table))
    (found ∙ ap (half_at m (m.side i)) tail) c.store.ensures

pub returns : goal.returns
returns c =
    let s = shape c.args.base.now in
    let n = first_facts s (rules_from s c.args.base.now.rules) c.args.b c.requires.block in
    let w = wrote_at _ c.args.b.corners c.start-at.ensures.value (omega (arith, ap length c.face_sides-side-items.ensures, length_sides s.faces, n.0.corners, c.loop-c.auto.c-end, c.loop-c-test.false)) c.loop-c.invariant in
    record { written = w.0; kept = w.1 }
