use Rattle.std.proofs.Common.{◌+◌, ◌*◌, ◌<◌, List, length, get_or, set, sym, refl, ap, ◌∙◌, add_assoc, arith}
use Rattle.mesh.specs.declared.Side.{Side}
use Rattle.mesh.specs.Shape.{nowhere}
use Rattle.mesh.proofs.Certain.{rules_from}
use Rattle.base.specs.Bases.{shape}
use Rattle.levels.specs.Surfaces.{surface}
use Rattle.plan.specs.Decoded.{end_at}
use Rattle.plan.proofs.Coarse.{first_facts}
use Rattle.plan.proofs.Finding.{end_even, end_odd}
use Rattle.plan.proofs.Places.{wrote_none, wrote_more, wrote_at}
use Rattle.plan.proofs.coarsest.write_ends.Goals as goal

pub loop-e-init : goal.loop-e-init
loop-e-init c = wrote_none _ _ _

pub loop-e-preserved : goal.loop-e-preserved
loop-e-preserved c =
    let s = shape c.args.base.now in
    let m = surface s in
    let at = c.start-at.result in
    let e = c.loop-e.e in
    let given = c.edge_sides-edge-items.result.now in
    let n = first_facts s (rules_from s c.args.base.now.rules) c.args.b c.requires.block in
    let items = c.edge_sides-edge-items.ensures in
    let edge = ap (λ (l : List Side). get_or l e nowhere) items in
    let room : at + (2 * e + 1) < length c.loop-e.table = omega (arith, c.start-at.ensures.value, n.1, n.0.corners, n.0.edge_room, c.requires.within, c.loop-e.auto.table, c.loop-e-test.true, ap length items) in
    let first = wrote_more (end_at m) at (2 * e) (get_or given e nowhere).tail c.loop-e.invariant
    (omega arith)
    (ap (λ (x : Side). x.tail) edge ∙ sym (end_even m e (2 * e) refl)) c.store.ensures in
    let second = wrote_more (end_at m) at (2 * e + 1) (get_or given e nowhere).head first
    (omega (arith, c.store.auto.table))
    (ap (λ (x : Side). x.head) edge ∙ sym (end_odd m e (2 * e + 1) refl))
    (c.store-in-loop-e.ensures ∙ ap (λ p. set c.store.new.table p (get_or given e nowhere).head) (add_assoc at (2 * e) 1)) in
    wrote_at at (2 * (e + 1)) refl (omega arith) second

pub returns : goal.returns
returns c =
    let s = shape c.args.base.now in
    let n = first_facts s (rules_from s c.args.base.now.rules) c.args.b c.requires.block in
    let w = wrote_at _ (2 * c.args.b.edges) c.start-at.ensures.value (omega (arith, ap length c.edge_sides-edge-items.ensures, n.0.edges, c.loop-e.auto.e-end, c.loop-e-test.false)) c.loop-e.invariant in
    record { written = w.0; kept = w.1 }
