use Rattle.std.proofs.Common.{◌≡◌, ℕ, ◌+◌, ◌*◌, ◌<◌, ◌≤◌, List, get_or, ap, ◌∙◌, inl, arith}
use Rattle.mesh.specs.Rules.{Rules}
use Rattle.mesh.specs.Shape.{Shape}
use Rattle.mesh.proofs.Certain.{rules_from}
use Rattle.base.specs.Bases.{shape}
use Rattle.levels.specs.Surfaces.{surface}
use Rattle.levels.proofs.SurfaceSound.{surface_sound}
use Rattle.plan.specs.declared.block.Block.{Block}
use Rattle.plan.specs.declared.block.Array.TheVariants.{Ends, Halves, Faces, VertexHalfEnds, EdgeCornerEnds, Curves, Dimensions}
use Rattle.plan.specs.Decoded.{end_at}
use Rattle.plan.specs.Layout.{begins}
use Rattle.plan.specs.Planning.{first_block}
use Rattle.plan.specs.Sorting.{Keeps}
use Rattle.plan.specs.Written.{Ended}
use Rattle.plan.proofs.Coarse.{first_facts, few_corners}
use Rattle.plan.proofs.Places.{keeps_then, keeps_wider}
use Rattle.plan.proofs.Reading.{reads_in, reads_kept}
use Rattle.plan.proofs.coarsest.write_coarsest.Goals as goal

ended : (t : List ℕ) (b : Block) (s : Shape) → Rules s → b ≡ first_block s → ((h : ℕ) → h < 2 * b.edges → get_or t (begins b Ends + h) 0 ≡ end_at (surface s) h) → Ended t b (surface s)
ended t b s rules e written =
    let n = (first_facts s rules b e).0 in
    record { counts = n; ends = λ h l. reads_in t b Ends h (omega (arith, n.edge_room, n.corners)) ∙ written h (omega (arith, n.edges)) }

ended_kept : (t u : List ℕ) (b : Block) (s : Shape) → Keeps t u (begins b VertexHalfEnds) (begins b EdgeCornerEnds) → Ended t b (surface s) → Ended u b (surface s)
ended_kept t u b s k e = record { counts = e.counts; ends = λ h l. ap (λ f. f h) (reads_kept t u b Ends _ _ (inl (omega arith)) k) ∙ e.ends h l }

pub list_halves-requires : goal.list_halves-requires
list_halves-requires c =
    let s = shape c.args.base.now in
    let rules = rules_from s c.args.base.now.rules in
    let n = first_facts s rules c.args.b c.requires.block in
    record {
      within = omega (arith, n.1, c.requires.within, c.write_ends.auto.table);
      few = omega (arith, n.0.corners, few_corners s rules);
      shown = (surface s, ended c.write_ends.new.table c.args.b s rules c.requires.block c.write_ends.ensures.written, surface_sound s rules);
    }

pub write_halves-requires : goal.write_halves-requires
write_halves-requires c =
    let s = shape c.args.base.now in
    let rules = rules_from s c.args.base.now.rules in
    let e = ended c.write_ends.new.table c.args.b s rules c.requires.block c.write_ends.ensures.written in
    record {
      block = c.requires.block;
      within = omega (arith, c.requires.within, c.write_ends.auto.table, c.list_halves.auto.table);
      ended = ended_kept c.write_ends.new.table c.list_halves.new.table c.args.b s c.list_halves.ensures.kept e;
      listed = c.list_halves.ensures.grouped (surface s) e (surface_sound s rules);
    }

pub returns : goal.returns
returns c =
    let s = shape c.args.base.now in
    let rules = rules_from s c.args.base.now.rules in
    let b = c.args.b in
    let n = first_facts s rules b c.requires.block in
    let m = surface s in
    let k1 = c.write_ends.ensures.kept in
    let k2 = c.list_halves.ensures.kept in
    let k3 = c.write_halves.ensures.kept in
    let k4 = c.write_faces.ensures.kept in
    let k5 = c.write_curves.ensures.kept in
    let k6 = c.write_dimensions.ensures.kept in
    let v : b.vertices ≤ b.corners = omega (arith, n.0.vertices, n.0.vertex_room, n.0.corners) in
    let e : b.edges ≤ b.corners = omega (arith, n.0.edges, n.0.edge_room, n.0.corners) in
    let u = c.write_dimensions.new.table in
    record {
      shown = record {
        counts = n.0;
        ends = λ h l. let i : h < 2 * b.edges = omega (arith, n.0.edges) in reads_in u b Ends h (omega arith) ∙ k6.below _ (omega arith) ∙ k5.below _ (omega arith) ∙ k4.below _ (omega arith) ∙ k3.below _ (omega arith) ∙ k2.below _ (omega arith) ∙ c.write_ends.ensures.written h i;
        halves = λ h l. let i : h < b.corners = omega (arith, n.0.corners) in reads_in u b Halves h (omega arith) ∙ k6.below _ (omega arith) ∙ k5.below _ (omega arith) ∙ k4.below _ (omega arith) ∙ c.write_halves.ensures.written h i;
        faces = λ h l. let i : h < b.corners = omega (arith, n.0.corners) in reads_in u b Faces h (omega arith) ∙ k6.below _ (omega arith) ∙ k5.below _ (omega arith) ∙ c.write_faces.ensures.written h i;
        curves = λ h l. let i : h < b.edges = omega (arith, n.0.edges) in reads_in u b Curves h (omega arith) ∙ k6.below _ (omega arith) ∙ c.write_curves.ensures.written h i;
        dimensions = λ h l. let i : h < b.vertices = omega (arith, n.0.vertices) in reads_in u b Dimensions h (omega arith) ∙ c.write_dimensions.ensures.written h i;
      };
      kept = keeps_then (keeps_wider _ _ (omega arith) (omega (arith, n.1)) k1) (keeps_then (keeps_wider _ _ (omega arith) (omega (arith, n.1)) k2) (keeps_then (keeps_wider _ _ (omega arith) (omega (arith, n.1)) k3) (keeps_then (keeps_wider _ _ (omega arith) (omega (arith, n.1)) k4) (keeps_then (keeps_wider _ _ (omega arith) (omega (arith, n.1)) k5) (keeps_wider _ _ (omega arith) (omega (arith, n.1)) k6)))));
    }
