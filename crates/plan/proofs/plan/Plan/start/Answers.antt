use Rattle.std.proofs.Common.{ℕ, ◌≤◌, List, sym, ap, ◌∙◌, subst, arith}
use Rattle.std.proofs.lemmas.List.{with_items_is}
use Rattle.hierarchy.specs.Lawful.{Lawful}
use Rattle.mesh.specs.Rules.{Rules}
use Rattle.mesh.specs.Shape.{Shape}
use Rattle.mesh.proofs.Certain.{rules_from}
use Rattle.base.specs.Bases.{shape}
use Rattle.levels.specs.Finer.{level}
use Rattle.levels.specs.Incidence.{hierarchy}
use Rattle.levels.specs.Surfaces.{surface}
use Rattle.levels.proofs.Hierarchies.{hierarchy_lawful, level_more}
use Rattle.levels.proofs.SurfaceSound.{surface_sound}
use Rattle.plan.specs.Planning.{tells}
use Rattle.plan.proofs.Blocks.{at_needs, coarsest_level}
use Rattle.plan.proofs.plan.Plan.start.Goals as goal

-- a base has few vertices, edges and faces, so one level more does not have too many
start_lawful : (s : Shape) → Rules s → Lawful (hierarchy (surface s) 1)
start_lawful s rules = hierarchy_lawful (surface s) 1 (surface_sound s rules) (omega arith) (omega arith) few
  where
    few : (level (surface s) 1).vertices ≤ 65536
    few =
        let zeroth = coarsest_level s rules in
        omega (arith, ap (λ n. n.vertices) (level_more (surface s) 0), ap (λ n. n.vertices) zeroth, ap (λ n. n.edges) zeroth, ap (λ n. n.faces) zeroth, rules.most_vertices, rules.most_edges, rules.most_faces)

pub fill_levels-requires : goal.fill_levels-requires
fill_levels-requires c =
    let b = c.in_ok-base.base in
    let s = shape b in
    record {
      some = omega arith;
      few = omega arith;
      laid = c.lay_out-blocks.ensures;
      within = omega (arith, ap (λ x. x.at) (c.lay_out-blocks.ensures 1 (omega arith)), at_needs s (rules_from s b.rules) 1, c.deref_mut.ensures.len, c.in_ok-table.ensures.len);
    }

pub invariant_of-result : goal.invariant_of-result
invariant_of-result c =
    let b = c.in_ok-base.base in
    let filled = with_items_is c.in_ok-table.table c.fill_levels.new.table (c.fill_levels.auto.table ∙ c.deref_mut.ensures.len) in
    let told = ap (λ (l : List ℕ). tells l 1 c.lay_out-blocks.result) filled ∙ c.fill_levels.ensures.told in
    record {
      shallow = omega arith;
      lawful = ∣ subst Lawful (sym told) (start_lawful (shape b) (rules_from (shape b) b.rules)) ∣₁;
    }

pub returns : goal.returns
returns c =
    let filled = with_items_is c.in_ok-table.table c.fill_levels.new.table (c.fill_levels.auto.table ∙ c.deref_mut.ensures.len) in
    ap (λ (l : List ℕ). tells l 1 c.lay_out-blocks.result) filled ∙ c.fill_levels.ensures.told ∙ ap (λ s. hierarchy (surface s) 1) c.in_ok-base.ensures
