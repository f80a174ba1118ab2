use Rattle.std.proofs.Common.{rules, ◌≡◌, ℕ, ◌+◌, List, length, get_or, sym, ap, ◌∙◌, arith}
use Rattle.mesh.proofs.Certain.{rules_from}
use Rattle.base.specs.Bases.{shape}
use Rattle.plan.proofs.Coarse.{first_facts}
use Rattle.plan.proofs.Places.{keeps_wider}
use Rattle.plan.proofs.coarsest.write_dimensions.Goals as goal

pub write-requires-clause-within : goal.write-requires-clause-within
write-requires-clause-within c =
    let s = shape c.args.base.now in
    let n = first_facts s (rules_from s c.args.base.now.rules) c.args.b c.requires.block in
    omega (arith, c.start.ensures.value, n.1, n.0.corners, n.0.vertex_room, c.requires.within, ap length c.dimensions-dimensions.ensures.value)

pub returns : goal.returns
returns c =
    let s = shape c.args.base.now in
    let n = first_facts s (rules_from s c.args.base.now.rules) c.args.b c.requires.block in
    let items = c.dimensions-dimensions.ensures.value in
    record {
      written = λ k l.
          let w = c.write.ensures.written k (omega (arith, ap length items, n.0.vertices)) in
          let v : get_or c.write.new.table (c.start.result + k) 0 ≡ get_or c.dimensions-dimensions.result.now k 0 = search rules in
          ap (λ p. get_or c.write.new.table (p + k) 0) (sym c.start.ensures.value) ∙ v ∙ ap (λ (l : List ℕ). get_or l k 0) items;
      kept = keeps_wider _ _ (omega (arith, c.start.ensures.value)) (omega (arith, c.start.ensures.value, ap length items, n.0.vertices)) c.write.ensures.kept;
    }
