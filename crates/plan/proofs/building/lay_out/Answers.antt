use Rattle.std.proofs.Common.{◌≡◌, ◌+◌, ◌*◌, ◌^◌, ◌<◌, ◌≤◌, sym, refl, ap, ◌∙◌, subst, ⊎_elim, arith}
use Rattle.std.proofs.lemmas.List.{get_or-set_same, get_or-set_other, length-set}
use Rattle.std.proofs.lemmas.Bool.{cases_lt}
use Rattle.mesh.proofs.Certain.{rules_from}
use Rattle.base.specs.Bases.{shape}
use Rattle.plan.specs.declared.block.Block.{Block}
use Rattle.plan.specs.Planning.{first_block, block_at, no_block}
use Rattle.plan.specs.Written.{next}
use Rattle.plan.proofs.Blocks.{counts_at, block_few, block_more, coarsest}
use Rattle.plan.proofs.building.lay_out.Goals as goal

-- what the next block is made from
abbrev Small : Block → Type 0
Small b = (b.at + 80 * b.corners ≤ 2 ^ 30) × (b.vertices ≤ b.corners) × (b.edges ≤ b.corners) × (b.faces ≤ b.corners)

pub loop-j-init : goal.loop-j-init
loop-j-init c =
    let s = shape c.args.base.now in
    (refl, λ i l. let e : i ≡ 0 = omega arith in rw e (c.first_block-blocks.ensures ∙ sym (coarsest s (rules_from s c.args.base.now.rules))))

pub next-requires : goal.next-requires
next-requires c =
    let s = shape c.args.base.now in
    let rules = rules_from s c.args.base.now.rules in
    let j = c.loop-j.j in
    let n = counts_at s rules j in
    let small : Small (block_at (first_block s) j) = (block_few s rules j (omega (arith, c.requires, c.loop-j-test.true)), omega (arith, n.vertices, n.vertex_room, n.corners), omega (arith, n.edges, n.edge_room, n.corners), omega (arith, n.faces, n.face_room, n.corners)) in
    let here = subst Small (sym (c.loop-j.invariant.1 j (omega arith))) small in
    record { small = here.0; vertices = here.1; edges = here.2; faces = here.3 }

pub loop-j-preserved : goal.loop-j-preserved
loop-j-preserved c =
    let s = shape c.args.base.now in
    let j = c.loop-j.j in
    let bs = c.loop-j.blocks in
    let new = c.next.result in (
      length-set bs (j + 1) new ∙ c.loop-j.invariant.0,
      λ i l. ⊎_elim
          (λ (low : i < j + 1). get_or-set_other bs (j + 1) i new no_block (λ e. omega arith) ∙ c.loop-j.invariant.1 i (omega arith))
          (λ (high : j + 1 ≤ i).
          let e : i ≡ j + 1 = omega arith in
          rw e (get_or-set_same bs (j + 1) new no_block (omega (arith, c.loop-j.invariant.0, c.requires, c.loop-j-test.true)) ∙ c.next.ensures ∙ ap next (c.loop-j.invariant.1 j (omega arith)) ∙ sym (block_more s (rules_from s c.args.base.now.rules) j)))
          (cases_lt i (j + 1)),
    )
