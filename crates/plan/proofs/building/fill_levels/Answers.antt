use Rattle.std.proofs.Common.{◌≡◌, ℕ, ◌+◌, ◌-◌, ◌*◌, ◌<◌, ◌≤◌, List, length, get_or, take, sym, ap, ◌∙◌, subst, inl, inr, ⊎_elim, arith, length-take, get_or-take}
use Rattle.std.proofs.lemmas.Bool.{cases_lt}
use Rattle.mesh.proofs.Certain.{rules_from}
use Rattle.base.specs.Bases.{shape}
use Rattle.levels.specs.Finer.{level, finer}
use Rattle.levels.specs.Level.{Level}
use Rattle.levels.specs.Sound.{Sound, Covered}
use Rattle.levels.specs.Surfaces.{surface}
use Rattle.levels.proofs.Hierarchies.{level_more}
use Rattle.plan.specs.declared.block.Block.{Block}
use Rattle.plan.specs.declared.block.Array.TheVariants.{VertexHalfEnds, Curves}
use Rattle.plan.specs.Layout.{begins}
use Rattle.plan.specs.Plain.{Plain}
use Rattle.plan.specs.Planning.{first_block, block_at, block_of, no_block, needs}
use Rattle.plan.specs.Settled.{Settled}
use Rattle.plan.specs.Sorting.{Keeps}
use Rattle.plan.specs.Written.{Shows, Lists, Standing, next}
use Rattle.plan.proofs.Blocks.{corners_few, block_few, block_more, coarsest, coarsest_level, at_needs, needs_rise, block_end, block_end_2, sound_at, covered_at, plain_at, shows_apart, standing_apart, build_more, table_tells}
use Rattle.plan.proofs.Places.{keeps_none, keeps_then, keeps_wider}
use Rattle.plan.proofs.Settle.{settled_kept}
use Rattle.plan.proofs.Showing.{shows_kept}
use Rattle.plan.proofs.building.fill_levels.Goals as goal

-- a block in the loop
held : (levels : ℕ) (bs : List Block) (j : ℕ) → j < length (take (levels - 1) bs) → (get_or (take (levels - 1) bs) j no_block ≡ block_of bs j) × (j < levels - 1)
held levels bs j l = let inside : j < levels - 1 = omega (arith, length-take (levels - 1) bs) in (get_or-take (levels - 1) bs j no_block inside, inside)

pub write_coarsest-requires : goal.write_coarsest-requires
write_coarsest-requires c =
    let s = shape c.args.base.now in
    let rules = rules_from s c.args.base.now.rules in
    let first = c.requires.laid 0 (omega arith) ∙ coarsest s rules in
    record { block = first; within = omega (arith, ap (λ b. b.corners) (c.requires.laid 0 (omega arith)), block_end s rules 0, at_needs s rules 0, needs_rise s rules c.args.levels 1 c.requires.some, c.requires.within) }

pub list-requires : goal.list-requires
list-requires c =
    let s = shape c.args.base.now in
    let rules = rules_from s c.args.base.now.rules in
    let laid = c.requires.laid 0 (omega arith) in
    record {
      within = omega (arith, ap (λ b. b.at) laid, ap (λ b. b.corners) laid, block_end s rules 0, needs_rise s rules c.args.levels 1 c.requires.some, c.requires.within, c.write_coarsest.auto.table);
      few = omega (arith, ap (λ b. b.corners) laid, corners_few s rules 0 (omega arith));
      shown = (surface s, c.write_coarsest.ensures.shown, subst Sound (coarsest_level s rules) (sound_at s rules 0));
    }

pub loop-block-init : goal.loop-block-init
loop-block-init c =
    let s = shape c.args.base.now in
    let rules = rules_from s c.args.base.now.rules in
    let laid = c.requires.laid 0 (omega arith) in
    let m = surface s in
    let t = c.write_coarsest.new.table in
    let u = c.list.new.table in
    let b = block_of c.args.blocks 0 in
    let sound = subst Sound (coarsest_level s rules) (sound_at s rules 0) in
    let lists = c.list.ensures.listed m c.write_coarsest.ensures.shown sound in
    let first : Standing u b m = record { shows = shows_kept t u b m c.list.ensures.kept c.write_coarsest.ensures.shown; lists = lists; sound = sound; covered = subst Covered (coarsest_level s rules) (covered_at s rules 0); plain = subst Plain (coarsest_level s rules) (plain_at s rules 0) } in
    (record { settled = λ i l. absurd (omega arith); standing = subst (λ n. Standing u (block_at (first_block s) 0) n) (sym (coarsest_level s rules)) (subst (λ x. Standing u x m) laid first) }, keeps_none _ _ _)

pub refine-finer-requires : goal.refine-finer-requires
refine-finer-requires c =
    let s = shape c.args.base.now in
    let rules = rules_from s c.args.base.now.rules in
    let j = c.loop-block.block-index in
    let h = held c.args.levels c.args.blocks j c.loop-block-test.true in
    let laid = h.0 ∙ c.requires.laid j (omega (arith, h.1)) in
    let at = ap (λ b. b.at) laid in
    let corners = ap (λ b. b.corners) laid in
    record {
      small = omega (arith, at, corners, block_few s rules j (omega (arith, h.1, c.requires.few)));
      within = omega (arith, at, corners, block_end_2 s rules j, needs_rise s rules c.args.levels (j + 1 + 1) (omega (arith, h.1)), c.requires.within, c.loop-block.auto.table, c.list.auto.table, c.write_coarsest.auto.table);
      standing = (level (surface s) j, subst (λ b. Standing c.loop-block.table b (level (surface s) j)) (sym laid) c.loop-block.invariant.0.standing);
    }

pub settle-requires : goal.settle-requires
settle-requires c =
    let s = shape c.args.base.now in
    let rules = rules_from s c.args.base.now.rules in
    let j = c.loop-block.block-index in
    let h = held c.args.levels c.args.blocks j c.loop-block-test.true in
    let laid = h.0 ∙ c.requires.laid j (omega (arith, h.1)) in
    let b = get_or (take (c.args.levels - 1) c.args.blocks) j no_block in
    let at = ap (λ b. b.at) laid in
    let corners = ap (λ b. b.corners) laid in
    let before = subst (λ b. Standing c.loop-block.table b (level (surface s) j)) (sym laid) c.loop-block.invariant.0.standing in
    record {
      within = omega (arith, at, corners, block_end s rules j, needs_rise s rules c.args.levels (j + 1) (omega (arith, h.1)), c.requires.within, c.refine-finer.auto.table, c.loop-block.auto.table, c.list.auto.table, c.write_coarsest.auto.table);
      standing = (level (surface s) j, standing_apart c.loop-block.table c.refine-finer.new.table b (level (surface s) j) _ _ (inl (omega arith)) c.refine-finer.ensures.kept before);
    }

-- what is shown behind a block while the block is settled
beyond : (u v : List ℕ) (b to : Block) (m : Level) → to ≡ next b → Keeps u v b.at (b.at + 16 * b.corners) → Shows u to m → Shows v to m
beyond u v b to m e k = shows_apart u v to m b.at (b.at + 16 * b.corners) (inr (omega (arith, ap (λ x. x.at) e))) k

pub list-requires-in-loop-block : goal.list-requires-in-loop-block
list-requires-in-loop-block c =
    let s = shape c.args.base.now in
    let rules = rules_from s c.args.base.now.rules in
    let j = c.loop-block.block-index in
    let m = surface s in
    let h = held c.args.levels c.args.blocks j c.loop-block-test.true in
    let laid = h.0 ∙ c.requires.laid j (omega (arith, h.1)) in
    let is : c.refine-finer.result ≡ block_at (first_block s) (j + 1) = c.refine-finer.ensures.value ∙ ap next laid ∙ sym (block_more s rules j) in
    let at = ap (λ b. b.at) is in
    let corners = ap (λ b. b.corners) is in
    let before = subst (λ b. Standing c.loop-block.table b (level m j)) (sym laid) c.loop-block.invariant.0.standing in
    record {
      within = omega (arith, at, corners, block_end s rules (j + 1), needs_rise s rules c.args.levels (j + 1 + 1) (omega (arith, h.1)), c.requires.within, c.settle.auto.table, c.refine-finer.auto.table, c.loop-block.auto.table, c.list.auto.table, c.write_coarsest.auto.table);
      few = omega (arith, corners, corners_few s rules (j + 1) (omega (arith, h.1, c.requires.few)));
      shown = (finer (level m j), beyond c.refine-finer.new.table c.settle.new.table (get_or (take (c.args.levels - 1) c.args.blocks) j no_block) c.refine-finer.result (finer (level m j)) c.refine-finer.ensures.value c.settle.ensures.kept (c.refine-finer.ensures.shown (level m j) before), subst Sound (level_more m j) (sound_at s rules (j + 1)));
    }

pub loop-block-preserved : goal.loop-block-preserved
loop-block-preserved c =
    let s = shape c.args.base.now in
    let rules = rules_from s c.args.base.now.rules in
    let j = c.loop-block.block-index in
    let m = surface s in
    let t = c.loop-block.table in
    let u = c.refine-finer.new.table in
    let v = c.settle.new.table in
    let w = c.list-in-loop-block.new.table in
    let b = block_at (first_block s) j in
    let to = block_at (first_block s) (j + 1) in
    let h = held c.args.levels c.args.blocks j c.loop-block-test.true in
    let laid = h.0 ∙ c.requires.laid j (omega (arith, h.1)) in
    let is : c.refine-finer.result ≡ to = c.refine-finer.ensures.value ∙ ap next laid ∙ sym (block_more s rules j) in
    let before = subst (λ x. Standing t x (level m j)) (sym laid) c.loop-block.invariant.0.standing in
    let refined = subst (λ x. Keeps t u (x.at + 16 * x.corners) (x.at + 80 * x.corners)) laid c.refine-finer.ensures.kept in
    let settling = subst (λ x. Keeps u v x.at (x.at + 16 * x.corners)) laid c.settle.ensures.kept in
    let settled : Standing u b (level m j) → Settled v b (level m j) = λ h. subst (λ x. Settled v x (level m j)) laid (c.settle.ensures.settled (level m j) (subst (λ x. Standing u x (level m j)) (sym laid) h)) in
    let listing = subst (λ x. Keeps v w (begins x VertexHalfEnds) (begins x Curves)) is c.list-in-loop-block.ensures.kept in
    let at_level : (P : Block → Level → Type 0) → P c.refine-finer.result (finer (level m j)) → P to (level m (j + 1)) =
    λ P h. subst (P to) (sym (level_more m j)) (subst (λ x. P x (finer (level m j))) is h) in
    let back : (P : Block → Level → Type 0) → P to (level m (j + 1)) → P c.refine-finer.result (finer (level m j)) =
    λ P h. subst (λ x. P x (finer (level m j))) (sym is) (subst (P to) (level_more m j) h) in
    let listed : Shows v to (level m (j + 1)) → Lists w to (level m (j + 1)) = λ h. at_level (Lists w) (c.list-in-loop-block.ensures.listed (finer (level m j)) (back (Shows v) h) (subst Sound (level_more m j) (sound_at s rules (j + 1)))) in
    let end = block_end s rules j in
    let end-2 = block_end_2 s rules j in
    let start = at_needs s rules (j + 1) in
    let last = block_end s rules (j + 1) in
    let more = needs_rise s rules (j + 1 + 1) (j + 1) (omega arith) in (
      build_more s rules t u v w j c.loop-block.invariant.0 refined (at_level (Shows u) (c.refine-finer.ensures.shown (level m j) before)) settling settled listing listed,
      keeps_then (keeps_wider _ _ (omega arith) more c.loop-block.invariant.1) (keeps_then (keeps_wider _ _ (omega arith) (omega arith) refined) (keeps_then (keeps_wider _ _ (omega arith) (omega arith) settling) (keeps_wider _ _ (omega arith) (omega arith) listing))),
    )

pub settle-requires-2 : goal.settle-requires-2
settle-requires-2 c =
    let s = shape c.args.base.now in
    let rules = rules_from s c.args.base.now.rules in
    let j = c.loop-block.block-index in
    let m = surface s in
    let here : j ≡ c.args.levels - 1 = omega (arith, c.loop-block-test.false, c.loop-block.auto.block-index-end, length-take (c.args.levels - 1) c.args.blocks) in
    let laid = c.requires.laid (c.args.levels - 1) (omega arith) in
    let stands = subst (λ n. Standing c.loop-block.table (block_at (first_block s) n) (level m n)) here c.loop-block.invariant.0.standing in
    record {
      within = omega (arith, ap (λ b. b.at) laid, ap (λ b. b.corners) laid, block_end s rules (c.args.levels - 1), needs_rise s rules c.args.levels (c.args.levels - 1 + 1) (omega (arith, c.requires.some)), c.requires.within, c.loop-block.auto.table, c.list.auto.table, c.write_coarsest.auto.table);
      standing = (level m (c.args.levels - 1), subst (λ b. Standing c.loop-block.table b (level m (c.args.levels - 1))) (sym laid) stands);
    }

pub returns : goal.returns
returns c =
    let s = shape c.args.base.now in
    let rules = rules_from s c.args.base.now.rules in
    let levels = c.args.levels in
    let m = surface s in
    let j = c.loop-block.block-index in
    let t = c.loop-block.table in
    let u = c.settle-2.new.table in
    let here : j ≡ levels - 1 = omega (arith, c.loop-block-test.false, c.loop-block.auto.block-index-end, length-take (c.args.levels - 1) c.args.blocks) in
    let at : ℕ → Block = block_at (first_block s) in
    let laid : block_of c.args.blocks (levels - 1) ≡ at j = c.requires.laid (levels - 1) (omega arith) ∙ ap at (sym here) in
    let kept = subst (λ b. Keeps t u b.at (b.at + 16 * b.corners)) laid c.settle-2.ensures.kept in
    let last = subst (λ b. Settled u b (level m j)) laid (c.settle-2.ensures.settled (level m j) (subst (λ b. Standing t b (level m j)) (sym laid) c.loop-block.invariant.0.standing)) in
    let end = block_end s rules j in
    let whole : needs m (j + 1) ≤ needs m levels = needs_rise s rules levels (j + 1) (omega (arith, c.requires.some)) in
    let first = c.requires.laid 0 (omega arith) in
    let first-end = block_end s rules 0 in
    let first_start = at_needs s rules 0 in
    let first-whole = needs_rise s rules levels 1 c.requires.some in
    let corners = ap (λ b. b.corners) first in
    let start = ap (λ b. b.at) first in
    record {
      told = table_tells s rules u levels c.args.blocks c.requires.laid (λ i l.
          ⊎_elim
          (λ (low : i < j). settled_kept t u (at i) (level m i) _ _ (inl (omega (arith, block_end s rules i, at_needs s rules j, needs_rise s rules j (i + 1) (omega arith)))) kept (c.loop-block.invariant.0.settled i low))
          (λ (high : j ≤ i). let e : j ≡ i = omega arith in subst (λ n. Settled u (at n) (level m n)) e last)
          (cases_lt i j));
      kept = keeps_then (keeps_wider _ _ (omega arith) (omega arith) c.write_coarsest.ensures.kept) (keeps_then (keeps_wider _ _ (omega arith) (omega arith) c.list.ensures.kept) (keeps_then (keeps_wider _ _ (omega arith) whole c.loop-block.invariant.1) (keeps_wider _ _ (omega arith) (omega arith) kept)));
    }
