use Rattle.std.proofs.Common.{◌≡◌, ℕ, List, length, get_or, vec_items, sym, refl, ap, ◌∙◌, subst, arith}
use Rattle.std.proofs.lemmas.List.{with_items_is}
use Rattle.hierarchy.specs.Lawful.{Lawful}
use Rattle.mesh.proofs.Certain.{rules_from}
use Rattle.base.specs.Bases.{shape}
use Rattle.plan.specs.Planning.{tells}
use Rattle.plan.proofs.Surveying.{need_at, planned_short, planned_filled, surveyed_lawful}
use Rattle.plan.proofs.plan.Plan.plan_base.Goals as goal

pub returns-then-len-need : goal.returns-then-len-need
returns-then-len-need c =
    let s = shape c.args.base.now in
    record {
      answer = sym (planned_short s (rules_from s c.args.base.now.rules) c.args.levels c.in_ok-blocks.blocks c.in_ok-blocks.ensures _ (omega (arith, c.len.ensures, c.if-len-need.true)));
      done = tt;
      former = tt;
      stays = (refl, refl);
    }

pub fill_levels-requires : goal.fill_levels-requires
fill_levels-requires c =
    let s = shape c.args.base.now in
    let found = c.in_ok-blocks.ensures in
    record { some = found.some; few = found.few; laid = found.laid; within = omega (arith, need_at s (rules_from s c.args.base.now.rules) c.args.levels c.in_ok-blocks.blocks found, c.if-len-need.false, c.len.ensures, c.deref_mut.ensures.len) }

pub invariant_of-self : goal.invariant_of-self
invariant_of-self c =
    let s = shape c.args.base.now in
    let found = c.in_ok-blocks.ensures in
    let filled : vec_items c.swap.new.x ≡ c.fill_levels.new.table = ap vec_items c.swap.ensures.x_after ∙ with_items_is c.args.table.now c.fill_levels.new.table (c.fill_levels.auto.table ∙ c.deref_mut.ensures.len) in
    let told = ap (λ (l : List ℕ). tells l c.args.levels c.in_ok-blocks.blocks) filled ∙ c.fill_levels.ensures.told in
    record {
      shallow = found.few;
      lawful = ∣ subst Lawful (sym told) (surveyed_lawful s (rules_from s c.args.base.now.rules) c.args.levels c.in_ok-blocks.blocks found) ∣₁;
    }

pub returns : goal.returns
returns c =
    let s = shape c.args.base.now in
    let found = c.in_ok-blocks.ensures in
    let rules = rules_from s c.args.base.now.rules in
    let table = c.args.table.now in
    let filled : vec_items c.swap.new.x ≡ c.fill_levels.new.table = ap vec_items c.swap.ensures.x_after ∙ with_items_is table c.fill_levels.new.table (c.fill_levels.auto.table ∙ c.deref_mut.ensures.len) in
    let before = c.deref_mut.ensures.value in
    record {
      answer = sym (planned_filled s rules c.args.levels c.in_ok-blocks.blocks found _ (omega (arith, c.len.ensures, c.if-len-need.false)));
      done = record {
        meaning = ap (λ (l : List ℕ). tells l c.args.levels c.in_ok-blocks.blocks) filled ∙ c.fill_levels.ensures.told;
        size = ap length filled ∙ c.fill_levels.auto.table ∙ ap length before;
        beyond = λ i l. ap (λ (xs : List ℕ). get_or xs i 0) filled ∙ c.fill_levels.ensures.kept.above i l ∙ ap (λ (xs : List ℕ). get_or xs i 0) before;
      };
      former = c.swap.ensures.y_after;
      stays = tt;
    }
