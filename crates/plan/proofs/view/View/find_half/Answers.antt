use Rattle.std.proofs.Common.{◌≡◌, ◌<◌, ◌≤◌, sym, ap, ◌∙◌, ⊎_elim, arith}
use Rattle.std.proofs.lemmas.Bool.{cases_lt}
use Rattle.plan.specs.declared.block.Array.TheVariants.{Ends, VertexHalves}
use Rattle.plan.specs.Layout.{reads}
use Rattle.plan.specs.Written.{twin}
use Rattle.plan.proofs.Finding.{found_half, never_missed}
use Rattle.plan.proofs.view.View.find_half.Goals as goal

pub loop-k-init : goal.loop-k-init
loop-k-init c = λ j l h e. omega arith

pub loop-k-preserved : goal.loop-k-preserved
loop-k-preserved c = λ j l h e.
    ⊎_elim (λ (low : j < c.loop-k.k). c.loop-k.invariant j l low e)
    (λ (high : c.loop-k.k ≤ j). let here : j ≡ c.loop-k.k = omega arith in
    c.if-end-to.false (c.end.ensures.value ∙ ap (reads c.args.self.now.table.now c.args.self.now.block Ends) (c.twin.ensures ∙ ap twin (c.entry-half.ensures.value ∙ ap (reads c.args.self.now.table.now c.args.self.now.block VertexHalves) (sym here))) ∙ e))
    (cases_lt j c.loop-k.k)

pub returns-then-end-to : goal.returns-then-end-to
returns-then-end-to c = record {
  found = λ m e ended listed sound l s r only.
      found_half m sound c.args.from c.args.to c.args.self.now.table.now c.args.self.now.block ended listed l c.loop-k.k c.entry-half.result
      (omega (arith, c.list_start-first.ensures.value, c.loop-k.auto.k)) (omega (arith, c.entry-end.ensures.value, c.loop-k-test.true)) c.entry-half.ensures.value
      (ap (reads c.args.self.now.table.now c.args.self.now.block Ends) (sym c.twin.ensures) ∙ sym c.end.ensures.value ∙ c.if-end-to.true) e only;
  small = c.entry-half.ensures.small;
}

pub returns : goal.returns
returns c = record {
  found = λ m e ended listed sound l s r only.
      absurd (never_missed m sound c.args.from c.args.to c.args.self.now.table.now c.args.self.now.block ended listed l e s r
      (λ j low high z. c.loop-k.invariant j (omega (arith, c.list_start-first.ensures.value)) (omega (arith, c.entry-end.ensures.value, c.loop-k-test.false)) z));
  small = omega arith;
}
