use Rattle.std.proofs.Common.{◌≡◌, ◌+◌, ◌<◌, ◌≤◌, get_or, set, sym, subst, ⊎_elim, arith}
use Rattle.std.proofs.lemmas.List.{get_or-set_same, get_or-set_other}
use Rattle.std.proofs.lemmas.Bool.{cases_lt}
use Rattle.plan.specs.Giving.{Gives}
use Rattle.plan.proofs.Places.{keeps_none, keeps_more, keeps_wider}
use Rattle.plan.proofs.write.write.Goals as goal

pub loop-i-init : goal.loop-i-init
loop-i-init g c = record { written = λ k h. absurd (omega arith); kept = keeps_none _ _ _ }

pub store-requires : goal.store-requires
store-requires g c = c.requires.small c.loop-i.i _ c.loop-i-test.true (record { table = _; kept = c.loop-i.invariant.kept; says = c.number-value.ensures })

pub loop-i-preserved : goal.loop-i-preserved
loop-i-preserved g c =
    let s = c.args.table.now in
    let t = c.loop-i.table in
    let at = c.args.at in
    let i = c.loop-i.i in
    let v = c.number-value.result in
    let now : Gives g.F.Fn c.args.number s at i v = record { table = _; kept = c.loop-i.invariant.kept; says = c.number-value.ensures } in
    rw (c.store.ensures) (record {
      written = λ k h. ⊎_elim
          (λ (low : k < i). subst (Gives g.F.Fn c.args.number s at k) (sym (get_or-set_other t (at + i) (at + k) v 0 (λ e. omega arith))) (c.loop-i.invariant.written k low))
          (λ (high : i ≤ k). let here : i ≡ k = omega arith in
          subst (λ j. Gives g.F.Fn c.args.number s at j (get_or (set t (at + i) v) (at + j) 0)) here (subst (Gives g.F.Fn c.args.number s at i) (sym (get_or-set_same t (at + i) v 0 (omega arith))) now))
          (cases_lt k i);
      kept = keeps_more i _ c.loop-i.invariant.kept;
    })

pub returns : goal.returns
returns g c = record { written = λ k h. c.loop-i.invariant.written k (omega arith); kept = keeps_wider _ _ (omega arith) (omega arith) c.loop-i.invariant.kept }
