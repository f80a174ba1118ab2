use Rattle.std.proofs.Common.{◌≡◌, ℕ, ◌+◌, ◌^◌, ◌<◌, List, [], ◌∷◌, ◌++◌, length, get_or, filter, sym, refl, ap, ◌∙◌, subst, append_assoc, append-nil, length-append, arith}
use Rattle.std.proofs.lemmas.List.{get_or_read}
use Rattle.schemes.specs.declared.steps.Class.{Class}
use Rattle.lifting.specs.Places.{first_place}
use Rattle.lifting.specs.Reading.{values_of}
use Rattle.lifting.specs.Gathering.{with_read}
use Rattle.lifting.proofs.Gathering.{listed_next, turn_reads, turn_passes, target_begins, stands_inside, few_places}
use Rattle.lifting.proofs.reading.Points.gather.Given.{Over}
use Rattle.lifting.proofs.reading.Points.gather.Goals as goal

-- a listed number stands at a place of the values
place : (g : Over) (c : goal.Then-is_read g) → c.first-from.result + c.in-Some.number < length c.args.self.now.values.now
place g c =
    let p = c.args.self.now in
    let m = g.H.Hierarchy.meaning p.h.now in
    let ns = c.loop-number.yielded in
    let all : ns ++ c.in-Some.number ∷ c.next.new.self ≡ m.list p.at.level c.args.link c.args.of = listed_next ns c.in-Some.ensures.steps c.loop-number.invariant.all in
    stands_inside (g.H.Hierarchy.lawful p.h.now) p.laid c.args.link c.args.of ns c.next.new.self c.in-Some.number c.target-class.ensures c.first-from.ensures all

pub overflow_add-from : goal.overflow_add-from
overflow_add-from g c = record { fits = omega (arith, place g c, few_places (g.H.Hierarchy.lawful c.args.self.now.h.now) c.args.self.now.laid) }

pub offset_bounds-values-from : goal.offset_bounds-values-from
offset_bounds-values-from g c = omega (arith, place g c)

pub bounds-values-from : goal.bounds-values-from
bounds-values-from g c = place g c

pub loop-number-init : goal.loop-number-init
loop-number-init g c =
    record {
      all = c.into_iter-number-iterator.ensures.into_iter_gives ∙ c.members_of-number-items.ensures;
      sums = λ read tells q start. start;
    }

pub loop-number-preserved-then-is_read : goal.loop-number-preserved-then-is_read
loop-number-preserved-then-is_read g c =
    let p = c.args.self.now in
    let m = g.H.Hierarchy.meaning p.h.now in
    let lawful = g.H.Hierarchy.lawful p.h.now in
    let level = p.at.level in
    let link = c.args.link in
    let class = c.target-class.result in
    let ns = c.loop-number.yielded in
    let number = c.in-Some.number in
    let value : ℕ → g.row.S-Value.Denot = λ n. get_or p.values.now (first_place m level class + n) g.S.Value.ValueKind.zero in
    let all : ns ++ number ∷ c.next.new.self ≡ m.list level link c.args.of = listed_next ns c.in-Some.ensures.steps c.loop-number.invariant.all in
    let few : length ns < 8 = omega (arith, ap length all, length-append ns (number ∷ c.next.new.self), lawful.short level link c.args.of) in
    let from : c.first-from.result ≡ first_place m level class = target_begins lawful p.laid link c.target-class.ensures c.first-from.ensures ∙ ap (first_place m level) (sym c.target-class.ensures) in
    let here : c.first-from.result + number ≡ first_place m level class + number = omega arith in
    let room = stands_inside lawful p.laid link c.args.of ns c.next.new.self number c.target-class.ensures c.first-from.ensures all in
    let small : number < 2 ^ 64 = omega (arith, room, few_places lawful p.laid) in
    let x : c.index-values-from.result ≡ value number = get_or_read p.values.now (c.first-from.result + number) _ room c.index-values-from.is g.S.Value.ValueKind.zero ∙ ap (λ n. get_or p.values.now n g.S.Value.ValueKind.zero) here in
    record {
      all = append_assoc ns (number ∷ []) c.next.new.self ∙ all;
      sums = λ read tells q start. turn_reads g.S.Scheme.holds value read ns number q class refl x few (sym (tells number c.is_read.result small c.is_read.ensures) ∙ c.if-is_read.true) c.gather-sum.ensures (c.loop-number.invariant.sums read tells q start);
    }

pub loop-number-preserved : goal.loop-number-preserved
loop-number-preserved g c =
    let p = c.args.self.now in
    let m = g.H.Hierarchy.meaning p.h.now in
    let lawful = g.H.Hierarchy.lawful p.h.now in
    let level = p.at.level in
    let link = c.args.link in
    let class = c.target-class.result in
    let ns = c.loop-number.yielded in
    let number = c.in-Some.number in
    let value : ℕ → g.row.S-Value.Denot = λ n. get_or p.values.now (first_place m level class + n) g.S.Value.ValueKind.zero in
    let all : ns ++ number ∷ c.next.new.self ≡ m.list level link c.args.of = listed_next ns c.in-Some.ensures.steps c.loop-number.invariant.all in
    let room = stands_inside lawful p.laid link c.args.of ns c.next.new.self number c.target-class.ensures c.first-from.ensures all in
    let small : number < 2 ^ 64 = omega (arith, room, few_places lawful p.laid) in
    record {
      all = append_assoc ns (number ∷ []) c.next.new.self ∙ all;
      sums = λ read tells q start. turn_passes g.S.Scheme.holds value read ns number q class (sym (tells number c.is_read.result small c.is_read.ensures) ∙ c.if-is_read.false) (c.loop-number.invariant.sums read tells q start);
    }

pub returns : goal.returns
returns g c read tells q start =
    let p = c.args.self.now in
    let m = g.H.Hierarchy.meaning p.h.now in
    let level = p.at.level in
    let class = c.target-class.ensures in
    let ns = c.loop-number.yielded in
    let all : ns ≡ m.list level c.args.link c.args.of = sym (append-nil ns) ∙ ap (λ (r : List ℕ). ns ++ r) (sym c.in-None.ensures.steps.0) ∙ c.loop-number.invariant.all in
    let done = c.loop-number.invariant.sums read tells q (subst (λ (x : Class). g.S.Scheme.holds c.args.start (with_read x [] q)) (sym class) start) in
    subst (λ (x : Class). g.S.Scheme.holds c.loop-number.sum (with_read x (values_of m g.S.Value.ValueKind.zero p.values.now level x (filter read (m.list level c.args.link c.args.of))) q)) class
    (subst (λ (l : List ℕ). g.S.Scheme.holds c.loop-number.sum (with_read c.target-class.result (values_of m g.S.Value.ValueKind.zero p.values.now level c.target-class.result (filter read l)) q)) all done)
