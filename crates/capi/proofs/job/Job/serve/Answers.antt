use Rattle.std.proofs.Common.{◌≡◌, ◌++◌, ◌≤◌, map, length, take, drop, refl, ap, ◌∙◌, arith}
use Rattle.std.proofs.lemmas.List.{length-take-le}
use Rattle.std.proofs.lemmas.Result.{err_from_is_err_and}
use Rattle.lifting.specs.HalfSteps.{rule}
use Rattle.history.specs.Promise.{lent_to}
use Rattle.capi.specs.Jobs.{handed, beside}
use Rattle.capi.specs.Records.{slot_record, answer_record}
use Rattle.capi.proofs.Fronts.{front_whole}
use Rattle.capi.proofs.Promised.{refused_stays, few_made}
use Rattle.capi.proofs.job.Job.serve.Goals as goal

pub returns-in_err-count : goal.returns-in_err-count
returns-in_err-count g c =
    let p = err_from_is_err_and c.from_residual.result c.from_residual.ensures.1 in
    let before = lent_to c.args.points.now c.args.list.now c.args.room.now in
    let left = lent_to c.perform.new.points c.perform.new.slots c.perform.new.answers in
    let m = g.H.Hierarchy.meaning c.args.h.now in
    let r = rule g.S.Scheme g.V.ValueKind c.args.s.now in
    let stays : left ≡ before = refused_stays m r (g.S.Scheme.uniform c.args.s.now) c.args.self.now.depth c.args.calls.now before left _ c.in_err-count.ensures in
    rw (p.1, p.2) (record { promise = c.in_err-count.ensures; written = ap (λ x. beside x.points c.args.self.now) stays; same = (refl, refl) })

pub slice_bounds-answered-end : goal.slice_bounds-answered-end
slice_bounds-answered-end g c =
    let before = lent_to c.args.points.now c.args.list.now c.args.room.now in
    let m = g.H.Hierarchy.meaning c.args.h.now in
    let r = rule g.S.Scheme g.V.ValueKind c.args.s.now in
    let few = few_made m r (g.S.Scheme.uniform c.args.s.now) c.args.self.now.depth c.args.calls.now before (lent_to c.perform.new.points c.perform.new.slots c.perform.new.answers) c.in_ok-count.count c.in_ok-count.ensures in
    omega (arith, few, c.perform.auto.answers)

pub returns : goal.returns
returns g c =
    let before = lent_to c.args.points.now c.args.list.now c.args.room.now in
    let m = g.H.Hierarchy.meaning c.args.h.now in
    let r = rule g.S.Scheme g.V.ValueKind c.args.s.now in
    let n = c.in_ok-count.count in
    let list = c.perform.new.slots in
    let room = c.perform.new.answers in
    let few = few_made m r (g.S.Scheme.uniform c.args.s.now) c.args.self.now.depth c.args.calls.now before (lent_to c.perform.new.points list room) n c.in_ok-count.ensures in
    let within : n ≤ length room = omega (arith, few, c.perform.auto.answers) in
    let slots : c.write_front.new.records ≡ map (slot_record g.V.Crossing.leaves) list = c.write_front.ensures (slot_record g.V.Crossing.leaves) (λ x y e. e) ∙ front_whole (slot_record g.V.Crossing.leaves) list c.args.self.now.slots.now (omega (arith, c.requires.slots, c.perform.auto.slots)) in
    let answers : c.write_front-2.new.records ≡ map (answer_record g.V.Crossing.leaves) (take n room) ++ drop n c.args.self.now.answers.now = c.write_front-2.ensures (answer_record g.V.Crossing.leaves) (λ x y e. e) ∙ ap (λ k. map (answer_record g.V.Crossing.leaves) (take n room) ++ drop k c.args.self.now.answers.now) (length-take-le n room within) in
    record { promise = c.in_ok-count.ensures; written = λ i. handed c.perform.new.points (slots i) (answers i); same = (refl, refl) }
