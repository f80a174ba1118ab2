use Rattle.std.proofs.Common.{Err, length, refl, ap, ◌∙◌, arith}
use Rattle.std.proofs.lemmas.List.{length-map}
use Rattle.std.proofs.lemmas.Result.{err_from_is_err_and}
use native.Mathlib.Nat.{min-le_right}
use Rattle.history.specs.Promise.{lent_to}
use Rattle.capi.proofs.Promised.{performs_with_just_room}
use Rattle.capi.proofs.job.Job.run.Goals as goal

pub serve-requires : goal.serve-requires
serve-requires g c = record {
  slots = ap length (c.deref_mut.ensures.value ∙ c.in_ok-list.ensures) ∙ length-map _ _;
  answers = omega (arith, ap length c.deref_mut-2.ensures.value, c.in_ok-room.ensures, min-le_right (length c.args.self.now.calls.now) (length c.args.self.now.answers.now));
}

pub returns-in_err-serve-clause-run : goal.returns-in_err-serve-clause-run
returns-in_err-serve-clause-run g c =
    let p = err_from_is_err_and c.from_residual-in_err-serve.result c.from_residual-in_err-serve.ensures.1 in
    performs_with_just_room _ _ _ c.args.self.now.depth c.args.self.now.calls.now _ _ _ _ c.in_ok-calls.ensures.0 (p.1 ∙ ap Err p.2) (lent_to c.args.points.now c.deref_mut.result.now c.deref_mut-2.result.now) (lent_to c.serve.new.points c.serve.new.list c.serve.new.room) _ (c.deref.ensures.value ∙ c.in_ok-calls.ensures.1) refl (c.deref_mut.ensures.value ∙ c.in_ok-list.ensures) (ap length c.deref_mut-2.ensures.value ∙ c.in_ok-room.ensures) c.serve.auto.room c.in_err-serve.ensures.promise c.in_err-serve.ensures.written

pub returns-clause-run : goal.returns-clause-run
returns-clause-run g c =
    performs_with_just_room _ _ _ c.args.self.now.depth c.args.self.now.calls.now _ _ _ _ c.in_ok-calls.ensures.0 refl (lent_to c.args.points.now c.deref_mut.result.now c.deref_mut-2.result.now) (lent_to c.serve.new.points c.serve.new.list c.serve.new.room) _ (c.deref.ensures.value ∙ c.in_ok-calls.ensures.1) refl (c.deref_mut.ensures.value ∙ c.in_ok-list.ensures) (ap length c.deref_mut-2.ensures.value ∙ c.in_ok-room.ensures) c.serve.auto.room c.in_ok-serve.ensures.promise c.in_ok-serve.ensures.written
