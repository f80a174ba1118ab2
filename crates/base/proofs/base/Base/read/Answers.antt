use Rattle.std.proofs.Common.{ap, ◌∙◌}
use Rattle.std.proofs.lemmas.Result.{err_from_is_err_and, IfOk-from_err}
use Rattle.mesh.proofs.ReadsWritings.{reads_writings}
use Rattle.base.specs.Bases.{shape, counted}
use Rattle.base.proofs.Readings.{fault_answers, fault_of_writing, read_of_writing}
use Rattle.base.proofs.base.Base.read.Goals as goal

pub returns-in_err-base : goal.returns-in_err-base
returns-in_err-base c =
    let p = err_from_is_err_and c.from_residual.result c.from_residual.ensures.1 in
    let f = c.in_err-base.field-0.0 in
    let failed = c.in_err-base.ensures in
    record {
      answer = rw (p.1, p.2) (fault_answers c.args.bytes.now f c.args.self.now failed);
      written = λ s rules e. rw (p.1, p.2) (fault_of_writing c.args.bytes.now f failed s rules e);
      writing = IfOk-from_err c.from_residual.result _ c.from_residual.ensures.0;
    }

pub returns : goal.returns
returns c =
    let read = c.in_ok-base.ensures in
    let counts = c.counts-counts.ensures in
    record {
      answer = (read, counts);
      written = λ s rules e. let same = read_of_writing c.args.bytes.now (shape c.in_ok-base.base) read s rules e in (same, counts ∙ ap counted same);
      writing = reads_writings c.args.bytes.now (shape c.in_ok-base.base) read;
    }
