use Rattle.std.proofs.Common.{ap, ◌∙◌}
use Rattle.kinds.specs.MarkSums.{flag}
use Rattle.schemes.proofs.Shares.{flag_in_common}
use Rattle.schemes.proofs.marks_scheme.MarksSchemeScheme.amount.Goals as goal

pub returns-in-Second-clause-flags : goal.returns-in-Second-clause-flags
returns-in-Second-clause-flags c q k h = rw c.in-Second.is (ap (λ m. flag m k) (c.in_common.ensures q h) ∙ flag_in_common k q.vertices)
