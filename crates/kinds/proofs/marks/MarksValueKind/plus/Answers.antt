use Rattle.kinds.proofs.Flags.{flag_sum}
use Rattle.kinds.proofs.marks.MarksValueKind.plus.Goals as goal

pub returns-clause-flags : goal.returns-clause-flags
returns-clause-flags c = flag_sum c.args.self c.args.other
