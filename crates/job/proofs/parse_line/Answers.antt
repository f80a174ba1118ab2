use Rattle.std.proofs.Common.{rules}
use Rattle.job.proofs.Readings.{as_written}
use Rattle.job.proofs.parse_line.Goals as goal

pub returns-in_err-parse_base-in-Some-base-clause-written : goal.returns-in_err-parse_base-in-Some-base-clause-written
returns-in_err-parse_base-in-Some-base-clause-written c = as_written c.args.line.now _ (search rules)

pub returns-in-None-clause-written : goal.returns-in-None-clause-written
returns-in-None-clause-written c = as_written c.args.line.now _ (search rules)

pub returns-in-Some-clause-written : goal.returns-in-Some-clause-written
returns-in-Some-clause-written c = as_written c.args.line.now _ (search rules)

pub returns-in_ok-parse_base-in-Some-base-clause-written : goal.returns-in_ok-parse_base-in-Some-base-clause-written
returns-in_ok-parse_base-in-Some-base-clause-written c = as_written c.args.line.now _ (search rules)

pub returns-in-Some-2-clause-written : goal.returns-in-Some-2-clause-written
returns-in-Some-2-clause-written c = as_written c.args.line.now _ (search rules)
