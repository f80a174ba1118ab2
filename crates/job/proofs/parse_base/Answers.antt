use Rattle.std.proofs.Common.{arith, inl, rules}
use Rattle.job.proofs.Turns.{words_fit}
use Rattle.job.proofs.parse_base.Goals as goal

pub count-requires-clause-fits : goal.count-requires-clause-fits
count-requires-clause-fits c = inl (grind (arith, rules, words_fit c.args.arguments.0.now, c.next.ensures.goes, c.next-2.ensures.goes, c.well_formed.0))

pub overflow_add-result : goal.overflow_add-result
overflow_add-result c = grind (arith, rules, words_fit c.args.arguments.0.now, c.next.ensures.goes, c.next-2.ensures.goes, c.count.ensures, c.well_formed.0)
