use Rattle.std.proofs.Common.{[], ap, ◌∙◌, arith, rules, true-eqb, false-eqb, refl, length}
use Rattle.std.proofs.lemmas.List.{nil_from_length}
use Rattle.job.specs.Words.{words}
use Rattle.job.proofs.Cuts.{words_nil}
use Rattle.job.proofs.Turns.{words_trimmed, first_word}
use Rattle.job.proofs.WordsIterator.next.Goals as goal

pub returns-then-is_empty-clause-steps : goal.returns-then-is_empty-clause-steps
returns-then-is_empty-clause-steps c =
    let trimmed = c.trim_start_matches-start in
    let none = ap words (nil_from_length trimmed.result.now (true-eqb _ 0 c.if-is_empty.ensures)) ∙ words_nil in
    (words_trimmed _ _ trimmed.ensures.matches ∙ none, none)

pub returns-clause-steps : goal.returns-clause-steps
returns-clause-steps c =
    let start = c.trim_start_matches-start in
    rw c.unwrap_or.ensures (first_word _ start.result.now c.split_once.result (start.result, record { ref_ptr = _; now = [] }) start.ensures.matches c.split_once.ensures.cases (omega (arith, false-eqb (length start.result.now) 0 c.if-is_empty.ensures)) refl refl)

pub returns-clause-goes : goal.returns-clause-goes
returns-clause-goes c = let more = ap length (returns-clause-steps c) in search rules
