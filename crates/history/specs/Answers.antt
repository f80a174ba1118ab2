-- A reply or a refusal, and what a call returns, as an answer.
use Rattle.std.specs.Prelude.{ℕ, Ok, Err, Result}
use Rattle.refusal.specs.declared.Refusal.{Refusal}
use Rattle.history.specs.declared.answer.Reply.{Reply}
use Rattle.history.specs.declared.answer.Reply.TheVariants.{Depth, Count, Value}

abbrev pub Answer : Type 0 → Type 0
Answer V = Result (Reply V) Refusal

abbrev pub depth_answer : {V : Type 0} → Result ℕ Refusal → Answer V
depth_answer (Ok n) = Ok (Depth n)
depth_answer (Err e) = Err e

abbrev pub count_answer : {V : Type 0} → Result ℕ Refusal → Answer V
count_answer (Ok n) = Ok (Count n)
count_answer (Err e) = Err e

abbrev pub value_answer : {V : Type 0} → Result V Refusal → Answer V
value_answer (Ok v) = Ok (Value v)
value_answer (Err e) = Err e
