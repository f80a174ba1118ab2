-- Which openings and calls are refused, by rows 17 to 22 of the table of refusals. Checks run down the table.
use Rattle.std.specs.Prelude.{ℕ, Bool, cond, not, ◌||◌, Ok, Err, Result, ◌==◌, nat_le, nat_lt}
use Rattle.hierarchy.specs.Meaning.{Meaning}
use Rattle.hierarchy.specs.Uniform.{uniform}
use Rattle.refusal.specs.declared.Refusal.{Refusal}
use Rattle.refusal.specs.declared.Refusal.TheVariants.{NotUniform, WrongLength, NoSuchDepth, NoSuchPlace, ListFull, NoSurvivingMove}
use Rattle.history.specs.Answers.{Answer}
use Rattle.history.specs.declared.answer.Reply.{Reply}
use Rattle.history.specs.declared.call.Request.{Request}
use Rattle.history.specs.declared.call.Request.TheVariants.{Analyse, Synthesise, Move, TakeBack, Read}
use Rattle.history.specs.declared.state.State.{State}

-- go ahead, or a refusal
abbrev pub Verdict : Type 0
Verdict = Result (Unit {0}) Refusal

-- refused unless the test passes
abbrev pub unless_passed : Bool → Refusal → Verdict
unless_passed test e = cond test (Ok tt) (Err e)

-- one check, and then the next
abbrev pub and_then : Verdict → Verdict → Verdict
and_then (Ok x) next = next
and_then (Err e) next = Err e

-- what becomes of something where there is no refusal; a refused call changes nothing
abbrev pub unless_refused : {A : Type 0} → Verdict → A → A → A
unless_refused (Ok x) after before = after
unless_refused (Err e) after before = before

-- the reply where there is no refusal, or else the refusal
abbrev pub answered : {V : Type 0} → Verdict → Reply V → Answer V
answered (Ok x) a = Ok a
answered (Err e) a = Err e

-- a place is a number below this one
abbrev pub finest : Meaning → ℕ
finest m = m.vertices m.levels

-- an opening: whether the scheme needs a uniform hierarchy, how many points and slots are handed in, and the depth
abbrev pub opening_verdict : Meaning → Bool → ℕ → ℕ → ℕ → Verdict
opening_verdict m needs points slots depth =
    and_then
    (unless_passed (not needs || uniform m) NotUniform)
    (and_then
    (unless_passed (points == finest m) (WrongLength points))
    (and_then (unless_passed (nat_le slots 4096) (WrongLength slots)) (unless_passed (nat_le depth m.levels) (NoSuchDepth depth))))

-- what is lent has to be as long as what was opened: the points, as many as there are places, then the move list
abbrev pub lent_verdict : Meaning → State → ℕ → ℕ → Verdict
lent_verdict m st points slots =
    and_then (unless_passed (points == finest m) (WrongLength points)) (unless_passed (slots == st.slots) (WrongLength slots))

-- and what a request itself asks for
abbrev pub request_verdict : {V : Type 0} → Meaning → State → Request V → Verdict
request_verdict m st Analyse = unless_passed (nat_lt 0 st.depth) (NoSuchDepth st.depth)
request_verdict m st Synthesise = unless_passed (nat_lt st.depth m.levels) (NoSuchDepth st.depth)
request_verdict m st (Move place amount) =
    and_then (unless_passed (nat_lt place (finest m)) (NoSuchPlace place)) (unless_passed (nat_lt st.survivors st.slots) (ListFull st.survivors))
request_verdict m st TakeBack = unless_passed (nat_lt 0 st.survivors) NoSurvivingMove
request_verdict m st (Read place) = unless_passed (nat_lt place (finest m)) (NoSuchPlace place)
