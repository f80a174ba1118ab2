-- A history with the amounts of moves at named places left out: every call makes of it what it makes of the whole history.
use Rattle.std.proofs.Common.{◌≡◌, ℕ, ◌-◌, Bool, false, cond, List, [], ◌∷◌, map, length, take, Ok, Err, sym, refl, ap, ◌∙◌}
use Rattle.std.proofs.lemmas.List.{map-append, length-map, take-map}
use Rattle.hierarchy.specs.Meaning.{Meaning}
use Rattle.lifting.specs.HalfSteps.{Rule}
use Rattle.history.specs.declared.answer.Reply.{Reply}
use Rattle.history.specs.declared.call.Call.{Call}
use Rattle.history.specs.declared.call.Request.{Request}
use Rattle.history.specs.declared.call.Request.TheVariants.{Analyse, Synthesise, Move, TakeBack, Read}
use Rattle.history.specs.declared.slot.Slot.{Slot}
use Rattle.history.specs.declared.state.State.{State}
use Rattle.history.specs.Rows.{Verdict, and_then, unless_refused, answered, lent_verdict, request_verdict}
use Rattle.history.specs.Histories.{History, made, values, state_of, verdict, granted, next, reply, answer}
use Rattle.history.specs.Runs.{lent, after, answers}
use Rattle.history.specs.Reach.{joining, marked, marks}
use Rattle.history.specs.Promise.{blank_request, blank, outline}
use Rattle.history.proofs.Agreeing.{Agree, agree_from, travelled_agrees, added_agrees}

module _ {V : Type 0} (m : Meaning) (r : Rule V) (named : ℕ → Bool) where
  abbrev pub blank_slot : Slot V → Slot V
  blank_slot s = record { place = s.place; depth = s.depth; amount = cond (named s.place) r.zero s.amount }

  abbrev pub blanked : History V → History V
  blanked h = record { opening = h.opening; depth = h.depth; moves = map blank_slot h.moves }

  pub state_blanked : (h : History V) → state_of (blanked h) ≡ state_of h
  state_blanked h = λ i. record { depth = h.depth; survivors = length-map h.moves blank_slot i; slots = h.opening.slots }

  marked_blank : (ms : List (Slot V)) → map (marked named) (map blank_slot ms) ≡ map (marked named) ms
  marked_blank [] = refl
  marked_blank (s ∷ ms) = ap (λ xs. marked named s ∷ xs) (marked_blank ms)

  -- so the reach is the same
  pub marks_blanked : (h : History V) → marks named (blanked h) ≡ marks named h
  marks_blanked h = λ i. record {
    opening = (marks named h).opening;
    depth = h.depth;
    moves = marked_blank h.moves i;
  }

  same_request : (st : State) (request : Request V) → request_verdict m st (blank_request named r.zero request) ≡ request_verdict m st request
  same_request st Analyse = refl
  same_request st Synthesise = refl
  same_request st (Move place amount) = refl
  same_request st TakeBack = refl
  same_request st (Read place) = refl

  pub verdict_blanked : (h : History V) (c : Call V) → verdict m (blanked h) (blank named r.zero c) ≡ verdict m h c
  verdict_blanked h c =
      ap (λ st. and_then (lent_verdict m st c.points c.slots) (request_verdict m st (blank_request named r.zero c.request))) (state_blanked h)
      ∙ ap (and_then (lent_verdict m (state_of h) c.points c.slots)) (same_request (state_of h) c.request)

  granted_blanked : (h : History V) (request : Request V) → granted (blanked h) (blank_request named r.zero request) ≡ blanked (granted h request)
  granted_blanked h Analyse = refl
  granted_blanked h Synthesise = refl
  granted_blanked h (Move place amount) = λ i. record {
    opening = h.opening;
    depth = h.depth;
    moves = sym (map-append blank_slot h.moves (record { place = place; depth = h.depth; amount = amount } ∷ [])) i;
  }
  granted_blanked h TakeBack =
      let fewer : take (length (map blank_slot h.moves) - 1) (map blank_slot h.moves) ≡ map blank_slot (take (length h.moves - 1) h.moves)
      = ap (λ n. take (n - 1) (map blank_slot h.moves)) (length-map h.moves blank_slot) ∙ take-map blank_slot (length h.moves - 1) h.moves in
      λ i. record { opening = h.opening; depth = h.depth; moves = fewer i }
  granted_blanked h (Read place) = refl

  unless_blanked : (v : Verdict) (a b : History V) → unless_refused v (blanked a) (blanked b) ≡ blanked (unless_refused v a b)
  unless_blanked (Ok x) a b = refl
  unless_blanked (Err e) a b = refl

  pub next_blanked : (h : History V) (c : Call V) → next m (blanked h) (blank named r.zero c) ≡ blanked (next m h c)
  next_blanked h c =
      ap (λ v. unless_refused v (granted (blanked h) (blank_request named r.zero c.request)) (blanked h)) (verdict_blanked h c)
      ∙ ap (λ x. unless_refused (verdict m h c) x (blanked h)) (granted_blanked h c.request) ∙ unless_blanked (verdict m h c) (granted h c.request) h

  outline_reply : (st : State) (vs ws : List V) (request : Request V) → outline (Ok (reply r st vs (blank_request named r.zero request))) ≡ outline (Ok (reply r st ws request))
  outline_reply st vs ws Analyse = refl
  outline_reply st vs ws Synthesise = refl
  outline_reply st vs ws (Move place amount) = refl
  outline_reply st vs ws TakeBack = refl
  outline_reply st vs ws (Read place) = refl

  outline_answered : (v : Verdict) (a b : Reply V) → outline (Ok a) ≡ outline (Ok b) → outline (answered v a) ≡ outline (answered v b)
  outline_answered (Ok x) a b e = e
  outline_answered (Err x) a b e = refl

  answer_blanked : (h : History V) (c : Call V) → outline (answer m r (blanked h) (blank named r.zero c)) ≡ outline (answer m r h c)
  answer_blanked h c =
      let blank-next = granted (blanked h) (blank_request named r.zero c.request) in
      let state : state_of blank-next ≡ state_of (granted h c.request) = ap state_of (granted_blanked h c.request) ∙ state_blanked (granted h c.request) in
      ap (λ v. outline (answered v (reply r (state_of blank-next) (values m r blank-next) (blank_request named r.zero c.request)))) (verdict_blanked h c)
      ∙ outline_answered
      (verdict m h c)
      _
      _
      (ap (λ st. outline (Ok (reply r st (values m r blank-next) (blank_request named r.zero c.request)))) state
      ∙ outline_reply (state_of (granted h c.request)) (values m r blank-next) (values m r (granted h c.request)) c.request)

  pub after_blanked : (h : History V) (cs : List (Call V)) → after m (blanked h) (map (blank named r.zero) cs) ≡ blanked (after m h cs)
  after_blanked h [] = refl
  after_blanked h (c ∷ cs) = ap (λ x. after m x (map (blank named r.zero) cs)) (next_blanked h (lent m h c)) ∙ after_blanked (next m h (lent m h c)) cs

  pub answers_blanked : (h : History V) (cs : List (Call V)) → map outline (answers m r (blanked h) (map (blank named r.zero) cs)) ≡ map outline (answers m r h cs)
  answers_blanked h [] = refl
  answers_blanked h (c ∷ cs) =
      ap (λ x. outline (answer m r (blanked h) (blank named r.zero (lent m h c))) ∷ map outline (answers m r x (map (blank named r.zero) cs))) (next_blanked h (lent m h c))
      ∙ (λ i. answer_blanked h (lent m h c) i ∷ answers_blanked (next m h (lent m h c)) cs i)

  amount_kept : (t : Bool) (z a : V) → t ≡ false → a ≡ cond t z a
  amount_kept t z a e = ap (λ b. cond b z a) (sym e)

  made_agrees : (from : ℕ) (ms : List (Slot V)) (to : ℕ) {bs : List Bool} {vs ws : List V} → Agree r.zero bs vs ws → Agree r.zero (made m joining from bs (map (marked named) ms) to) (made m r from vs ms to) (made m r from ws (map blank_slot ms) to)
  made_agrees from [] to agree = travelled_agrees m r from to agree
  made_agrees from (s ∷ ms) to agree =
      made_agrees s.depth ms to
      (added_agrees m r s.place (named s.place) s.amount (cond (named s.place) r.zero s.amount) (amount_kept (named s.place) r.zero s.amount) (travelled_agrees m r from s.depth agree))

  -- the values agree outside the reach
  pub values_agree : (h : History V) → Agree r.zero (values m joining (marks named h)) (values m r h) (values m r (blanked h))
  unfolding values
  values_agree h = made_agrees h.opening.depth h.moves h.depth (agree_from r.zero h.opening.values)
