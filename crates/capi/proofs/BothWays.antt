-- Records of calls and answers, there and back.
use Rattle.std.proofs.Common.{◌≡◌, ℕ, true, cond, eqb, Ok, Err, sym, refl, ap, ◌∙◌}
use Rattle.refusal.specs.Table.{row}
use Rattle.refusal.specs.declared.Refusal.{Refusal}
use Rattle.refusal.specs.declared.Refusal.TheVariants.{Truncated, UnknownKind, OutOfOrder, BadVertex, BadCurve, ThirdFace, TooMany, TrailingByte, OpenEdge, BadValence, BadDimension, LevelCount, TooFine, TableTooShort, RefinedValence, CurveSize, NotUniform, WrongLength, NoSuchDepth, NoSuchPlace, ListFull, NoSurvivingMove, SpoiledSlot}
use Rattle.history.specs.Answers.{Answer}
use Rattle.history.specs.declared.answer.Reply.TheVariants.{Depth, Count, Value}
use Rattle.history.specs.declared.call.Request.{Request}
use Rattle.history.specs.declared.call.Request.TheVariants.{Analyse, Synthesise, Move, TakeBack, Read}
use Rattle.capi.specs.declared.crossing.Crossing as Crossing
use Rattle.capi.specs.declared.records.AnswerRecord.{AnswerRecord}
use Rattle.capi.specs.Records.{known, asking, call_of, answer_record, Askable, Distinct}

-- the refusal that a row with its value stands for
abbrev refusal_of : ℕ → ℕ → Refusal
refusal_of n v = cond (eqb n 1) (Truncated v) (cond (eqb n 2) (UnknownKind v) (cond (eqb n 3) (OutOfOrder v) (cond (eqb n 4) (BadVertex v) (cond (eqb n 5) (BadCurve v) (cond (eqb n 6) (ThirdFace v) (cond (eqb n 7) (TooMany v) (cond (eqb n 8) (TrailingByte v) (cond (eqb n 9) (OpenEdge v) (cond (eqb n 10) (BadValence v) (cond (eqb n 11) (BadDimension v) (cond (eqb n 12) (LevelCount v) (cond (eqb n 13) (TooFine v) (cond (eqb n 14) (TableTooShort v) (cond (eqb n 15) (RefinedValence v) (cond (eqb n 16) (CurveSize v) (cond (eqb n 17) NotUniform (cond (eqb n 18) (WrongLength v) (cond (eqb n 19) (NoSuchDepth v) (cond (eqb n 20) (NoSuchPlace v) (cond (eqb n 21) (ListFull v) (cond (eqb n 22) NoSurvivingMove (SpoiledSlot v))))))))))))))))))))))

refusal_back : (e : Refusal) → refusal_of (row e).number (row e).value ≡ e
refusal_back (Truncated v) = refl
refusal_back (UnknownKind v) = refl
refusal_back (OutOfOrder v) = refl
refusal_back (BadVertex v) = refl
refusal_back (BadCurve v) = refl
refusal_back (ThirdFace v) = refl
refusal_back (TooMany v) = refl
refusal_back (TrailingByte v) = refl
refusal_back (OpenEdge v) = refl
refusal_back (BadValence v) = refl
refusal_back (BadDimension v) = refl
refusal_back (LevelCount v) = refl
refusal_back (TooFine v) = refl
refusal_back (TableTooShort v) = refl
refusal_back (RefinedValence v) = refl
refusal_back (CurveSize v) = refl
refusal_back NotUniform = refl
refusal_back (WrongLength v) = refl
refusal_back (NoSuchDepth v) = refl
refusal_back (NoSuchPlace v) = refl
refusal_back (ListFull v) = refl
refusal_back NoSurvivingMove = refl
refusal_back (SpoiledSlot v) = refl

module _ {V : Type 0} (k : Crossing.Ghosts V) where
  asked : (points slots : ℕ) (request : Request V) → (known (asking k.leaves points slots request).code ≡ true) × (call_of k.arrives (asking k.leaves points slots request) ≡ record { request = request; points = points; slots = slots })
  asked points slots Analyse = (refl, refl)
  asked points slots Synthesise = (refl, refl)
  asked points slots (Move place amount) = (refl, λ i. record { request = Move place (k.kept amount i); points = points; slots = slots })
  asked points slots TakeBack = (refl, refl)
  asked points slots (Read place) = (refl, refl)

  pub askable : Askable k.arrives k.leaves
  askable c = asked c.points c.slots c.request

  -- the answer that a record stands for
  abbrev answer_of : AnswerRecord → Answer V
  answer_of a = cond (eqb a.code 1) (Ok (Depth a.number)) (cond (eqb a.code 2) (Ok (Count a.number)) (cond (eqb a.code 3) (Ok (Value (k.arrives a.value))) (Err (refusal_of a.row a.number))))

  answer_back : (a : Answer V) → answer_of (answer_record k.leaves a) ≡ a
  answer_back (Ok (Depth n)) = refl
  answer_back (Ok (Count n)) = refl
  answer_back (Ok (Value v)) = ap (λ x. Ok (Value x)) (k.kept v)
  answer_back (Err e) = ap Err (refusal_back e)

  pub distinct : Distinct k.leaves
  distinct a b same = sym (answer_back a) ∙ ap answer_of same ∙ answer_back b
