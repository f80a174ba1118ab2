-- What a read answers, in terms of what was written. Assumes nothing.
use Rattle.std.proofs.Common.{◌≡◌, ℕ, List, Ok, Err, refl, ap, ◌∙◌, arith}
use Rattle.refusal.specs.declared.Fault.{Fault}
use Rattle.refusal.specs.declared.Fault.TheVariants.{Refused, Memory}
use Rattle.mesh.specs.Reading.{reading}
use Rattle.mesh.specs.Records.{written}
use Rattle.mesh.specs.Rules.{Rules}
use Rattle.mesh.specs.Shape.{Shape}
use Rattle.mesh.proofs.ReadsBack.{reads_back}
use Rattle.base.specs.declared.base.Base.{Base}
use Rattle.base.specs.Bases.{Answers}
use Rattle.base.specs.Drafts.{Failed}

module _ (bytes : List ℕ) where
  -- a fault leaves the base, and is none where a shape that keeps the rules was written
  pub fault_answers : (f : Fault) (base : Base) → Failed f (reading bytes) → Answers (reading bytes) (Err f) base base
  fault_answers (Refused x) base h = (h, refl)
  fault_answers Memory base h = refl

  pub fault_of_writing : (f : Fault) → Failed f (reading bytes) → (s : Shape) → Rules s → bytes ≡ written s → f ≡ Memory
  fault_of_writing (Refused x) h s rules e =
      let read = ap reading e ∙ reads_back s rules in
      let z : ◌≡◌ {A = ℕ} 0 1 = cc in
      absurd (omega arith)
  fault_of_writing Memory h s rules e = refl

  -- and what is read is the shape that was written
  pub read_of_writing : (t : Shape) → reading bytes ≡ Ok t → (s : Shape) → Rules s → bytes ≡ written s → t ≡ s
  read_of_writing t h s rules e = let read = ap reading e ∙ reads_back s rules in cc
