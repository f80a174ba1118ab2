-- What a result that is no refusal says of the steps that gave it. Assumes nothing.
use Rattle.std.proofs.Common.{◌≡◌, Bool, true, false, cond, Some, None, Ok, Err, Option, Result, refl, arith}
use Rattle.refusal.specs.declared.Refusal.{Refusal}
use Rattle.mesh.specs.Reading.{unless, then}

-- a choice that is not its first way is its second
pub cond_else : {A : Type 0} (b : Bool) (x y z : A) → (x ≡ z → ⊥) → cond b x y ≡ z → (b ≡ false) × (y ≡ z)
cond_else true x y z apart e = absurd (apart e)
cond_else false x y z apart e = (refl, e)

pub then_ok : {A B : Type 0} (r : Result A Refusal) (f : A → Result B Refusal) (y : B) → then r f ≡ Ok y → (x : A) × (r ≡ Ok x) × (f x ≡ Ok y)
then_ok (Ok x) f y e = (x, refl, e)
then_ok (Err x) f y e = absurd (grind arith)

pub unless_ok : {A : Type 0} (o : Option Refusal) (r : Result A Refusal) (y : A) → unless o r ≡ Ok y → (o ≡ None) × (r ≡ Ok y)
unless_ok None r y e = (refl, e)
unless_ok (Some x) r y e = absurd (grind arith)
