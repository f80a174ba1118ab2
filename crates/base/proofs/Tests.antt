-- A test on some element of a list, by what stands at each place. Assumes nothing.
use Rattle.std.proofs.Common.{◌≡◌, ℕ, ◌<◌, Bool, true, false, eqb, List, length, get_or, sym, arith}
use Rattle.std.proofs.ByRecursion.{All-from_get_or}
use Rattle.std.specs.List.{IsAnyAnswer}
use Rattle.mesh.proofs.Lists.{any_here, any_none}
use Rattle.mesh.specs.Shape.{any, occurs}

pub any_nowhere : {A : Type 0} (p : A → Bool) (xs : List A) (d : A) → ((k : ℕ) → k < length xs → p (get_or xs k d) ≡ false) → any p xs ≡ false
any_nowhere p xs d h = any_none p xs (All-from_get_or (λ x. p x ≡ false) xs d h)

-- what `contains` answers
pub occurs_from_contains : (xs : List ℕ) (v : ℕ) (r : Bool) → IsAnyAnswer (λ y t. eqb y v ≡ t) xs r → r ≡ occurs v xs
occurs_from_contains xs v true s = sym (any_here (λ x. eqb x v) xs s.0 0 s.1 (s.2 0))
occurs_from_contains xs v false s = sym (any_nowhere (λ x. eqb x v) xs 0 (λ k l. s k 0 (omega arith) l))
