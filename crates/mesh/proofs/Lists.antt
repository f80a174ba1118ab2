-- Facts on lists that the shelf lacks. Assumes nothing.
use Rattle.std.proofs.Common.{◌≡◌, ℕ, ◌+◌, ◌<◌, ◌≤◌, Bool, true, false, cond, not, ◌||◌, List, [], ◌∷◌, ◌++◌, map, length, get_or, fold, count_by, sym, refl, ap, ◌∙◌, ⊎_elim, arith}
use Rattle.std.proofs.lemmas.List.{append_assoc, flat_map_more}
use Rattle.std.proofs.lemmas.List.Folds.{list_any-append, list_any_at}
use Rattle.std.proofs.lemmas.List.Sums.{sum_by-cons}
use Rattle.std.proofs.lemmas.Bool.{cases_Bool, true≢false, or_parts, or_from}
use Rattle.std.specs.List.{flat_map, AllByRecursion}
use Rattle.mesh.specs.Shape.{any}
use Rattle.mesh.specs.Reading.{empty}

pub nil_from_empty : {A : Type 0} (xs : List A) → not (empty xs) ≡ false → xs ≡ []
nil_from_empty [] e = refl
nil_from_empty (x ∷ xs) e = absurd (true≢false e)

pub some_from_empty : {A : Type 0} (xs : List A) → empty xs ≡ false → 0 < length xs
some_from_empty [] e = absurd (true≢false e)
some_from_empty (x ∷ xs) e = omega arith

pub empty_some : {A : Type 0} (xs : List A) → 0 < length xs → empty xs ≡ false
empty_some [] l = absurd (omega arith)
empty_some (x ∷ xs) l = refl

pub all_parts : {A : Type 0} (P : A → Type 0) (xs ys : List A) → AllByRecursion P (xs ++ ys) → AllByRecursion P xs × AllByRecursion P ys
all_parts P [] ys all = (tt, all)
all_parts P (x ∷ xs) ys all = let parts = all_parts P xs ys all.1 in ((all.0, parts.0), parts.1)

module _ {A : Type 0} (p : A → Bool) where
  pub any_none : (xs : List A) → AllByRecursion (λ x. p x ≡ false) xs → any p xs ≡ false
  any_none [] all = refl
  any_none (x ∷ xs) all = or_from (p x) (any p xs) all.0 (any_none xs all.1)

  pub all_fail : (xs : List A) → any p xs ≡ false → AllByRecursion (λ x. p x ≡ false) xs
  all_fail [] e = tt
  all_fail (x ∷ xs) e = let both = or_parts (p x) (any p xs) e in (both.0, all_fail xs both.1)

  pub any_here : (xs : List A) (i : ℕ) (d : A) → i < length xs → p (get_or xs i d) ≡ true → any p xs ≡ true
  any_here = list_any_at p

  pub any_append : (xs ys : List A) → any p (xs ++ ys) ≡ (any p xs || any p ys)
  any_append = list_any-append p

  pub countBy_yes : (x : A) (xs : List A) → p x ≡ true → count_by p (x ∷ xs) ≡ 1 + count_by p xs
  countBy_yes x xs t = sum_by-cons (λ y. cond (p y) 1 0) x xs ∙ ap (λ b. cond b 1 0 + count_by p xs) t

  pub countBy_no : (x : A) (xs : List A) → p x ≡ false → count_by p (x ∷ xs) ≡ count_by p xs
  countBy_no x xs t = let e : count_by p (x ∷ xs) ≡ 0 + count_by p xs = sum_by-cons (λ y. cond (p y) 1 0) x xs ∙ ap (λ b. cond b 1 0 + count_by p xs) t in omega arith

  pub countBy_none : (xs : List A) → any p xs ≡ false → count_by p xs ≡ 0
  countBy_none [] e = refl
  countBy_none (x ∷ xs) e = let both = or_parts (p x) (any p xs) e in countBy_no x xs both.0 ∙ countBy_none xs both.1

  -- where one at least passes, one that passes has what all have
  pub countBy_some : (P : A → Type 0) (xs : List A) → AllByRecursion P xs → 1 ≤ count_by p xs → (x : A) × (p x ≡ true) × P x
  countBy_some P [] all some = absurd (omega arith)
  countBy_some P (x ∷ xs) all some =
      ⊎_elim
      (λ yes'. (x, yes', all.0))
      (λ no'. let e = countBy_no x xs no' in countBy_some P xs all.1 (omega arith))
      (cases_Bool (p x))

module _ {A B : Type 0} (f : A → List B) where
  pub joined_append : (xs ys : List A) → flat_map f (xs ++ ys) ≡ flat_map f xs ++ flat_map f ys
  joined_append [] ys = refl
  joined_append (x ∷ xs) ys = ap (λ l. f x ++ l) (joined_append xs ys) ∙ sym (append_assoc (f x) (flat_map f xs) (flat_map f ys))

  -- what comes next of those that are joined, with what comes after it
  pub joined_on : (xs : List A) (x : A) (rest : List B) → flat_map f xs ++ (f x ++ rest) ≡ flat_map f (xs ++ x ∷ []) ++ rest
  joined_on xs x rest = sym (append_assoc (flat_map f xs) (f x) rest) ∙ ap (λ front. front ++ rest) (flat_map_more f [] xs x)

  pub joined_map : {C : Type 0} (g : C → A) (xs : List C) → flat_map f (map g xs) ≡ flat_map (λ x. f (g x)) xs
  joined_map g [] = refl
  joined_map g (x ∷ xs) = ap (λ l. f (g x) ++ l) (joined_map g xs)

module _ {A B : Type 0} (f : B → A → B) where
  pub folded_append : (b : B) (xs ys : List A) → fold f b (xs ++ ys) ≡ fold f (fold f b xs) ys
  folded_append b [] ys = refl
  folded_append b (x ∷ xs) ys = folded_append (f b x) xs ys

  -- what each step of a fold keeps, the fold keeps
  pub folded_keeps : (P : B → Type 0) → ((b : B) (a : A) → P b → P (f b a)) → (b : B) (xs : List A) → P b → P (fold f b xs)
  folded_keeps P keeps b [] h = h
  folded_keeps P keeps b (x ∷ xs) h = folded_keeps P keeps (f b x) xs (keeps b x h)
