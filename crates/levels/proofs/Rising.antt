-- Lists that ascend, and the numbers below a bound that pass a test as such a list. Assumes nothing.
use Rattle.std.proofs.Common.{◌≡◌, ℕ, zero, suc, ◌<◌, ◌≤◌, Bool, true, false, cond, ◌&&◌, ◌||◌, eqb, ltb, ◌⊎◌, List, [], ◌∷◌, ◌++◌, length, filter, sym, refl, ap, ◌∙◌, subst, ap₂, ⊎_elim, arith}
use Rattle.std.proofs.lemmas.List.Elements.{filter-append}
use Rattle.std.proofs.ByRecursion.{All-weaker, All-append, kept_by_passes}
use Rattle.std.proofs.lemmas.List.{append-nil}
use Rattle.std.proofs.lemmas.List.Sums.{length-filter}
use Rattle.std.proofs.lemmas.Bool.{cases_eq, cond_both, or_cases, or_left, eq-eqb, eqb-true, true≢false, false≢true}
use Rattle.std.proofs.lemmas.Bool.Decides.{nat_tests}
use Rattle.std.specs.List.{range_with_len, AllByRecursion}
use Rattle.hierarchy.specs.Lawful.{Rises}
use Rattle.mesh.specs.Shape.{occurs}
use Rattle.mesh.proofs.Lists.{any_append}
use Rattle.levels.specs.Incidence.{those}
use Rattle.levels.specs.Sound.{count}
use Rattle.levels.proofs.Counting.{counting_more}

-- what holds of all of a list holds of what occurs in it
pub occurs_all : (P : ℕ → Type 0) (xs : List ℕ) (i : ℕ) → AllByRecursion P xs → occurs i xs ≡ true → P i
occurs_all P [] i all t = absurd (false≢true t)
occurs_all P (x ∷ xs) i all t = ⊎_elim (λ here. subst P (eqb-true x i here) all.0) (occurs_all P xs i all.1) (or_cases (eqb x i) (occurs i xs) t)

pub rises_tail : (x : ℕ) (xs : List ℕ) → Rises (x ∷ xs) → Rises xs
rises_tail x [] r = tt
rises_tail x (y ∷ ys) r = r.1

-- the first is the least
pub rises_least : (x : ℕ) (xs : List ℕ) → Rises (x ∷ xs) → AllByRecursion (λ y. x < y) xs
rises_least x [] r = tt
rises_least x (y ∷ ys) r = (r.0, All-weaker (λ z. y < z) (λ z. x < z) (λ z l. omega (arith, r.0)) ys (rises_least y ys r.1))

pub rises_cons : (x : ℕ) (xs : List ℕ) → AllByRecursion (λ y. x < y) xs → Rises xs → Rises (x ∷ xs)
rises_cons x [] all r = tt
rises_cons x (y ∷ ys) all r = (all.0, r)

pub rises_push : (xs : List ℕ) (x : ℕ) → Rises xs → AllByRecursion (λ y. y < x) xs → Rises (xs ++ x ∷ [])
rises_push [] x r all = tt
rises_push (y ∷ []) x r all = (all.0, tt)
rises_push (y ∷ z ∷ zs) x r all = (r.0, rises_push (z ∷ zs) x r.1 all.1)

occurs_first : (x : ℕ) (xs : List ℕ) → occurs x (x ∷ xs) ≡ true
occurs_first x xs = or_left (eqb x x) (occurs x xs) (eq-eqb x x refl)

from_least : (x : ℕ) (xs : List ℕ) (i : ℕ) → Rises (x ∷ xs) → occurs i (x ∷ xs) ≡ true → x ≤ i
from_least x xs i r t = occurs_all (λ y. x ≤ y) (x ∷ xs) i (omega arith, All-weaker (λ y. x < y) (λ y. x ≤ y) (λ y l. omega arith) xs (rises_least x xs r)) t

past_least : (x : ℕ) (xs : List ℕ) (i : ℕ) → Rises (x ∷ xs) → occurs i xs ≡ (ltb x i && occurs i (x ∷ xs))
past_least x xs i r = go (occurs i xs) (occurs_all (λ y. x < y) xs i (rises_least x xs r))
  where
    go : (b : Bool) → (b ≡ true → x < i) → b ≡ (ltb x i && (eqb x i || b))
    go true h = let l = h refl in grind (arith, nat_tests)
    go false h = grind (arith, nat_tests)

-- two lists that ascend and have the same members are the same
pub rises_alike : (xs ys : List ℕ) → Rises xs → Rises ys → ((i : ℕ) → occurs i xs ≡ occurs i ys) → xs ≡ ys
rises_alike [] [] r s same = refl
rises_alike [] (y ∷ ys) r s same = absurd (false≢true (same y ∙ occurs_first y ys))
rises_alike (x ∷ xs) [] r s same = absurd (true≢false (sym (occurs_first x xs) ∙ same x))
rises_alike (x ∷ xs) (y ∷ ys) r s same =
    let low = from_least x xs y r (same y ∙ occurs_first y ys) in
    let high = from_least y ys x s (sym (same x) ∙ occurs_first x xs) in
    let first : x ≡ y = omega arith in
    ap₂ ◌∷◌ first (rises_alike xs ys (rises_tail x xs r) (rises_tail y ys s) (λ i. past_least x xs i r ∙ (ap₂ (λ z b. ltb z i && b) first (same i) ∙ sym (past_least y ys i s))))

-- one number more
pub those_more : (p : ℕ → Bool) (n : ℕ) → those p (suc n) ≡ those p n ++ cond (p n) (n ∷ []) []
those_more p n = ap (filter p) (counting_more 0 n n (omega arith)) ∙ filter-append p (range_with_len 0 n) (n ∷ [])

pub those_below : (p : ℕ → Bool) (n : ℕ) → AllByRecursion (λ i. i < n) (those p n)
those_below p zero = tt
those_below p (suc n) = rw (those_more p n) (All-append (λ i. i < suc n) (those p n) (cond (p n) (n ∷ []) []) (All-weaker (λ i. i < n) (λ i. i < suc n) (λ i l. omega arith) (those p n) (those_below p n)) (cond_both (p n) (n ∷ []) [] (AllByRecursion (λ i. i < suc n)) (λ _. (omega arith, tt)) (λ _. tt)))

pub those_pass : (p : ℕ → Bool) (n : ℕ) → AllByRecursion (λ i. p i ≡ true) (those p n)
those_pass p n = kept_by_passes p (range_with_len 0 n)

pub those_rise : (p : ℕ → Bool) (n : ℕ) → Rises (those p n)
those_rise p zero = tt
those_rise p (suc n) =
    rw (those_more p n)
    (cond_both (p n) (n ∷ []) [] (λ l. Rises (those p n ++ l)) (λ _. rises_push (those p n) n (those_rise p n) (those_below p n)) (λ _. rw (append-nil (those p n)) (those_rise p n)))

pub occurs_those : (p : ℕ → Bool) (n i : ℕ) → occurs i (those p n) ≡ (ltb i n && p i)
occurs_those p zero i = grind (arith, nat_tests)
occurs_those p (suc n) i = rw (those_more p n) (any_append (λ x. eqb x i) (those p n) (cond (p n) (n ∷ []) []) ∙ (ap₂ ◌||◌ (occurs_those p n i) (last (p n)) ∙ step (cases_eq n i)))
  where
    last : (b : Bool) → occurs i (cond b (n ∷ []) []) ≡ (b && eqb n i)
    last true = grind (arith, nat_tests)
    last false = refl

    step : (n ≡ i) ⊎ (n ≡ i → ⊥) → ((ltb i n && p i) || (p n && eqb n i)) ≡ (ltb i (suc n) && p i)
    step d = grind (arith, nat_tests)

-- a list that ascends is just the numbers that it is said to have
pub rises_those : (xs : List ℕ) (p : ℕ → Bool) (n : ℕ) → Rises xs → ((i : ℕ) → occurs i xs ≡ (ltb i n && p i)) → xs ≡ those p n
rises_those xs p n r h = rises_alike xs (those p n) r (those_rise p n) (λ i. h i ∙ sym (occurs_those p n i))

pub length_those : (p : ℕ → Bool) (n : ℕ) → length (those p n) ≡ count p n
length_those p n = length-filter p (range_with_len 0 n)

pub those_alike : (p q : ℕ → Bool) (n : ℕ) → ((i : ℕ) → i < n → p i ≡ q i) → those p n ≡ those q n
those_alike p q zero h = refl
those_alike p q (suc n) h = those_more p n ∙ (ap₂ (λ l b. l ++ cond b (n ∷ []) []) (those_alike p q n (λ i l. h i (omega arith))) (h n (omega arith)) ∙ sym (those_more q n))

pub those_none : (p : ℕ → Bool) (n : ℕ) → ((i : ℕ) → i < n → p i ≡ false) → those p n ≡ []
those_none p zero h = refl
those_none p (suc n) h = those_more p n ∙ rw (those_none p n (λ i l. h i (omega arith)), h n (omega arith)) refl
