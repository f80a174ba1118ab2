-- Which numbers occur in a list, and lists whose numbers differ. Assumes nothing.
use Rattle.std.proofs.Common.{◌≡◌, ℕ, true, false, not, eqb, List, [], ◌∷◌, ◌++◌, count_by, sym, refl, ◌∙◌, subst, ⊎_elim, arith}
use Rattle.std.proofs.lemmas.Bool.{cases_Bool, eqb-true, true≢false, both_ways, and_parts, and_from, or_parts, or_from, or_cases, not-true, not_from_false}
use Rattle.std.proofs.lemmas.Bool.Decides.{nat_tests}
use Rattle.mesh.specs.Shape.{occurs}
use Rattle.mesh.specs.Rules.{distinct}
use Rattle.mesh.proofs.Lists.{any_append, countBy_yes, countBy_no, countBy_none}

pub occurs_push : (v x : ℕ) (xs : List ℕ) → occurs v xs ≡ false → eqb x v ≡ false → occurs v (xs ++ x ∷ []) ≡ false
occurs_push v x xs none out = any_append (λ y. eqb y v) xs (x ∷ []) ∙ or_from (occurs v xs) (occurs v (x ∷ [])) none (or_from (eqb x v) false out refl)

pub distinct_parts : (x : ℕ) (xs : List ℕ) → distinct (x ∷ xs) ≡ true → (occurs x xs ≡ false) × (distinct xs ≡ true)
distinct_parts x xs once = let parts = and_parts (not (occurs x xs)) (distinct xs) once in (not-true (occurs x xs) parts.0, parts.1)

pub distinct_push : (xs : List ℕ) (x : ℕ) → distinct xs ≡ true → occurs x xs ≡ false → distinct (xs ++ x ∷ []) ≡ true
distinct_push [] x once new = refl
distinct_push (y ∷ ys) x once new =
    let parts = distinct_parts y ys once in
    let away = or_parts (eqb y x) (occurs x ys) new in
    let turned : eqb x y ≡ false = grind (arith, nat_tests) in
    and_from (not (occurs y (ys ++ x ∷ []))) (distinct (ys ++ x ∷ [])) (not_from_false (occurs y (ys ++ x ∷ [])) (occurs_push y x ys parts.0 turned)) (distinct_push ys x parts.1 away.1)

-- of numbers that differ, one that occurs does so once
pub count_present : (k : ℕ) (ns : List ℕ) → distinct ns ≡ true → occurs k ns ≡ true → count_by (λ n. eqb n k) ns ≡ 1
count_present k [] once in' = absurd (true≢false (sym in'))
count_present k (n ∷ ns) once in' =
    let parts = distinct_parts n ns once in
    ⊎_elim
    (λ yes'.
    let out : occurs k ns ≡ false = subst (λ m. occurs m ns ≡ false) (eqb-true n k yes') parts.0 in
    omega (arith, countBy_yes (λ m. eqb m k) n ns yes', countBy_none (λ m. eqb m k) ns out))
    (λ no'. countBy_no (λ m. eqb m k) n ns no' ∙ count_present k ns parts.1 (⊎_elim (λ yes'. absurd (both_ways (eqb n k) no' yes')) (λ later. later) (or_cases (eqb n k) (occurs k ns) in')))
    (cases_Bool (eqb n k))
