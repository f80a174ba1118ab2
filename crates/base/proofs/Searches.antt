-- What a chain along a list gives, in the words of a base. Assumes nothing.
use Rattle.std.proofs.Common.{◌≡◌, ℕ, suc, zero, ◌+◌, ◌*◌, ◌<◌, ◌≤◌, Bool, true, false, ltb, List, [], ◌∷◌, ◌++◌, map, take, drop, length, min, get_or, Option, Some, None, MatchOption, sym, refl, ap, ap₂, ◌∙◌, ⊎_elim, zero-add, arith}
use Rattle.std.proofs.lemmas.List.FromFn.{length-enumerate_from, get_or-enumerate_from}
use Rattle.std.proofs.lemmas.Bool.{cases_lt, cond-true, cond-false, lt-ltb, le-ltb}
use Rattle.std.proofs.lemmas.List.Sums.{fails_before_first, passes_at_first}
use Rattle.std.proofs.lemmas.Slice.Zip.{get_or-zip, length-zip}
use Rattle.std.specs.Bool.{then_some}
use Rattle.std.specs.List.{position, position_or_len, filter_map, enumerate_from, zip}
use Rattle.std.specs.Simd.{first_chunks}
use Rattle.mesh.specs.declared.Side.{Side}
use Rattle.mesh.specs.Lowest.{lowest}
use Rattle.mesh.specs.Records.{numbers}
use Rattle.mesh.specs.Shape.{side, onward, around, marked}
use Rattle.mesh.proofs.Lowests.{lowest_some, lowest_none, lowest_same}

-- a search along a list finds the lowest index at which the test passes
pub lowest_position : {A : Type 0} (p : A → Bool) (xs : List A) (d : A) → position p xs ≡ lowest (λ k. p (get_or xs k d)) (length xs)
lowest_position p xs d =
    let at = position_or_len p xs in
    let before : (k : ℕ) → k < at → p (get_or xs k d) ≡ false = λ k l. fails_before_first p xs k d l in
    ⊎_elim
    (λ (found : at < length xs).
    cond-true (ltb at (length xs)) (Some at) None (lt-ltb at (length xs) found)
    ∙ sym (lowest_some (λ k. p (get_or xs k d)) (length xs) at found (passes_at_first p xs d found) before))
    (λ missing.
    cond-false (ltb at (length xs)) (Some at) None (le-ltb at (length xs) missing)
    ∙ sym (lowest_none (λ k. p (get_or xs k d)) (length xs) (λ k l. before k (omega arith))))
    (cases_lt at (length xs))

-- the same, where the test reads the index too
pub lowest_numbered : {A : Type 0} (p : ℕ × A → Bool) (xs : List A) (d : A) → position p (enumerate_from 0 xs) ≡ lowest (λ k. p (k, get_or xs k d)) (length xs)
lowest_numbered p xs d =
    lowest_position p (enumerate_from 0 xs) (0, d)
    ∙ ap (lowest (λ k. p (get_or (enumerate_from 0 xs) k (0, d)))) (length-enumerate_from 0 xs)
    ∙ lowest_same _ _ (length xs) (λ k l. ap p (get_or-enumerate_from 0 xs k (0, d) l ∙ ap (λ j. (j, get_or xs k d)) (zero-add k)))

-- the same along two lists at once
pub lowest_zipped : {A B : Type 0} (p : A × B → Bool) (xs : List A) (ys : List B) (d : A) (e : B) → position p (zip xs ys) ≡ lowest (λ k. p (get_or xs k d, get_or ys k e)) (min (length xs) (length ys))
lowest_zipped p xs ys d e =
    lowest_position p (zip xs ys) (d, e)
    ∙ ap (lowest (λ k. p (get_or (zip xs ys) k (d, e)))) (length-zip xs ys)
    ∙ lowest_same _ _ (min (length xs) (length ys)) (λ k l. ap p (get_or-zip xs ys k (d, e) (omega arith) (omega arith)))

-- a search along the numbers below n
pub lowest_found_in : (p : ℕ → Bool) (n : ℕ) (r : Option ℕ) → MatchOption r ((k : ℕ) → 0 ≤ k → k < n → p k ≡ false) (λ i. (0 ≤ i) × (i < n) × (p i ≡ true) × ((k : ℕ) → 0 ≤ k → k < i → p k ≡ false)) → r ≡ lowest p n
lowest_found_in p n None h = sym (lowest_none p n (λ k l. h k (omega arith) l))
lowest_found_in p n (Some i) h = sym (lowest_some p n i h.1 h.2 (λ k l. h.3 k (omega arith) l))

pub marked_pairs : (es : List Side) (ms : List Bool) → filter_map (λ (p : Side × Bool). then_some p.1 p.0) (zip es ms) ≡ marked es ms
marked_pairs [] ms = refl
marked_pairs (e ∷ es) [] = refl
marked_pairs (e ∷ es) (true ∷ ms) = ap (λ l. e ∷ l) (marked_pairs es ms)
marked_pairs (e ∷ es) (false ∷ ms) = marked_pairs es ms

-- two bytes at a time
pub numbers_pairs : (k : ℕ) (bs : List ℕ) → 2 * k ≤ length bs → length bs < 2 * k + 2 → map (λ (p : List ℕ). get_or p 0 0 + get_or p 1 0 * 256) (first_chunks 2 k bs) ≡ numbers bs
numbers_pairs zero [] l m = refl
numbers_pairs zero (a ∷ []) l m = refl
numbers_pairs zero (a ∷ b ∷ bs) l m = absurd (omega arith)
numbers_pairs (suc k) [] l m = absurd (omega arith)
numbers_pairs (suc k) (a ∷ []) l m = absurd (omega arith)
numbers_pairs (suc k) (a ∷ b ∷ bs) l m = let low_first : a + b * 256 ≡ a + 256 * b = omega arith in ap₂ ◌∷◌ low_first (numbers_pairs k bs (omega arith) (omega arith))

-- each corner with the one after it, the last with the first
zipped_onward : (first c : ℕ) (cs : List ℕ) → map (λ (p : ℕ × ℕ). side p.0 p.1) (zip (c ∷ cs) (cs ++ first ∷ [])) ≡ onward first c cs
zipped_onward first c [] = refl
zipped_onward first c (d ∷ ds) = ap (λ l. side c d ∷ l) (zipped_onward first d ds)

pub zipped_around : (cs first rest : List ℕ) (n : ℕ) → n ≡ min (length cs) 1 → first ≡ take n cs → rest ≡ drop n cs → map (λ (p : ℕ × ℕ). side p.0 p.1) (zip cs (rest ++ first)) ≡ around cs
zipped_around [] first rest n m f r = refl
zipped_around (c ∷ cs) first rest n m f r =
    let one : n ≡ 1 = omega arith in
    let begun : rest ++ first ≡ cs ++ c ∷ [] = ap₂ ◌++◌ (r ∙ ap (λ k. drop k (c ∷ cs)) one) (f ∙ ap (λ k. take k (c ∷ cs)) one) in
    ap (λ l. map (λ (p : ℕ × ℕ). side p.0 p.1) (zip (c ∷ cs) l)) begun ∙ zipped_onward c c cs
