-- What it means that some corner passes a test, that a face has an edge, and that it has a vertex. Assumes nothing.
use Rattle.std.proofs.Common.{◌≡◌, ℕ, zero, suc, ◌<◌, ◌≤◌, Bool, true, false, ◌&&◌, ◌||◌, eqb, [], ◌∷◌, get_or, sym, ap, ◌∙◌, ⊎_elim, arith}
use mathlib.Core.Bool.{or-false}
use Rattle.std.proofs.lemmas.List.FromFn.{length-range_with_len, get_or-range_with_len}
use Rattle.std.proofs.lemmas.Bool.{or_cases, and_parts, and_from, eqb-true, eq-eqb, both_ways, false≢true}
use Rattle.std.specs.List.{range_with_len}
use Rattle.mesh.specs.Shape.{any}
use Rattle.mesh.proofs.Lists.{any_append, any_here}
use Rattle.levels.specs.Level.{Level}
use Rattle.levels.specs.Incidence.{some_corner}
use Rattle.levels.specs.Sound.{count}
use Rattle.levels.proofs.Counting.{counting_more, fails, count_onto}

module _ (p : ℕ → Bool) where
  -- one number more
  pub any_more : (n : ℕ) → any p (range_with_len 0 (suc n)) ≡ (any p (range_with_len 0 n) || p n)
  any_more n = ap (any p) (counting_more 0 n n (omega arith)) ∙ (any_append p (range_with_len 0 n) (n ∷ []) ∙ ap (λ b. any p (range_with_len 0 n) || b) (or-false (p n)))

  pub any_found : (n : ℕ) → any p (range_with_len 0 n) ≡ true → (i : ℕ) × (i < n) × (p i ≡ true)
  any_found zero t = absurd (false≢true t)
  any_found (suc n) t =
      ⊎_elim
      (λ before. let it = any_found n before in (it.0, omega (arith, it.1), it.2))
      (λ here. (n, omega arith, here))
      (or_cases (any p (range_with_len 0 n)) (p n) (sym (any_more n) ∙ t))

  pub any_yes : (n i : ℕ) → i < n → p i ≡ true → any p (range_with_len 0 n) ≡ true
  any_yes n i l t = any_here p (range_with_len 0 n) i 0 (omega (arith, length-range_with_len 0 n)) (ap p same ∙ t)
    where
      same : get_or (range_with_len 0 n) i 0 ≡ i
      same = omega (arith, get_or-range_with_len 0 n i 0 l)

  pub any_no : (n : ℕ) → ((i : ℕ) → i < n → p i ≡ false) → any p (range_with_len 0 n) ≡ false
  any_no n h = fails (any p (range_with_len 0 n)) (λ t. let it = any_found n t in both_ways (p it.0) (h it.0 it.1) it.2)

-- g gives what corners are at, as their vertices or their sides
module _ (m : Level) (g : ℕ → ℕ) where
  -- face f has x at a corner
  abbrev pub face_has : ℕ → ℕ → Bool
  face_has f x = some_corner m (λ c. eqb (m.face c) f && eqb (g c) x)

  pub corner_of : (f x : ℕ) → face_has f x ≡ true → (c : ℕ) × (c < m.corners) × (m.face c ≡ f) × (g c ≡ x)
  corner_of f x t =
      let it = any_found (λ c. eqb (m.face c) f && eqb (g c) x) m.corners t in
      let both = and_parts (eqb (m.face it.0) f) (eqb (g it.0) x) it.2 in
      (it.0, it.1, eqb-true (m.face it.0) f both.0, eqb-true (g it.0) x both.1)

  pub has_at : (c f x : ℕ) → c < m.corners → m.face c ≡ f → g c ≡ x → face_has f x ≡ true
  has_at c f x l s t = any_yes (λ c. eqb (m.face c) f && eqb (g c) x) m.corners c l (and_from (eqb (m.face c) f) (eqb (g c) x) (eq-eqb (m.face c) f s) (eq-eqb (g c) x t))

  -- no more of them lie in a face than it has corners, and no more faces have one than there are corners at it
  pub count_in_face : (f n : ℕ) → count (face_has f) n ≤ count (λ c. eqb (m.face c) f) m.corners
  count_in_face f n = count_onto g (face_has f) (λ c. eqb (m.face c) f) m.corners n (λ x l t. let it = corner_of f x t in (it.0, it.1, eq-eqb (m.face it.0) f it.2, it.3))

  pub count_faces : (x n : ℕ) → count (λ f. face_has f x) n ≤ count (λ c. eqb (g c) x) m.corners
  count_faces x n = count_onto m.face (λ f. face_has f x) (λ c. eqb (g c) x) m.corners n (λ f l t. let it = corner_of f x t in (it.0, it.1, eq-eqb (g it.0) x it.3, it.2))
