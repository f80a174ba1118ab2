-- What the lowest number that passes a test is. Assumes nothing.
use Rattle.std.proofs.Common.{◌≡◌, ℕ, zero, suc, ◌<◌, ◌≤◌, Bool, true, false, ◌⊎◌, Some, None, sym, refl, ap, ◌∙◌, subst, inl, inr, ⊎_elim, arith}
use Rattle.std.proofs.lemmas.Bool.{cases_lt, cases_Bool, cond-true, cond-false}
use Rattle.mesh.specs.Lowest.{lowest}

module _ (p : ℕ → Bool) where
  pub lowest_none : (n : ℕ) → ((j : ℕ) → j < n → p j ≡ false) → lowest p n ≡ None
  unfolding lowest
  lowest_none zero h = refl
  lowest_none (suc n) h = rw (lowest_none n (λ j l. h j (omega arith))) (cond-false (p n) (Some n) None (h n (omega arith)))

  pub lowest_some : (n k : ℕ) → k < n → p k ≡ true → ((j : ℕ) → j < k → p j ≡ false) → lowest p n ≡ Some k
  unfolding lowest
  lowest_some zero k l t h = absurd (omega arith)
  lowest_some (suc n) k l t h =
      ⊎_elim
      (λ (low : k < n). rw (lowest_some n k low t h))
      (λ (high : n ≤ k).
      let e : k ≡ n = omega arith in
      rw (lowest_none n (λ j m. h j (omega arith))) (cond-true (p n) (Some n) None (subst (λ m. p m ≡ true) e t) ∙ ap Some (sym e)))
      (cases_lt k n)

  -- k is the lowest below n that passes
  abbrev pub Found : ℕ → ℕ → Type 0
  Found n k = (k < n) × (p k ≡ true) × ((j : ℕ) → j < k → p j ≡ false)

  either : (n : ℕ) → ((j : ℕ) → j < n → p j ≡ false) ⊎ ((k : ℕ) × Found n k)
  either zero = inl (λ j l. absurd (omega arith))
  either (suc n) =
      ⊎_elim
      (λ none.
      ⊎_elim
      (λ yes'. inr (n, (omega arith, yes', none)))
      (λ no'. inl (λ j l. ⊎_elim (none j) (λ (high : n ≤ j). subst (λ m. p m ≡ false) (omega arith) no') (cases_lt j n)))
      (cases_Bool (p n)))
      (λ some. inr (some.0, (omega (arith, some.1.0), some.1.1, some.1.2)))
      (either n)

  pub lowest_missing : (n : ℕ) → lowest p n ≡ None → (j : ℕ) → j < n → p j ≡ false
  lowest_missing n e =
      ⊎_elim
      (λ none. none)
      (λ some.
      let at = lowest_some n some.0 some.1.0 some.1.1 some.1.2 in
      absurd (grind arith))
      (either n)

  pub lowest_found : (n k : ℕ) → lowest p n ≡ Some k → Found n k
  lowest_found n k e =
      ⊎_elim
      (λ none.
      let at = lowest_none n none in
      absurd (grind arith))
      (λ some.
      let at = lowest_some n some.0 some.1.0 some.1.1 some.1.2 in
      let same : some.0 ≡ k = cc in
      subst (Found n) same some.1)
      (either n)

-- tests that agree below n
pub lowest_same : (p q : ℕ → Bool) (n : ℕ) → ((k : ℕ) → k < n → p k ≡ q k) → lowest p n ≡ lowest q n
unfolding lowest
lowest_same p q zero h = refl
lowest_same p q (suc n) h = rw (lowest_same p q n (λ k l. h k (omega arith)), h n (omega arith))
