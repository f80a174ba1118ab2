-- A test on every number below a bound. Assumes nothing.
use Rattle.std.proofs.Common.{◌≡◌, ℕ, ◌+◌, ◌<◌, Bool, true, false, [], ◌∷◌, sym, refl, ap, ◌∙◌, arith}
use Rattle.std.specs.List.{list_all}
use Rattle.std.proofs.lemmas.Bool.{and_from}
use Rattle.std.proofs.lemmas.List.FromFn.{length-range_with_len, get_or-range_with_len, map-range_with_len_more}
use Rattle.std.proofs.lemmas.List.Folds.{list_all-append, list_all-map, list_all_at}
use Rattle.hierarchy.specs.Uniform.{every}

module _ (p : ℕ → Bool) where
  pub every_more : (n : ℕ) → every p n ≡ true → p n ≡ true → every p (n + 1) ≡ true
  every_more n all here =
      sym (list_all-map p (λ i. i) _) ∙ ap (list_all p) (map-range_with_len_more (λ i. i) 0 n n (omega arith)) ∙ list_all-append p _ (n ∷ []) ∙ and_from _ _ (list_all-map p (λ i. i) _ ∙ all) (and_from _ _ here refl)

  pub every_fails : (n i : ℕ) → i < n → p i ≡ false → every p n ≡ false
  every_fails n i l e = list_all_at p _ i 0 (omega (arith, l, length-range_with_len 0 n)) (ap p (omega (arith, get_or-range_with_len 0 n i 0 l)) ∙ e)
