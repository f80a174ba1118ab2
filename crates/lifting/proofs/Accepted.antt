-- A call at a level that is not refused: the level is below the finest, and there are as many values as finest vertices.
use Rattle.std.proofs.Common.{◌≡◌, ℕ, ◌<◌, eqb, ltb, List, length, IfOk, Ok, Err, Result, sym, ap, subst, MatchResult}
use Rattle.std.proofs.lemmas.Result.{MatchResult-at_ok}
use Rattle.std.proofs.lemmas.Bool.{cond_both, eqb-true, ltb-true}
use Rattle.hierarchy.specs.Meaning.{Meaning}
use Rattle.kinds.specs.declared.point.Point.{Point}
use Rattle.refusal.specs.declared.Refusal.{Refusal}
use Rattle.schemes.specs.Fractions.{Fraction}
use Rattle.schemes.specs.declared.steps.Step.{Step}
use Rattle.lifting.specs.Calls.{at_level, unless_refused}
use Rattle.lifting.specs.Splines.{factors}
use Rattle.lifting.specs.declared.points.Spline.{Spline}

abbrev Fitting : Meaning → ℕ → ℕ → Type 0
Fitting m n j = (n ≡ m.vertices m.levels) × (j < m.levels)

abbrev Judged : Meaning → ℕ → ℕ → Result (Unit {0}) Refusal → Type 0
Judged m n j r = IfOk r (λ _. Fitting m n j)

judged : (m : Meaning) (n j : ℕ) → Judged m n j (at_level m n j)
judged m n j =
    let finest = m.vertices m.levels in
    cond_both (eqb n finest) _ _ (Judged m n j)
    (λ e. cond_both (ltb j m.levels) _ _ (Judged m n j) (λ l. (eqb-true n finest e, ltb-true j m.levels l)) (λ _. tt))
    (λ _. tt)

pub outcome : {V : Type 0} (m : Meaning) (j : ℕ) (r : Result (Unit {0}) Refusal) (before after made : List V) (P : List V → Type 0) → r ≡ at_level m (length before) j → after ≡ unless_refused r made before → (j < m.levels → length before ≡ m.vertices m.levels → P made) → MatchResult r (λ _. P after) (λ _. after ≡ before)
outcome m j (Ok x) before after made P e f make =
    let fits : Fitting m (length before) j = MatchResult-at_ok (λ _. Fitting m (length before) j) (λ _. Unit {0}) x (sym e) (judged m (length before) j) in
    subst P (sym f) (make fits.1 fits.0)
outcome m j (Err d) before after made P e f make = f

-- what is made of points by the table of a scheme that is named
module _ (m : Meaning) (j : ℕ) (By : (Step → Fraction) → List Point → List Point → Type 0) (made : (Step → Fraction) → List Point → List Point) (law : (factor : Step → Fraction) (vs : List Point) → j < m.levels → length vs ≡ m.vertices m.levels → By factor vs (made factor vs)) where
  pub by_table : {s : Spline} (t : Spline) → s ≡ t → (r : Result (Unit {0}) Refusal) (before after : List Point) → r ≡ at_level m (length before) j → after ≡ unless_refused r (made (factors t) before) before → MatchResult r (λ _. By (factors s) before after) (λ _. after ≡ before)
  by_table {s} t e r before after result values =
      outcome m j r before after (made (factors t) before) (By (factors s) before) result values
      (λ below long. subst (λ factor. By factor before (made (factors t) before)) (ap factors (sym e)) (law (factors t) before below long))
