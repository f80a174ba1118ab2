-- What a survey of a base finds, and what planning answers after it. Assumes nothing.
use Rattle.std.proofs.Common.{◌≡◌, ℕ, zero, suc, ◌+◌, ◌<◌, ◌≤◌, Bool, true, false, ltb, leb, List, Some, None, Ok, Err, Option, length, get_or, take, sym, refl, ap, ◌∙◌, ⊎_elim, arith, length-take, get_or-take}
use Rattle.std.specs.List.{position, position_or_len}
use Rattle.std.proofs.lemmas.List.{get_or_past}
use Rattle.std.proofs.lemmas.List.Quantifiers.{position-Some}
use Rattle.std.proofs.lemmas.List.Sums.{fails_before_first}
use Rattle.std.proofs.lemmas.Bool.{and_parts, cases_lt, cond-true, cond-false, leb-true, ltb-false, lt-ltb, le-ltb}
use Rattle.refusal.specs.declared.Refusal.{Refusal}
use Rattle.refusal.specs.declared.Refusal.TheVariants.{LevelCount, TableTooShort}
use Rattle.hierarchy.specs.Limits.{has_levels}
use Rattle.hierarchy.specs.Lawful.{Lawful}
use Rattle.mesh.specs.Lowest.{lowest}
use Rattle.mesh.specs.Reading.{unless, then}
use Rattle.mesh.specs.Rules.{Rules}
use Rattle.mesh.specs.Shape.{Shape}
use Rattle.mesh.proofs.Lowests.{lowest_missing, lowest_none, lowest_some}
use Rattle.levels.specs.Finer.{level}
use Rattle.levels.specs.Incidence.{hierarchy}
use Rattle.levels.specs.Level.{Level}
use Rattle.levels.specs.Surfaces.{surface}
use Rattle.levels.proofs.Hierarchies.{hierarchy_lawful}
use Rattle.levels.proofs.SurfaceSound.{surface_sound}
use Rattle.plan.specs.declared.block.Block.{Block}
use Rattle.plan.specs.Planning.{needs, bad_levels, over, too_fine, need, in_table, planned, no_block, block_of, first_block, block_at}
use Rattle.plan.specs.Surveys.{Surveyed}
use Rattle.plan.proofs.Blocks.{counts_at, at_needs}

lowest_alike : (p q : ℕ → Bool) (n : ℕ) → ((j : ℕ) → j < n → p j ≡ q j) → lowest p n ≡ lowest q n
unfolding lowest
lowest_alike p q zero h = refl
lowest_alike p q (suc n) h = rw (lowest_alike p q n (λ j l. h j (omega arith)), h n (omega arith))

none_passes : (p : Block → Bool) (xs : List Block) → position p xs ≡ None → (k : ℕ) → k < length xs → p (get_or xs k no_block) ≡ false
none_passes p xs e k l =
    let i = position_or_len p xs in
    ⊎_elim
    (λ (low : i < length xs). let found : position p xs ≡ Some i = cond-true (ltb i (length xs)) (Some i) None (lt-ltb i (length xs) low) in absurd (cc (e, found)))
    (λ (high : length xs ≤ i). fails_before_first p xs k no_block (omega arith))
    (cases_lt i (length xs))

-- the first of the first n blocks that has too many vertices
module _ (bs : List Block) (n : ℕ) where
  abbrev large : Block → Bool
  large b = ltb 65536 b.vertices

  first_large : (o : Option ℕ) → position large (take n bs) ≡ o → o ≡ lowest (λ j. ltb 65536 (block_of bs j).vertices) n
  first_large (Some k) e =
      let f = position-Some large (take n bs) k no_block e in
      let inside : k < n = omega (arith, f.0, length-take n bs) in
      sym (lowest_some (λ j. ltb 65536 (block_of bs j).vertices) n k inside
      (ap large (sym (get_or-take n bs k no_block inside)) ∙ f.1)
      (λ j l. ap large (sym (get_or-take n bs j no_block (omega arith))) ∙ f.2 j l))
  first_large None e =
      sym (lowest_none (λ j. ltb 65536 (block_of bs j).vertices) n
      (λ j l. ⊎_elim
      (λ (low : j < length (take n bs)). ap large (sym (get_or-take n bs j no_block l)) ∙ none_passes large (take n bs) e j low)
      (λ (high : length (take n bs) ≤ j). ap large (get_or_past bs j no_block (omega (arith, length-take n bs))))
      (cases_lt j (length (take n bs)))))

  pub judged : unless (over (position (λ (b : Block). ltb 65536 b.vertices) (take n bs))) (Ok (tt {0})) ≡ unless (over (lowest (λ j. ltb 65536 (block_of bs j).vertices) n)) (Ok (tt {0}))
  judged = ap (λ o. unless (over o) (Ok (tt {0}))) (first_large (position large (take n bs)) refl)

-- an answer with another value where nothing is refused
unless_err : {A B : Type 0} (o : Option Refusal) (x : A) (y : B) (e : Refusal) → Err e ≡ unless o (Ok x) → unless o (Ok y) ≡ Err e
unless_err None x y e h = absurd (grind arith)
unless_err (Some z) x y e h = ap Err (grind arith)

unless_none : {A : Type 0} (o : Option Refusal) (x : A) → Ok x ≡ unless o (Ok x) → o ≡ None
unless_none None x h = refl
unless_none (Some z) x h = absurd (grind arith)

over_none : (o : Option ℕ) → over o ≡ None → o ≡ None
over_none None h = refl
over_none (Some j) h = absurd (grind arith)

module _ (m : Level) (levels : ℕ) (counted : has_levels levels ≡ true) where
  good : bad_levels levels ≡ None
  good = cond-true (has_levels levels) None (Some (LevelCount levels)) counted

  need_fine : need m levels ≡ unless (too_fine m levels) (Ok (needs m levels))
  need_fine = ap (λ o. unless o (unless (too_fine m levels) (Ok (needs m levels)))) good

pub need_levels : (m : Level) (levels : ℕ) → has_levels levels ≡ false → need m levels ≡ Err (LevelCount levels)
need_levels m levels e = ap (λ o. unless o (unless (too_fine m levels) (Ok (needs m levels)))) (cond-false (has_levels levels) None (Some (LevelCount levels)) e)

module _ (s : Shape) (rules : Rules s) (levels : ℕ) (counted : has_levels levels ≡ true) (bs : List Block) (laid : (j : ℕ) → j ≤ levels → block_of bs j ≡ block_at (first_block s) j) where
  same_fine : over (lowest (λ j. ltb 65536 (block_of bs j).vertices) (levels + 1)) ≡ too_fine (surface s) levels
  same_fine = ap over (lowest_alike _ _ (levels + 1) (λ j l. ap (ltb 65536) (ap (λ b. b.vertices) (laid j (omega arith)) ∙ (counts_at s rules j).vertices)))

  pub survey_refused : (e : Refusal) → Err e ≡ unless (over (lowest (λ j. ltb 65536 (block_of bs j).vertices) (levels + 1))) (Ok (tt {0})) → need (surface s) levels ≡ Err e
  survey_refused e h = need_fine (surface s) levels counted ∙ unless_err (too_fine (surface s) levels) (tt {0}) (needs (surface s) levels) e (h ∙ ap (λ o. unless o (Ok (tt {0}))) same_fine)

  pub survey_passed : Ok (tt {0}) ≡ unless (over (lowest (λ j. ltb 65536 (block_of bs j).vertices) (levels + 1))) (Ok (tt {0})) → Surveyed s levels bs
  survey_passed h =
      let none = unless_none (too_fine (surface s) levels) (tt {0}) (h ∙ ap (λ o. unless o (Ok (tt {0}))) same_fine) in
      let parts = and_parts (leb 1 levels) (leb levels 5) counted in
      record {
        some = leb-true 1 levels parts.0;
        few = leb-true levels 5 parts.1;
        laid = laid;
        fits = ltb-false 65536 (level (surface s) levels).vertices (lowest_missing _ (levels + 1) (over_none _ none) levels (omega arith));
        needed = need_fine (surface s) levels counted ∙ ap (λ o. unless o (Ok (needs (surface s) levels))) none;
      }

module _ (s : Shape) (rules : Rules s) (levels : ℕ) (bs : List Block) (found : Surveyed s levels bs) where
  pub need_at : (block_of bs levels).at ≡ needs (surface s) levels
  need_at = ap (λ b. b.at) (found.laid levels (omega arith)) ∙ at_needs s rules levels

  pub finest_at : (block_of bs levels).vertices ≡ (level (surface s) levels).vertices
  finest_at = ap (λ b. b.vertices) (found.laid levels (omega arith)) ∙ (counts_at s rules levels).vertices

  pub planned_short : (given : ℕ) → given < (block_of bs levels).at → planned (surface s) levels given ≡ Err (TableTooShort (block_of bs levels).at)
  planned_short given l =
      ap (λ r. then r (in_table (surface s) levels given)) found.needed ∙ cond-true (ltb given (needs (surface s) levels)) (Err (TableTooShort (needs (surface s) levels))) (Ok (level (surface s) levels).vertices) (lt-ltb given (needs (surface s) levels) (omega (arith, need_at))) ∙ ap (λ n. Err (TableTooShort n)) (sym need_at)

  pub planned_filled : (given : ℕ) → (block_of bs levels).at ≤ given → planned (surface s) levels given ≡ Ok (block_of bs levels).vertices
  planned_filled given l =
      ap (λ r. then r (in_table (surface s) levels given)) found.needed ∙ cond-false (ltb given (needs (surface s) levels)) (Err (TableTooShort (needs (surface s) levels))) (Ok (level (surface s) levels).vertices) (le-ltb given (needs (surface s) levels) (omega (arith, need_at))) ∙ ap Ok (sym finest_at)

  pub surveyed_lawful : Lawful (hierarchy (surface s) levels)
  surveyed_lawful = hierarchy_lawful (surface s) levels (surface_sound s rules) found.some found.few found.fits
