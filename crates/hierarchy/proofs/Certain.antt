-- That a meaning is lawful can be shown in one way only, so a hidden proof of it can be had again. Assumes nothing.
use mathlib.Core.Bool.{Bool-set}
use Rattle.std.proofs.Common.{ℕ, List, [], ◌∷◌, refl}
use mathlib.Core.List.{is_set}
use mathlib.Core.Logic.{∥∥₁_elim}
use native.Mathlib.Bridge.{le_prop}
use native.Mathlib.Nat.{ℕ_set}
use Rattle.std.specs.List.{AllByRecursion}
use Rattle.hierarchy.specs.Meaning.{Meaning}
use Rattle.hierarchy.specs.Lawful.{Rises, Lawful}

rises_prop : (xs : List ℕ) → IsProp (Rises xs)
rises_prop [] a b = refl
rises_prop (x ∷ []) a b = refl
rises_prop (x ∷ y ∷ xs) a b = λ i. (le_prop a.0 b.0 i, rises_prop (y ∷ xs) a.1 b.1 i)

all_prop : {X : Type 0} (P : X → Type 0) → ((x : X) → IsProp (P x)) → (xs : List X) → IsProp (AllByRecursion P xs)
all_prop P h [] a b = refl
all_prop P h (x ∷ xs) a b = λ i. (h x a.0 b.0 i, all_prop P h xs a.1 b.1 i)

pub lawful_prop : (m : Meaning) → IsProp (Lawful m)
lawful_prop m a b = λ i. record {
  some_level = le_prop a.some_level b.some_level i;
  few_levels = le_prop a.few_levels b.few_levels i;
  next_vertices = λ j h. ℕ_set _ _ (a.next_vertices j h) (b.next_vertices j h) i;
  few_vertices = le_prop a.few_vertices b.few_vertices i;
  rising = λ j l k. rises_prop (m.list j l k) (a.rising j l k) (b.rising j l k) i;
  short = λ j l k. le_prop (a.short j l k) (b.short j l k) i;
  below = λ j l k. all_prop _ (λ n. le_prop) (m.list j l k) (a.below j l k) (b.below j l k) i;
  dimensions = λ j v. le_prop (a.dimensions j v) (b.dimensions j v) i;
  no_counts = λ j h. (ℕ_set _ _ (a.no_counts j h).0 (b.no_counts j h).0 i, ℕ_set _ _ (a.no_counts j h).1 (b.no_counts j h).1 i, ℕ_set _ _ (a.no_counts j h).2 (b.no_counts j h).2 i);
  no_level = λ j h k. (λ l. is_set ℕ_set _ _ ((a.no_level j h k).0 l) ((b.no_level j h k).0 l) i, Bool-set _ _ (a.no_level j h k).1 (b.no_level j h k).1 i, ℕ_set _ _ (a.no_level j h k).2 (b.no_level j h k).2 i);
  no_list = λ j l k h. is_set ℕ_set _ _ (a.no_list j l k h) (b.no_list j l k h) i;
  no_edge = λ j e h. Bool-set _ _ (a.no_edge j e h) (b.no_edge j e h) i;
  no_vertex = λ j v h. ℕ_set _ _ (a.no_vertex j v h) (b.no_vertex j v h) i;
}

pub lawful_from : (m : Meaning) → ∥ Lawful m ∥₁ → Lawful m
lawful_from m hidden = ∥∥₁_elim hidden (lawful_prop m) (λ lawful. lawful)
