-- That a shape keeps the rules can be shown in one way only, so a hidden proof of it can be had again. Assumes nothing.
use Rattle.std.proofs.Common.{ℕ, List, [], ◌∷◌, refl}
use mathlib.Core.Bool.{Bool-set}
use mathlib.Core.Logic.{∥∥₁_elim}
use native.Mathlib.Bridge.{le_prop}
use native.Mathlib.Nat.{ℕ_set}
use Rattle.std.specs.List.{AllByRecursion}
use Rattle.mesh.specs.Rules.{Polygon, Rules}
use Rattle.mesh.specs.Shape.{Shape}

all_prop : {X : Type 0} (P : X → Type 0) → ((x : X) → IsProp (P x)) → (xs : List X) → IsProp (AllByRecursion P xs)
all_prop P h [] a b = refl
all_prop P h (x ∷ xs) a b = λ i. (h x a.0 b.0 i, all_prop P h xs a.1 b.1 i)

polygon_prop : (n : ℕ) (cs : List ℕ) → IsProp (Polygon n cs)
polygon_prop n cs a b = λ i. record { least = le_prop a.least b.least i; most = le_prop a.most b.most i; proper = Bool-set _ _ a.proper b.proper i }

rules_prop : (s : Shape) → IsProp (Rules s)
rules_prop s a b = λ i. record {
  some_face = le_prop a.some_face b.some_face i;
  most_vertices = le_prop a.most_vertices b.most_vertices i;
  most_faces = le_prop a.most_faces b.most_faces i;
  most_edges = le_prop a.most_edges b.most_edges i;
  dimensions = all_prop _ (λ d. le_prop) s.dims a.dimensions b.dimensions i;
  polygons = all_prop _ (polygon_prop _) s.faces a.polygons b.polygons i;
  marks = ℕ_set _ _ a.marks b.marks i;
  shared = λ e l. (le_prop (a.shared e l).0 (b.shared e l).0 i, le_prop (a.shared e l).1 (b.shared e l).1 i);
  rim = λ e l u. Bool-set _ _ (a.rim e l u) (b.rim e l u) i;
  in_face = λ v l. Bool-set _ _ (a.in_face v l) (b.in_face v l) i;
  valence = λ v l. le_prop (a.valence v l) (b.valence v l) i;
  fitting = λ v l. Bool-set _ _ (a.fitting v l) (b.fitting v l) i;
}

pub rules_from : (s : Shape) → ∥ Rules s ∥₁ → Rules s
rules_from s hidden = ∥∥₁_elim hidden (rules_prop s) (λ rules. rules)
