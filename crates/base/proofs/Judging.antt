-- The checks that follow the end record. Assumes nothing.
use Rattle.std.proofs.Common.{◌≡◌, ℕ, Bool, not, ◌||◌, eqb, ltb, List, [], ◌∷◌, ◌++◌, map, length, Some, None, Ok, Err, sym, refl, ap, ◌∙◌, ap₂}
use mathlib.Core.List.{map-append}
use mathlib.Core.Path.{fun_ext}
use Rattle.refusal.specs.declared.Refusal.TheVariants.{OpenEdge, BadValence, BadDimension}
use Rattle.mesh.specs.declared.Side.{Side}
use Rattle.mesh.specs.Lowest.{lowest}
use Rattle.mesh.specs.Reading.{checked, open_edge, bad_valence, bad_dimension}
use Rattle.mesh.specs.Shape.{Shape, any, around, sides, edges, degree, occurs, corners}
use Rattle.base.proofs.Tables.{tails_around}

module _ (s : Shape) where
  pub checked_edges : (e : ℕ) → lowest (open_edge s) (length (edges s.faces)) ≡ Some e → checked s ≡ Err (OpenEdge e)
  checked_edges e found = rw found

  module _ (closed : lowest (open_edge s) (length (edges s.faces)) ≡ None) where
    pub checked_valences : (v : ℕ) → lowest (bad_valence s) (length s.dims) ≡ Some v → checked s ≡ Err (BadValence v)
    checked_valences v found = rw (closed, found)

    module _ (used : lowest (bad_valence s) (length s.dims) ≡ None) where
      pub checked_dimensions : (v : ℕ) → lowest (bad_dimension s) (length s.dims) ≡ Some v → checked s ≡ Err (BadDimension v)
      checked_dimensions v found = rw (closed, used, found)

      pub checked_all : lowest (bad_dimension s) (length s.dims) ≡ None → checked s ≡ Ok s
      checked_all fit = rw (closed, used, fit)

any_map : {A B : Type 0} (p : B → Bool) (f : A → B) (xs : List A) → any p (map f xs) ≡ any (λ x. p (f x)) xs
any_map p f [] = refl
any_map p f (x ∷ xs) = ap (λ b. p (f x) || b) (any_map p f xs)

corners_tails : (faces : List (List ℕ)) → corners faces ≡ map (λ (s : Side). s.tail) (sides faces)
corners_tails [] = refl
corners_tails (f ∷ fs) = ap₂ ◌++◌ (sym (tails_around f)) (corners_tails fs) ∙ sym (map-append (λ (s : Side). s.tail) (around f) (sides fs))

-- a vertex lies in a face if it is the tail of a side
pub corner_test : (faces : List (List ℕ)) (v : ℕ) → occurs v (corners faces) ≡ any (λ s. eqb s.tail v) (sides faces)
corner_test faces v = ap (occurs v) (corners_tails faces) ∙ any_map (λ x. eqb x v) (λ (s : Side). s.tail) (sides faces)

pub valence_test : (faces : List (List ℕ)) (n : ℕ) → lowest (λ v. not (any (λ s. eqb s.tail v) (sides faces)) || ltb 8 (degree (edges faces) v)) n ≡ lowest (λ v. not (occurs v (corners faces)) || ltb 8 (degree (edges faces) v)) n
valence_test faces n = ap (λ (p : ℕ → Bool). lowest p n) (fun_ext (λ v. ap (λ b. not b || ltb 8 (degree (edges faces) v)) (sym (corner_test faces v))))
