-- The tables of a mesh when a face is added. Assumes nothing.
use Rattle.std.proofs.Common.{◌≡◌, ℕ, ◌+◌, ◌≤◌, List, [], ◌∷◌, ◌++◌, map, length, take, drop, fold, sum, sym, refl, ap, ◌∙◌, ap₂, arith}
use Rattle.std.proofs.lemmas.List.{append-nil, length-append, length-drop, length-map, length-take-le, take_all, take-append-le, drop-append-le, nil_from_length}
use Rattle.std.proofs.lemmas.List.Sums.{sum_by-cons, sum_by_push}
use Rattle.mesh.specs.declared.Side.{Side}
use Rattle.mesh.specs.Shape.{onward, around, sides, edges, firsts, with_side}
use Rattle.mesh.proofs.Faces.{sides_append}
use Rattle.mesh.proofs.Lists.{folded_append}
use Rattle.base.specs.Faces.{parts}

tails_onward : (first c : ℕ) (cs : List ℕ) → map (λ (s : Side). s.tail) (onward first c cs) ≡ c ∷ cs
tails_onward first c [] = refl
tails_onward first c (d ∷ ds) = ap (λ l. c ∷ l) (tails_onward first d ds)

pub tails_around : (cs : List ℕ) → map (λ (s : Side). s.tail) (around cs) ≡ cs
tails_around [] = refl
tails_around (c ∷ cs) = tails_onward c c cs

pub length_around : (cs : List ℕ) → length (around cs) ≡ length cs
length_around cs = sym (length-map (around cs) (λ (s : Side). s.tail)) ∙ ap length (tails_around cs)

pub length_parts : (ks : List ℕ) (ss : List Side) → length (parts ks ss) ≡ length ks
length_parts [] ss = refl
length_parts (k ∷ ks) ss = ap (λ n. Prim.Native.Nat.suc n) (length_parts ks (drop k ss))

-- the parts have the sizes that they were cut by
pub sizes_again : (ks : List ℕ) (ss : List Side) → sum ks ≡ length ss → map length (parts ks ss) ≡ ks
sizes_again [] ss e = refl
sizes_again (k ∷ ks) ss e =
    let total = sum_by-cons (λ (x : ℕ). x) k ks in
    let inside : k ≤ length ss = omega arith in
    let left = length-drop k ss in
    ap₂ ◌∷◌ (length-map (take k ss) (λ (s : Side). s.tail) ∙ length-take-le k ss inside) (sizes_again ks (drop k ss) (omega arith))

pub parts_more : (ks : List ℕ) (ss fs : List Side) → sum ks ≡ length ss → parts (ks ++ length fs ∷ []) (ss ++ fs) ≡ parts ks ss ++ map (λ s. s.tail) fs ∷ []
parts_more [] ss fs e =
    rw (nil_from_length ss (sym e)) (ap (λ l. map (λ (s : Side). s.tail) l ∷ []) (take_all (length fs) fs (omega arith)))
parts_more (k ∷ ks) ss fs e =
    let total = sum_by-cons (λ (x : ℕ). x) k ks in
    let inside : k ≤ length ss = omega arith in
    let left = length-drop k ss in
    ap₂ (λ a b. map (λ (s : Side). s.tail) a ∷ b) (take-append-le k ss fs inside)
    (ap (parts (ks ++ length fs ∷ [])) (drop-append-le k ss fs inside) ∙ parts_more ks (drop k ss) fs (omega arith))

pub sides_more : (faces : List (List ℕ)) (cs : List ℕ) → sides (faces ++ cs ∷ []) ≡ sides faces ++ around cs
sides_more faces cs = sides_append faces (cs ∷ []) ∙ ap (λ l. sides faces ++ l) (append-nil (around cs))

pub edges_more : (faces : List (List ℕ)) (cs : List ℕ) → edges (faces ++ cs ∷ []) ≡ fold with_side (edges faces) (around cs)
unfolding firsts
edges_more faces cs = ap (fold with_side []) (sides_more faces cs) ∙ folded_append with_side [] (sides faces) (around cs)

-- a face more, whose sides are fs
module _ (ks ks' : List ℕ) (ss ss' es es' fs : List Side) (cs : List ℕ)
    (total : sum ks ≡ length ss) (sided : ss ≡ sides (parts ks ss)) (edged : es ≡ edges (parts ks ss)) (round : fs ≡ around cs)
    (sizes' : ks' ≡ ks ++ length fs ∷ []) (sides' : ss' ≡ ss ++ fs) (edges' : es' ≡ fold with_side es fs) where
  pub faces_more : parts ks' ss' ≡ parts ks ss ++ cs ∷ []
  faces_more =
      ap₂ parts sizes' sides' ∙ parts_more ks ss fs total
      ∙ ap (λ l. parts ks ss ++ l ∷ []) (ap (map (λ s. s.tail)) round ∙ tails_around cs)

  pub total_more : sum ks' ≡ length ss'
  total_more =
      ap sum sizes' ∙ sum_by_push (λ (x : ℕ). x) ks (length fs) ∙ ap (λ n. n + length fs) total
      ∙ sym (length-append ss fs) ∙ sym (ap length sides')

  pub sided_more : ss' ≡ sides (parts ks' ss')
  sided_more = sides' ∙ ap₂ ◌++◌ sided round ∙ sym (sides_more (parts ks ss) cs) ∙ ap sides (sym faces_more)

  pub edged_more : es' ≡ edges (parts ks' ss')
  edged_more = edges' ∙ ap₂ (fold with_side) edged round ∙ sym (edges_more (parts ks ss) cs) ∙ ap edges (sym faces_more)
