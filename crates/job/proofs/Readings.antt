-- What a line's words say, and a command as it is written. Assumes nothing.
use Rattle.std.proofs.Common.{◌≡◌, ℕ, ◌-◌, ◌<◌, ◌≤◌, min, Bool, true, false, List, [], ◌∷◌, ◌++◌, length, get_or, map, take, codes, Decides, sym, refl, ap, ◌∙◌, ⊎_elim, arith, Bor}
use Rattle.std.proofs.lemmas.Slice.Eq.{bytes_eq-Decides}
use Rattle.std.proofs.lemmas.List.{length-map, take-map}
use Rattle.std.proofs.lemmas.Slice.{first_rest}
use Rattle.std.proofs.lemmas.Bool.{cases_Bool, eq-eqb, ne_eqb}
use Rattle.std.specs.List.{between}
use Rattle.std.specs.Str.{bytes_eq}
use Rattle.job.specs.Meaning.{Meaning, nothing, base, unknown, wrong_count, comment, base_of, meaning_of, meaning}
use Rattle.job.specs.Words.{words, Word}
use Rattle.job.proofs.Cuts.{words_word, words_last}

abbrev pub texts : List (Bor (List ℕ)) → List (List ℕ)
texts ws = map (λ w. w.now) ws

-- room holds the first of ws
abbrev pub Holds : List (List ℕ) → List (List ℕ) → Type 0
Holds room ws = take (min (length ws) (length room)) room ≡ take (length room) ws

comment_is : (w : List ℕ) (r : Bool) → Decides r (get_or w 0 0 ≡ 35) → comment w ≡ r
comment_is [] true d = let z : ◌≡◌ {A = ℕ} 0 35 = d.0 refl in absurd (omega arith)
comment_is [] false d = refl
comment_is (b ∷ w) true d = eq-eqb b 35 (d.0 refl)
comment_is (b ∷ w) false d = ne_eqb b 35 (λ e. let z : false ≡ true = d.1 e in let o : ◌≡◌ {A = ℕ} 0 1 = cc in absurd (omega arith))

other : (xs ys : List ℕ) → (xs ≡ ys → ⊥) → bytes_eq xs ys ≡ false
other xs ys ne = ⊎_elim (λ e. absurd (ne ((bytes_eq-Decides xs ys).0 e))) (λ e. e) (cases_Bool (bytes_eq xs ys))

pub texts_none : (ws : List (Bor (List ℕ))) → length ws < 1 → texts ws ≡ []
texts_none [] l = refl
texts_none (w ∷ ws) l = absurd (omega arith)

module _ (n : ℕ) (ws : List (Bor (List ℕ))) (d : Bor (List ℕ)) (some : 1 ≤ length ws) where
  abbrev first : List ℕ
  first = (get_or ws 0 d).now

  abbrev arguments : List (List ℕ)
  arguments = texts (between 1 (length ws) ws)

  by_first : meaning_of n (texts ws) ≡ meaning_of n (first ∷ arguments)
  by_first = ap (λ l. meaning_of n (texts l)) (first_rest ws d some)

  pub at_comment : Decides true (get_or first 0 0 ≡ 35) → meaning_of n (texts ws) ≡ nothing
  at_comment c = by_first ∙ rw (comment_is first true c)

  pub at_base : Decides false (get_or first 0 0 ≡ 35) → first ≡ codes "base" → meaning_of n (texts ws) ≡ base_of n arguments
  at_base c e = by_first ∙ rw (comment_is first false c, e)

  pub at_other : Decides false (get_or first 0 0 ≡ 35) → (first ≡ codes "base" → ⊥) → meaning_of n (texts ws) ≡ unknown first
  at_other c ne = by_first ∙ rw (comment_is first false c, other first (codes "base") ne)

-- eight words tell as much as all of them
pub meaning_kept : (n : ℕ) (ws : List (List ℕ)) → meaning_of n (take 8 ws) ≡ meaning_of n ws
meaning_kept n [] = refl
meaning_kept n (w ∷ []) = refl
meaning_kept n (w ∷ v ∷ []) = refl
meaning_kept n (w ∷ v ∷ u ∷ ws) = refl

pub base_one : (n : ℕ) (ws : List (Bor (List ℕ))) (d : Bor (List ℕ)) → length ws ≡ 1 → base (get_or ws 0 d).now ≡ base_of n (texts ws)
base_one n [] d one = absurd (omega arith)
base_one n (w ∷ []) d one = refl
base_one n (w ∷ v ∷ ws) d one = absurd (omega arith)

pub base_else : (n : ℕ) (ws : List (Bor (List ℕ))) → (length ws ≡ 1 → ⊥) → wrong_count (codes "base FILE") n ≡ base_of n (texts ws)
base_else n [] none = refl
base_else n (w ∷ []) none = absurd (none refl)
base_else n (w ∷ v ∷ ws) none = refl

-- the words that room has kept say what all words say
pub told_by_first : (n m : ℕ) (room : List (Bor (List ℕ))) (ws : List (List ℕ)) → length room ≡ 8 → n ≡ length ws → m ≡ min n 8 → Holds (texts room) ws → meaning_of n (texts (take (m - 0) room)) ≡ meaning ws
told_by_first n m room ws eight count fits holds =
    let size : length (texts room) ≡ 8 = length-map room (λ w. w.now) ∙ eight in
    let many : m - 0 ≡ min (length ws) (length (texts room)) = omega (arith, size) in
    let kept : texts (take (m - 0) room) ≡ take 8 ws = sym (take-map (λ w. w.now) (m - 0) room) ∙ ap (λ k. take k (texts room)) many ∙ holds ∙ ap (λ k. take k ws) size in
    ap (meaning_of n) kept ∙ meaning_kept n ws ∙ ap (λ k. meaning_of k ws) count

base_word : Word (codes "base")
base_word = record { some = omega arith; solid = (λ e. omega arith, (λ e. omega arith, (λ e. omega arith, (λ e. omega arith, tt)))) }

-- a command as it is written
pub base_written : (file : List ℕ) → Word file → meaning (words (codes "base " ++ file)) ≡ base file
base_written file w = ap meaning (words_word (codes "base") file base_word ∙ ap (λ ws. codes "base" ∷ ws) (words_last file w))

pub as_written : (line : List ℕ) (m : Meaning) → m ≡ meaning (words line) → (file : List ℕ) → Word file → line ≡ codes "base " ++ file → m ≡ base file
as_written line m told file w e = told ∙ ap (λ bs. meaning (words bs)) e ∙ base_written file w
