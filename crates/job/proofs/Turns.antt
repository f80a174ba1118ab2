-- One word after another. Assumes nothing.
use Rattle.std.proofs.Common.{◌≡◌, ℕ, ◌+◌, ◌<◌, ◌≤◌, Bool, true, false, cond, ◌==◌, List, [], ◌∷◌, ◌++◌, length, get_or, drop, IfSome, Some, None, Option, unwrap_or, sym, refl, ap, ◌∙◌, length-append, arith, Bor}
use lib.Utf8.{encode}
use Rattle.std.proofs.lemmas.List.{length_push}
use Rattle.std.proofs.lemmas.Str.Pattern.{IsSplitOnceResult, drop_at_char, split_parts}
use Rattle.std.proofs.ByRecursion.{All-from_get_or}
use Rattle.std.specs.Str.Pattern.{FindsCharPrefix, IsTrimStartMatches, CutsPrefixes, IsFullyTrimmed}
use Rattle.job.specs.Words.{space, unless_empty, words_from, words, Word}
use Rattle.job.proofs.Cuts.{words_nil, words_space, words_word, words_last}

-- spaces cut off the front leave the words
words_peeled : (bs : List ℕ) (ns rest : List ℕ) → CutsPrefixes (FindsCharPrefix space) bs ns rest → words bs ≡ words rest
words_peeled bs [] rest p = ap words (sym p)
words_peeled bs (n ∷ ns) rest p =
    let before = p.0 in
    words_peeled bs ns before p.1 ∙ ap words (drop_at_char space before 0 n p.2 (omega arith)) ∙ words_space (drop n before) ∙ ap words (sym p.3)

pub words_trimmed : (bs rest : List ℕ) → IsTrimStartMatches (FindsCharPrefix space) bs rest → words bs ≡ words rest
words_trimmed bs rest p = words_peeled bs p.0.0 rest p.0.1

-- what is left does not begin with a space
stops : (bs rest : List ℕ) (o : Option ℕ) → FindsCharPrefix space bs o → IfSome o (λ n. n ≡ 0) → bs ≡ space ∷ rest → ⊥
unfolding encode
stops bs rest None b z e = b rest e
stops bs rest (Some n) b z e = omega (arith, b.ends)

pub some_before : (bs w rest : List ℕ) → IsFullyTrimmed (FindsCharPrefix space) bs → bs ≡ w ++ (space ∷ rest) → 0 < length w
some_before bs [] rest s e = absurd (stops bs rest s.0 s.1 s.2 e)
some_before bs (b ∷ w) rest s e = omega arith

pub is_word : (w : List ℕ) → 0 < length w → ((i : ℕ) → i < length w → get_or w i 0 ≡ space → ⊥) → Word w
is_word w some h = record { some = some; solid = All-from_get_or (λ b. b ≡ space → ⊥) w 0 h }

-- the first word of bs, which has some after the spaces in front are cut off, and what is left
pub first_word : (bs start : List ℕ) (o : Option (Bor (List ℕ) × Bor (List ℕ))) (whole : Bor (List ℕ) × Bor (List ℕ)) → IsTrimStartMatches (FindsCharPrefix space) bs start → IsSplitOnceResult space start o
    → 0 < length start → whole.0.now ≡ start → whole.1.now ≡ [] → words bs ≡ (unwrap_or o whole).0.now ∷ words (unwrap_or o whole).1.now
first_word bs start None whole trimmed split some all none = words_trimmed bs start trimmed ∙ words_last start (is_word start some (split_parts space start None split (omega arith))) ∙ rw (all, none, words_nil) refl
first_word bs start (Some p) whole trimmed split some all none =
    let cut = split_parts space start (Some p) split (omega arith) in
    words_trimmed bs start trimmed ∙ ap words cut.0 ∙ words_word p.0.now p.1.now (is_word p.0.now (some_before start p.0.now p.1.now trimmed.1 cut.0) cut.1)

-- a text has no more words than bytes
one_at_most : (w : List ℕ) → length (unless_empty w) ≤ length w
one_at_most [] = omega arith
one_at_most (b ∷ w) = omega arith

module _ (w : List ℕ) (b : ℕ) (bs : List ℕ) where
  fit_by_byte : (q : Bool) → length (words_from [] bs) ≤ length bs → length (words_from (w ++ b ∷ []) bs) ≤ length (w ++ b ∷ []) + length bs
      → length (cond q (unless_empty w ++ words_from [] bs) (words_from (w ++ b ∷ []) bs)) ≤ length w + length (b ∷ bs)
  fit_by_byte true fresh longer = omega (arith, one_at_most w, fresh, length-append (unless_empty w) (words_from [] bs))
  fit_by_byte false fresh longer = omega (arith, longer, length_push w b)

words_from_fit : (w bs : List ℕ) → length (words_from w bs) ≤ length w + length bs
words_from_fit w [] = omega (arith, one_at_most w)
words_from_fit w (b ∷ bs) = fit_by_byte w b bs (b == space) (omega (arith, words_from_fit [] bs)) (words_from_fit (w ++ b ∷ []) bs)

pub words_fit : (bs : List ℕ) → length (words bs) ≤ length bs
unfolding words
words_fit bs = omega (arith, words_from_fit [] bs)
