-- How a line falls into words. Assumes nothing.
use Rattle.std.proofs.Common.{◌≡◌, ℕ, ◌<◌, Bool, true, false, cond, eqb, List, [], ◌∷◌, ◌++◌, length, sym, refl, ap, ◌∙◌, subst, append_assoc, append-nil, arith}
use Rattle.std.proofs.ByRecursion.{All-push}
use Rattle.std.proofs.lemmas.Bool.{ne_eqb, eqb-true, eqb-false}
use Rattle.std.specs.List.{AllByRecursion}
use Rattle.job.specs.Words.{space, unless_empty, words_from, words, Word, Cut}

abbrev pub Solid : List ℕ → Type 0
Solid w = AllByRecursion (λ b. b ≡ space → ⊥) w

pub words_nil : words [] ≡ []
unfolding words
words_nil = refl

pub words_space : (bs : List ℕ) → words (space ∷ bs) ≡ words bs
unfolding words
words_space bs = refl

-- bytes that are no spaces go on with the word before them
words_from_solid : (v w rest : List ℕ) → Solid w → words_from v (w ++ rest) ≡ words_from (v ++ w) rest
words_from_solid v [] rest s = rw append-nil
words_from_solid v (b ∷ w) rest s = rw (ne_eqb b space s.0) (words_from_solid (v ++ b ∷ []) w rest s.1 ∙ rw append_assoc)

one_word : (w : List ℕ) → 0 < length w → unless_empty w ≡ w ∷ []
one_word [] e = absurd (omega arith)
one_word (b ∷ w) e = refl

pub words_word : (w rest : List ℕ) → Word w → words (w ++ (space ∷ rest)) ≡ w ∷ words rest
unfolding words
words_word w rest h = words_from_solid [] w (space ∷ rest) h.solid ∙ ap (λ ws. ws ++ words_from [] rest) (one_word w h.some)

pub words_last : (w : List ℕ) → Word w → words w ≡ w ∷ []
unfolding words
words_last w h = ap (words_from []) (sym (append-nil w)) ∙ words_from_solid [] w [] h.solid ∙ one_word w h.some

-- a space in front changes nothing
cut_space : (bs : List ℕ) (ws : List (List ℕ)) → Cut bs ws → Cut (space ∷ bs) ws
cut_space bs [] c = (refl, c)
cut_space bs (w ∷ ws) c =
    let f = c.1 in
    (c.0, record { gap = space ∷ f.gap; cut = ap (λ l. space ∷ l) f.cut; blank = (refl, f.blank); word = f.word; whole = f.whole }, c.2)

module _ (b : ℕ) (bs : List ℕ) (rest : Cut bs (words_from [] bs)) where
  cut_blank : b ≡ space → Cut (b ∷ bs) (words_from [] bs)
  cut_blank e = subst (λ x. Cut (x ∷ bs) (words_from [] bs)) (sym e) (cut_space bs (words_from [] bs) rest)

  cut_at_space : (w : List ℕ) → Solid w → b ≡ space → Cut (w ++ (b ∷ bs)) (unless_empty w ++ words_from [] bs)
  cut_at_space [] s e = cut_blank e
  cut_at_space (x ∷ w) s e = (b ∷ bs, record { gap = []; cut = refl; blank = tt; word = record { some = omega arith; solid = s }; whole = e }, cut_blank e)

  cut_by_byte : (w : List ℕ) (q : Bool) → Solid w → eqb b space ≡ q → (Solid (w ++ b ∷ []) → Cut ((w ++ b ∷ []) ++ bs) (words_from (w ++ b ∷ []) bs)) → Cut (w ++ (b ∷ bs)) (cond q (unless_empty w ++ words_from [] bs) (words_from (w ++ b ∷ []) bs))
  cut_by_byte w true s e longer = cut_at_space w s (eqb-true b space e)
  cut_by_byte w false s e longer = subst (λ l. Cut l (words_from (w ++ b ∷ []) bs)) (append_assoc w (b ∷ []) bs) (longer (All-push (λ x. x ≡ space → ⊥) w b s (eqb-false b space e)))

cut_from : (w bs : List ℕ) → Solid w → Cut (w ++ bs) (words_from w bs)
cut_from [] [] s = tt
cut_from (x ∷ w) [] s = ([], record { gap = []; cut = refl; blank = tt; word = record { some = omega arith; solid = s }; whole = tt }, tt)
cut_from w (b ∷ bs) s = cut_by_byte b bs (cut_from [] bs tt) w (eqb b space) s refl (cut_from (w ++ b ∷ []) bs)

pub words_cut : (bs : List ℕ) → Cut bs (words bs)
unfolding words
words_cut bs = cut_from [] bs tt
