-- One turn of the loops over corners, sides and bytes. Assumes nothing.
use Rattle.std.proofs.Common.{◌≡◌, ℕ, ◌+◌, ◌-◌, ◌*◌, ◌<◌, ◌≤◌, Bool, true, false, cond, not, ◌&&◌, ltb, List, [], ◌∷◌, ◌++◌, length, get_or, take, drop, is_some, sym, refl, ap, ◌∙◌, ap₂, append_assoc, arith}
use Rattle.std.proofs.lemmas.List.{append-nil, drop_more, drop_all, take_rest}
use Rattle.std.proofs.lemmas.Bool.{cond-true, cond-false, and_left, and_right}
use Rattle.mesh.specs.declared.Side.{Side}
use Rattle.mesh.specs.Records.{numbers}
use Rattle.mesh.specs.Rules.{proper, all_below, distinct}
use Rattle.mesh.specs.Shape.{nowhere, onward, around, occurs, edge_of, with_side, marked}

-- what is left once a part is appended stands behind that part
pub appended : {A : Type 0} (before after rest rest' part : List A) → after ≡ before ++ part → rest ≡ part ++ rest' → after ++ rest' ≡ before ++ rest
appended before after rest rest' part e f = ap (λ l. l ++ rest') e ∙ append_assoc before part rest' ∙ ap (λ l. before ++ l) (sym f)

pub twice_appended : {A : Type 0} (a b c p q : List A) → b ≡ a ++ p → c ≡ b ++ q → c ≡ a ++ (p ++ q)
twice_appended a b c p q e f = f ∙ ap (λ l. l ++ q) e ∙ append_assoc a p q

pub all_appended : {A : Type 0} (out rest whole : List A) → rest ≡ [] → out ++ rest ≡ whole → out ≡ whole
all_appended out rest whole e f = sym (append-nil out) ∙ ap (λ l. out ++ l) (sym e) ∙ f

pub numbers_front : (bs : List ℕ) → 2 ≤ length bs → numbers bs ≡ (get_or bs 0 0 + 256 * get_or bs 1 0) ∷ numbers (take (length bs - 2) (drop 2 bs))
numbers_front [] l = absurd (omega arith)
numbers_front (a ∷ []) l = absurd (omega arith)
numbers_front (a ∷ b ∷ bs) l = ap (λ r. (a + 256 * b) ∷ numbers r) (sym (take_rest (a ∷ b ∷ bs) 2))

pub numbers_short : (bs : List ℕ) → length bs < 2 → numbers bs ≡ []
numbers_short [] l = refl
numbers_short (a ∷ []) l = refl
numbers_short (a ∷ b ∷ bs) l = absurd (omega arith)

pub around_front : (cs : List ℕ) → 1 ≤ length cs → around cs ≡ onward (get_or cs 0 0) (get_or cs 0 0) (take (length cs - 1) (drop 1 cs))
around_front [] l = absurd (omega arith)
around_front (c ∷ cs) l = ap (onward c c) (sym (take_rest (c ∷ cs) 1))

pub around_none : (cs : List ℕ) → length cs < 1 → around cs ≡ []
around_none [] l = refl
around_none (c ∷ cs) l = absurd (omega arith)

pub proper_front : (n : ℕ) (cs : List ℕ) → 1 ≤ length cs → proper n cs ≡ proper n (get_or cs 0 0 ∷ take (length cs - 1) (drop 1 cs))
proper_front n [] l = absurd (omega arith)
proper_front n (c ∷ cs) l = ap (λ r. proper n (c ∷ r)) (sym (take_rest (c ∷ cs) 1))

pub proper_none : (n : ℕ) (cs : List ℕ) → length cs < 1 → proper n cs ≡ true
proper_none n [] l = refl
proper_none n (c ∷ cs) l = absurd (omega arith)

both_nots : (a b c d : Bool) → a ≡ true → b ≡ false → ((a && c) && (not b && d)) ≡ (c && d)
both_nots true false c d e f = refl
both_nots true true c d e f = let z : ◌≡◌ {A = ℕ} 0 1 = cc in absurd (omega arith)
both_nots false b c d e f = let z : ◌≡◌ {A = ℕ} 0 1 = cc in absurd (omega arith)

pub proper_more : (n c : ℕ) (cs : List ℕ) → ltb c n ≡ true → occurs c cs ≡ false → proper n (c ∷ cs) ≡ proper n cs
proper_more n c cs e f = both_nots (ltb c n) (occurs c cs) (all_below n cs) (distinct cs) e f

pub proper_unknown : (n c : ℕ) (cs : List ℕ) → ltb c n ≡ false → proper n (c ∷ cs) ≡ false
proper_unknown n c cs e = and_left _ _ (and_left (ltb c n) (all_below n cs) e)

pub proper_twice : (n c : ℕ) (cs : List ℕ) → occurs c cs ≡ true → proper n (c ∷ cs) ≡ false
proper_twice n c cs e = and_right (all_below n (c ∷ cs)) _ (and_left (not (occurs c cs)) (distinct cs) (ap not e))

pub with_known : (es : List Side) (s : Side) → is_some (edge_of es s) ≡ true → with_side es s ≡ es
with_known es s e = cond-true (is_some (edge_of es s)) es (es ++ s ∷ []) e

pub with_new : (es : List Side) (s : Side) → is_some (edge_of es s) ≡ false → with_side es s ≡ es ++ s ∷ []
with_new es s e = cond-false (is_some (edge_of es s)) es (es ++ s ∷ []) e

marked_drop : (es : List Side) (ms : List Bool) (i : ℕ) → i < length es → i < length ms → marked (drop i es) (drop i ms) ≡ cond (get_or ms i false) (get_or es i nowhere ∷ marked (drop (i + 1) es) (drop (i + 1) ms)) (marked (drop (i + 1) es) (drop (i + 1) ms))
marked_drop es ms i l k = ap₂ marked (drop_more es i nowhere l) (drop_more ms i false k)

pub marked_yes : (es : List Side) (ms : List Bool) (i : ℕ) → i < length es → i < length ms → get_or ms i false ≡ true → marked (drop i es) (drop i ms) ≡ get_or es i nowhere ∷ marked (drop (i + 1) es) (drop (i + 1) ms)
marked_yes es ms i l k e = marked_drop es ms i l k ∙ cond-true (get_or ms i false) _ _ e

pub marked_no : (es : List Side) (ms : List Bool) (i : ℕ) → i < length es → i < length ms → get_or ms i false ≡ false → marked (drop i es) (drop i ms) ≡ marked (drop (i + 1) es) (drop (i + 1) ms)
marked_no es ms i l k e = marked_drop es ms i l k ∙ cond-false (get_or ms i false) _ _ e

pub marked_all : (es : List Side) (ms : List Bool) (i : ℕ) → length es ≤ i → marked (drop i es) (drop i ms) ≡ []
marked_all es ms i l = ap (λ xs. marked xs (drop i ms)) (drop_all i es l)
