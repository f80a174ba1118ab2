-- The corners of a base's faces, numbered face after face, and going round a face. Assumes nothing.
use Rattle.std.proofs.Common.{◌≡◌, ℕ, zero, suc, ◌+◌, ◌-◌, ◌<◌, Bool, true, false, cond, eqb, ltb, List, [], ◌∷◌, length, get_or, sym, refl, ap, ◌∙◌, ap₂, add-one, arith}
use Rattle.std.proofs.lemmas.List.{length-append, get_or_append_left, get_or-append-add, get_or-append_right}
use Rattle.std.proofs.lemmas.Bool.{cond-true, lt-ltb, le-ltb, eq-eqb, ne_eqb}
use Rattle.std.proofs.lemmas.Bool.Decides.{nat_tests}
use Rattle.mesh.specs.Shape.{side, nowhere, onward, around, sides, corners}
use Rattle.levels.specs.Surfaces.{face_at, back_at, forth_at}
use Rattle.levels.specs.Sound.{count}
use Rattle.levels.proofs.Counting.{count_alike, count_none, count_all, count_plus}
use Rattle.levels.proofs.Places.{by_two}

-- round a face of n corners, from corner c
abbrev pub back_in : ℕ → ℕ → ℕ
back_in n c = cond (eqb c 0) (n - 1) (c - 1)

abbrev pub forth_in : ℕ → ℕ → ℕ
forth_in n c = cond (ltb (c + 1) n) (c + 1) 0

forth_back : (n c : ℕ) → c < n → (back_in n c < n) × (forth_in n (back_in n c) ≡ c)
forth_back n c l = (grind (arith, nat_tests), grind (arith, nat_tests))

pub back_forth : (n c : ℕ) → c < n → (forth_in n c < n) × (back_in n (forth_in n c) ≡ c)
back_forth n c l = (grind (arith, nat_tests), grind (arith, nat_tests))

module _ (f : List ℕ) (fs : List (List ℕ)) where
  pub face_first : (c : ℕ) → c < length f → face_at (f ∷ fs) c ≡ 0
  face_first c l = cond-true (ltb c (length f)) 0 (1 + face_at fs (c - length f)) (lt-ltb c (length f) l)

  pub back_first : (c : ℕ) → c < length f → back_at (f ∷ fs) c ≡ back_in (length f) c
  back_first c l = cond-true (ltb c (length f)) (back_in (length f) c) _ (lt-ltb c (length f) l)

  pub forth_first : (c : ℕ) → c < length f → forth_at (f ∷ fs) c ≡ forth_in (length f) c
  forth_first c l = cond-true (ltb c (length f)) (forth_in (length f) c) _ (lt-ltb c (length f) l)

  later : (c : ℕ) → (ltb (length f + c) (length f) ≡ false) × (length f + c - length f ≡ c)
  later c = (le-ltb (length f + c) (length f) (omega arith), omega arith)

  pub face_later : (c : ℕ) → face_at (f ∷ fs) (length f + c) ≡ 1 + face_at fs c
  face_later c = rw ((later c).0, (later c).1)

  pub back_later : (c : ℕ) → back_at (f ∷ fs) (length f + c) ≡ length f + back_at fs c
  back_later c = rw ((later c).0, (later c).1)

  pub forth_later : (c : ℕ) → forth_at (f ∷ fs) (length f + c) ≡ length f + forth_at fs c
  forth_later c = rw ((later c).0, (later c).1)

  pub length_corners : length (corners (f ∷ fs)) ≡ length f + length (corners fs)
  length_corners = length-append f (corners fs)

-- the corners of the first face, and then those of the others
pub by_faces : (P : ℕ → Type 0) (f : List ℕ) (fs : List (List ℕ)) → ((c : ℕ) → c < length f → P c) → ((c : ℕ) → c < length (corners fs) → P (length f + c)) → (c : ℕ) → c < length (corners (f ∷ fs)) → P c
by_faces P f fs h1 h2 c l = by_two P (length f) (length (corners fs)) h1 h2 c (omega (arith, length_corners f fs))

pub face_below : (fs : List (List ℕ)) (c : ℕ) → c < length (corners fs) → face_at fs c < length fs
face_below [] c l = absurd (omega arith)
face_below (f ∷ fs) c l = by_faces (λ c. face_at (f ∷ fs) c < length (f ∷ fs)) f fs (λ c l. omega (arith, face_first f fs c l)) (λ c l. omega (arith, face_later f fs c, face_below fs c l)) c l

-- a way round the faces that is known in the first face, by the number of its corners, and past it
record Goes (way : List (List ℕ) → ℕ → ℕ) (way_in : ℕ → ℕ → ℕ) : Type 0 where
  first : (f : List ℕ) (fs : List (List ℕ)) (c : ℕ) → c < length f → way (f ∷ fs) c ≡ way_in (length f) c
  past : (f : List ℕ) (fs : List (List ℕ)) (c : ℕ) → way (f ∷ fs) (length f + c) ≡ length f + way fs c

back_goes : Goes back_at back_in
back_goes = record { first = back_first; past = back_later }

forth_goes : Goes forth_at forth_in
forth_goes = record { first = forth_first; past = forth_later }

-- going one way and then the other, which undo one another in each face
module _ (there again : List (List ℕ) → ℕ → ℕ) (there-in again-in : ℕ → ℕ → ℕ) (to : Goes there there-in) (fro : Goes again again-in) (turns : (n c : ℕ) → c < n → (there-in n c < n) × (again-in n (there-in n c) ≡ c)) where
  round : (fs : List (List ℕ)) (c : ℕ) → c < length (corners fs) → (there fs c < length (corners fs)) × (again fs (there fs c) ≡ c) × (face_at fs (there fs c) ≡ face_at fs c)
  round [] c l = absurd (omega arith)
  round (f ∷ fs) c l =
      by_faces (λ c. (there (f ∷ fs) c < length (corners (f ∷ fs))) × (again (f ∷ fs) (there (f ∷ fs) c) ≡ c) × (face_at (f ∷ fs) (there (f ∷ fs) c) ≡ face_at (f ∷ fs) c)) f fs
      (λ c l.
      let turn = turns (length f) c l in
      let d = there-in (length f) c in
      rw (to.first f fs c l) (omega (arith, length_corners f fs), fro.first f fs d turn.0 ∙ turn.1, face_first f fs d turn.0 ∙ sym (face_first f fs c l)))
      (λ c l.
      let turn = round fs c l in
      rw (to.past f fs c) (omega (arith, length_corners f fs), fro.past f fs (there fs c) ∙ ap (λ d. length f + d) turn.1, face_later f fs (there fs c) ∙ (ap (λ d. 1 + d) turn.2 ∙ sym (face_later f fs c))))
      c l

pub back_round : (fs : List (List ℕ)) (c : ℕ) → c < length (corners fs) → (back_at fs c < length (corners fs)) × (forth_at fs (back_at fs c) ≡ c) × (face_at fs (back_at fs c) ≡ face_at fs c)
back_round = round back_at forth_at back_in forth_in back_goes forth_goes forth_back

pub forth_round : (fs : List (List ℕ)) (c : ℕ) → c < length (corners fs) → (forth_at fs c < length (corners fs)) × (back_at fs (forth_at fs c) ≡ c) × (face_at fs (forth_at fs c) ≡ face_at fs c)
forth_round = round forth_at back_at forth_in back_in forth_goes back_goes back_forth

onward_at : (first c : ℕ) (ds : List ℕ) (i : ℕ) → i < length (c ∷ ds) → get_or (onward first c ds) i nowhere ≡ side (get_or (c ∷ ds) i 0) (cond (ltb (suc i) (length (c ∷ ds))) (get_or (c ∷ ds) (suc i) 0) first)
onward_at first c [] zero l = refl
onward_at first c [] (suc i) l = absurd (omega arith)
onward_at first c (d ∷ ds) zero l = ap (λ b. side c (cond b d first)) (sym (lt-ltb 1 (suc (suc (length ds))) (omega arith)))
onward_at first c (d ∷ ds) (suc i) l =
    let test : ltb (suc i) (suc (length ds)) ≡ ltb (suc (suc i)) (suc (suc (length ds))) = grind (arith, nat_tests) in
    onward_at first d ds i (omega arith) ∙ ap (λ b. side (get_or (d ∷ ds) i 0) (cond b (get_or ds i 0) first)) test

length_onward : (first c : ℕ) (ds : List ℕ) → length (onward first c ds) ≡ suc (length ds)
length_onward first c [] = refl
length_onward first c (d ∷ ds) = ap suc (length_onward first d ds)

length_around : (f : List ℕ) → length (around f) ≡ length f
length_around [] = refl
length_around (c ∷ cs) = length_onward c c cs

pub length_sides : (fs : List (List ℕ)) → length (sides fs) ≡ length (corners fs)
length_sides [] = refl
length_sides (f ∷ fs) = omega (arith, length-append (around f) (sides fs), length_corners f fs, length_around f, length_sides fs)

around_at : (f : List ℕ) (c : ℕ) → c < length f → get_or (around f) c nowhere ≡ side (get_or f c 0) (get_or f (forth_in (length f) c) 0)
around_at [] c l = absurd (omega arith)
around_at (x ∷ xs) c l = onward_at x x xs c l ∙ rw (add-one c) (ap (side (get_or (x ∷ xs) c 0)) (pick (ltb (suc c) (suc (length xs)))))
  where
    pick : (b : Bool) → cond b (get_or xs c 0) x ≡ get_or (x ∷ xs) (cond b (suc c) 0) 0
    pick true = refl
    pick false = refl

-- a corner's side runs from its vertex to the next corner's
pub side_at : (fs : List (List ℕ)) (c : ℕ) → c < length (corners fs) → get_or (sides fs) c nowhere ≡ side (get_or (corners fs) c 0) (get_or (corners fs) (forth_at fs c) 0)
side_at [] c l = absurd (omega arith)
side_at (f ∷ fs) c l =
    by_faces (λ c. get_or (sides (f ∷ fs)) c nowhere ≡ side (get_or (corners (f ∷ fs)) c 0) (get_or (corners (f ∷ fs)) (forth_at (f ∷ fs) c) 0)) f fs
    (λ c l.
    let next = back_forth (length f) c l in
    get_or_append_left (around f) (sides fs) nowhere c (omega (arith, length_around f))
    ∙ (around_at f c l
    ∙ ap₂ side (sym (get_or_append_left f (corners fs) 0 c l)) (sym (ap (λ d. get_or (corners (f ∷ fs)) d 0) (forth_first f fs c l) ∙ get_or_append_left f (corners fs) 0 (forth_in (length f) c) next.0))))
    (λ c l.
    get_or-append_right (around f) (sides fs) (length f) (length f + c) nowhere (length_around f) (omega arith)
    ∙ (ap (λ d. get_or (sides fs) d nowhere) (later f fs c).1
    ∙ (side_at fs c l
    ∙ ap₂ side (sym (get_or-append-add f (corners fs) c 0)) (sym (ap (λ d. get_or (corners (f ∷ fs)) d 0) (forth_later f fs c) ∙ get_or-append-add f (corners fs) (forth_at fs c) 0)))))
    c l

-- a face has as many corners as vertices
pub count_corners : (fs : List (List ℕ)) (i : ℕ) → i < length fs → count (λ c. eqb (face_at fs c) i) (length (corners fs)) ≡ length (get_or fs i [])
count_corners [] i l = absurd (omega arith)
count_corners (f ∷ fs) zero l =
    let all = count_plus (λ c. eqb (face_at (f ∷ fs) c) 0) (length f) (length (corners fs)) (length (corners (f ∷ fs))) (sym (length_corners f fs)) in
    let here = count_all (λ c. eqb (face_at (f ∷ fs) c) 0) (length f) (λ c l. eq-eqb (face_at (f ∷ fs) c) 0 (face_first f fs c l)) in
    let none = count_none (λ c. eqb (face_at (f ∷ fs) (length f + c)) 0) (length (corners fs)) (λ c l. ne_eqb (face_at (f ∷ fs) (length f + c)) 0 (omega (arith, face_later f fs c))) in
    omega arith
count_corners (f ∷ fs) (suc i) l =
    let all = count_plus (λ c. eqb (face_at (f ∷ fs) c) (suc i)) (length f) (length (corners fs)) (length (corners (f ∷ fs))) (sym (length_corners f fs)) in
    let none = count_none (λ c. eqb (face_at (f ∷ fs) c) (suc i)) (length f) (λ c l. ne_eqb (face_at (f ∷ fs) c) (suc i) (omega (arith, face_first f fs c l))) in
    let rest = count_alike (λ c. eqb (face_at (f ∷ fs) (length f + c)) (suc i)) (λ c. eqb (face_at fs c) i) (length (corners fs)) (λ c l. ap (λ d. eqb d (suc i)) (face_later f fs c) ∙ step (face_at fs c)) in
    omega (arith, count_corners fs i (omega arith))
  where
    step : (d : ℕ) → eqb (1 + d) (suc i) ≡ eqb d i
    step d = grind (arith, nat_tests)
