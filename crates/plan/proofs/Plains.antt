-- Refinement keeps a level plain. Assumes nothing.
use Rattle.std.proofs.Common.{◌≡◌, ℕ, zero, suc, ◌+◌, ◌-◌, ◌*◌, ◌/◌, ◌%◌, ◌<◌, ◌≤◌, Bool, true, ltb, ◌≢◌, List, [], ◌∷◌, length, filter, sym, refl, ap, ◌∙◌, ⊎_elim, arith}
use Rattle.std.specs.List.{range_with_len}
use Rattle.std.proofs.lemmas.List.{append-nil}
use Rattle.std.proofs.lemmas.List.Sums.{length-filter}
use Rattle.std.proofs.lemmas.Bool.{cases_lt, cond-true, cond-false, lt-ltb, le-ltb}
use Rattle.std.proofs.lemmas.Bool.Decides.{nat_tests}
use Rattle.plan.specs.Sorting.{sorted}
use Rattle.plan.proofs.Sorts.{sorted_cons}
use Rattle.levels.specs.Level.{Level}
use Rattle.levels.specs.Finer.{finer, half_at, level}
use Rattle.levels.specs.Sound.{Sound, count}
use Rattle.levels.proofs.Counting.{count_more, count_none, count_plus}
use Rattle.levels.proofs.FinerSound.{level_sound}
use Rattle.levels.proofs.Places.{vertex_0, vertex_1, vertex_2, vertex_3, side_0, side_1, side_2, side_3}
use Rattle.levels.proofs.Uses.{half_below}
use Rattle.plan.specs.Plain.{Plain, first_corner}

-- sorting up to a key keeps those below it
pub length_sorted_below : (key : ℕ → ℕ) (n : ℕ) (xs : List ℕ) → length (sorted key n xs) ≡ length (filter (λ x. ltb (key x) n) xs)
unfolding sorted
length_sorted_below key zero [] = refl
length_sorted_below key (suc n) [] = ap length (append-nil (sorted key n [])) ∙ length_sorted_below key n []
length_sorted_below key n (x ∷ xs) =
    let ih = length_sorted_below key n xs in
    let c = sorted_cons key x xs n in
    ⊎_elim
    (λ (l : key x < n). let w = ap length (cond-true {A = List ℕ} (ltb (key x) n) (x ∷ filter (λ y. ltb (key y) n) xs) (filter (λ y. ltb (key y) n) xs) (lt-ltb (key x) n l)) in grind (arith, nat_tests, c, ih, w))
    (λ (l : n ≤ key x). let w = ap length (cond-false {A = List ℕ} (ltb (key x) n) (x ∷ filter (λ y. ltb (key y) n) xs) (filter (λ y. ltb (key y) n) xs) (le-ltb (key x) n l)) in grind (arith, nat_tests, c, ih, w))
    (cases_lt (key x) n)

pub count_all : (p : ℕ → Bool) (n : ℕ) → ((i : ℕ) → i < n → p i ≡ true) → count p n ≡ n
count_all p zero h = refl
count_all p (suc n) h =
    let ih = count_all p n (λ i l. h i (omega arith)) in
    count_more p n ∙ omega (arith, ih, cond-true {A = ℕ} (p n) 1 0 (h n (omega arith)))

-- the corners of faces before face f are those below s
pub cut_at : (m : Level) (f s : ℕ) → s ≤ m.corners → ((c : ℕ) → c < s → m.face c < f) → ((c : ℕ) → s ≤ c → c < m.corners → f ≤ m.face c) → first_corner m f ≡ s
cut_at m f s l below above =
    let p : ℕ → Bool = λ c. ltb (m.face c) f in
    length_sorted_below m.face f (range_with_len 0 m.corners) ∙ length-filter p (range_with_len 0 m.corners)
    ∙ count_plus p s (m.corners - s) m.corners (omega arith)
    ∙ omega (arith, count_all p s (λ c h. lt-ltb (m.face c) f (below c h)), count_none (λ i. p (s + i)) (m.corners - s) (λ i h. le-ltb (m.face (s + i)) f (above (s + i) (omega arith) (omega arith))))

-- of four numbers apart, each stands at one of four places
abbrev fourth_of : ℕ → ℕ → ℕ → ℕ → ℕ → ℕ
fourth_of a0 a1 a2 a3 zero = a0
fourth_of a0 a1 a2 a3 (suc zero) = a1
fourth_of a0 a1 a2 a3 (suc (suc zero)) = a2
fourth_of a0 a1 a2 a3 (suc (suc (suc k))) = a3

module _ (a0 a1 a2 a3 : ℕ) (n01 : a0 ≢ a1) (n02 : a0 ≢ a2) (n03 : a0 ≢ a3) (n12 : a1 ≢ a2) (n13 : a1 ≢ a3) (n23 : a2 ≢ a3) where
  fourth_once : (k l : ℕ) → k < 4 → l < 4 → fourth_of a0 a1 a2 a3 k ≡ fourth_of a0 a1 a2 a3 l → k ≡ l
  fourth_once zero zero h k e = refl
  fourth_once zero (suc zero) h k e = absurd (n01 e)
  fourth_once zero (suc (suc zero)) h k e = absurd (n02 e)
  fourth_once zero (suc (suc (suc l))) h k e = absurd (n03 e)
  fourth_once (suc zero) zero h k e = absurd (n01 (sym e))
  fourth_once (suc zero) (suc zero) h k e = refl
  fourth_once (suc zero) (suc (suc zero)) h k e = absurd (n12 e)
  fourth_once (suc zero) (suc (suc (suc l))) h k e = absurd (n13 e)
  fourth_once (suc (suc zero)) zero h k e = absurd (n02 (sym e))
  fourth_once (suc (suc zero)) (suc zero) h k e = absurd (n12 (sym e))
  fourth_once (suc (suc zero)) (suc (suc zero)) h k e = refl
  fourth_once (suc (suc zero)) (suc (suc (suc l))) h k e = absurd (n23 e)
  fourth_once (suc (suc (suc i))) zero h k e = absurd (n03 (sym e))
  fourth_once (suc (suc (suc i))) (suc zero) h k e = absurd (n13 (sym e))
  fourth_once (suc (suc (suc i))) (suc (suc zero)) h k e = absurd (n23 (sym e))
  fourth_once (suc (suc (suc i))) (suc (suc (suc l))) h k e = omega arith

  module _ (g : ℕ → ℕ) (x : ℕ) (e0 : g (4 * x) ≡ a0) (e1 : g (4 * x + 1) ≡ a1) (e2 : g (4 * x + 2) ≡ a2) (e3 : g (4 * x + 3) ≡ a3) where
    fourth_at : (k : ℕ) → k < 4 → g (4 * x + k) ≡ fourth_of a0 a1 a2 a3 k
    fourth_at zero l = ap g (omega arith) ∙ e0
    fourth_at (suc zero) l = e1
    fourth_at (suc (suc zero)) l = e2
    fourth_at (suc (suc (suc zero))) l = e3
    fourth_at (suc (suc (suc (suc k)))) l = absurd (omega arith)

    apart_four : (i j : ℕ) → i < 4 → j < 4 → g (4 * x + i) ≡ g (4 * x + j) → i ≡ j
    apart_four i j li lj same = fourth_once i j li lj (sym (fourth_at i li) ∙ same ∙ fourth_at j lj)

module _ (m : Level) (sound : Sound m) (plain : Plain m) where
  back_other : (c : ℕ) → c < m.corners → m.back c ≢ c
  back_other c l e =
      let s = m.side c in
      let b = sound.backs c l in
      let next : m.forth c ≡ c = sym (ap m.forth e) ∙ b.1 in
      ⊎_elim
      (λ (r : (m.tail s ≡ m.vertex c) × (m.head s ≡ m.vertex (m.forth c))). sound.apart s (sound.sided c l) (r.0 ∙ sym (r.1 ∙ ap m.vertex next)))
      (λ (r : (m.tail s ≡ m.vertex (m.forth c)) × (m.head s ≡ m.vertex c)). sound.apart s (sound.sided c l) (r.0 ∙ ap m.vertex next ∙ sym r.1))
      (sound.joined c l)

  side_other : (c : ℕ) → c < m.corners → m.side c ≢ m.side (m.back c)
  side_other c l e = back_other c l (sym (plain.sides_once c (m.back c) l (sound.backs c l).0 (sym (sound.backs c l).2) e))

  half_value : (e v : ℕ) → half_at m e v / 2 ≡ e
  half_value e v = grind (arith, nat_tests)

  module _ (x : ℕ) (l : x < m.corners) where
    quad_vertices : (i j : ℕ) → i < 4 → j < 4 → (finer m).vertex (4 * x + i) ≡ (finer m).vertex (4 * x + j) → i ≡ j
    quad_vertices =
        let p = sound.placed x l in
        let s = sound.sided x l in
        let r = sound.sided (m.back x) (sound.backs x l).0 in
        let o = side_other x l in
        apart_four (m.vertex x) (m.vertices + m.side x) (m.vertices + m.edges + m.face x) (m.vertices + m.side (m.back x)) (λ e. omega arith) (λ e. omega arith) (λ e. omega arith) (λ e. omega arith) (λ e. o (omega arith)) (λ e. omega arith)
        (finer m).vertex x (vertex_0 m x) (vertex_1 m x) (vertex_2 m x) (vertex_3 m x)

    quad_sides : (i j : ℕ) → i < 4 → j < 4 → (finer m).side (4 * x + i) ≡ (finer m).side (4 * x + j) → i ≡ j
    quad_sides =
        let s = half_below m (m.side x) (m.vertex x) (sound.sided x l) in
        let r = half_below m (m.side (m.back x)) (m.vertex x) (sound.sided (m.back x) (sound.backs x l).0) in
        let o = side_other x l in
        let b = back_other x l in
        apart_four (half_at m (m.side x) (m.vertex x)) (2 * m.edges + x) (2 * m.edges + m.back x) (half_at m (m.side (m.back x)) (m.vertex x)) (λ e. omega arith) (λ e. omega arith)
        (λ e. o (sym (half_value (m.side x) (m.vertex x)) ∙ ap (λ h. h / 2) e ∙ half_value (m.side (m.back x)) (m.vertex x))) (λ e. b (omega arith)) (λ e. omega arith) (λ e. omega arith)
        (finer m).side x (side_0 m x) (side_1 m x) (side_2 m x) (side_3 m x)

  -- by the face that two corners share
  by_face : (g : ℕ → ℕ) → ((x : ℕ) → x < m.corners → (i j : ℕ) → i < 4 → j < 4 → g (4 * x + i) ≡ g (4 * x + j) → i ≡ j)
      → (c d : ℕ) → c < 4 * m.corners → d < 4 * m.corners → c / 4 ≡ d / 4 → g c ≡ g d → c ≡ d
  by_face g quad c d lc ld f e =
      let x = c / 4 in
      let sc : c ≡ 4 * x + c % 4 = omega arith in
      let sd : d ≡ 4 * x + d % 4 = omega arith in
      let same = quad x (omega arith) (c % 4) (d % 4) (omega arith) (omega arith) (sym (ap g sc) ∙ e ∙ ap g sd) in
      omega arith

  fine_first : (f : ℕ) → f ≤ m.corners → first_corner (finer m) f ≡ 4 * f
  fine_first f l = cut_at (finer m) f (4 * f) (omega arith) (λ c h. omega arith) (λ c h k. omega arith)

  pub finer_plain : Plain (finer m)
  finer_plain = record {
    ordered = λ c l. omega arith;
    vertices_once = λ c d lc ld f e. by_face (finer m).vertex quad_vertices c d lc ld f e;
    sides_once = λ c d lc ld f e. by_face (finer m).side quad_sides c d lc ld f e;
    backs = λ c l. let a = fine_first (c / 4) (omega arith) in let b = fine_first (c / 4 + 1) (omega arith) in grind (arith, nat_tests, a, b);
  }

pub level_plain : (m : Level) → Sound m → Plain m → (j : ℕ) → Plain (level m j)
unfolding level
level_plain m sound plain zero = plain
level_plain m sound plain (suc j) = finer_plain (level m j) (level_sound m sound j) (level_plain m sound plain j)
