-- How edges follow from the sides of faces, and which edge a side names. Assumes nothing.
use Rattle.std.proofs.Common.{◌≡◌, ℕ, ◌<◌, ◌≤◌, Bool, true, false, cond, eqb, List, [], ◌∷◌, ◌++◌, map, length, get_or, is_some, Some, None, fold, count_by, Option, unwrap_or, sym, refl, ap, ◌∙◌, subst, ⊎_elim, arith}
use mathlib.Core.Path.{fun_ext}
use Rattle.std.proofs.ByRecursion.{All-push, All-from_get_or, All-get_or, All-weaker}
use Rattle.std.proofs.lemmas.List.{append-nil, append_assoc, length-append, length_push, get_or_push, get_or_append_left}
use Rattle.std.proofs.lemmas.List.Sums.{sum_by-cons, get_or-le-sum_by}
use Rattle.std.proofs.lemmas.Bool.{cases_lt, cases_Bool, true≢false, false≢true, both_ways, eq-eqb, ne_eqb, cond_both, cond-true}
use Rattle.std.proofs.lemmas.Bool.Decides.{nat_tests}
use Rattle.std.specs.List.{AllByRecursion}
use Rattle.mesh.specs.declared.Side.{Side}
use Rattle.mesh.specs.Lowest.{lowest}
use Rattle.mesh.specs.Shape.{nowhere, joins, edge_of, with_side, firsts}
use Rattle.mesh.proofs.Lists.{folded_append, folded_keeps}
use Rattle.mesh.proofs.Lowests.{Found, lowest_some, lowest_missing, lowest_found}

pub joins_self : (s : Side) → joins s s ≡ true
joins_self s = grind (arith, nat_tests)

pub joins_turned : (s t : Side) → joins s t ≡ joins t s
joins_turned s t = grind (arith, nat_tests)

-- sides that join the same ends join the same sides
pub joins_alike : (s t : Side) → joins s t ≡ true → (u : Side) → joins s u ≡ joins t u
joins_alike s t p u = grind (arith, nat_tests)

-- the number of the edge, among these, that a side names
abbrev pub number : List Side → Side → ℕ
number es s = unwrap_or (edge_of es s) 0

module _ (es : List Side) (s : Side) where
  -- entry i of es is the first that joins the ends of s
  abbrev pub First : ℕ → Type 0
  First = Found (λ i. joins (get_or es i nowhere) s) (length es)

  pub edge_of_found : (i : ℕ) → edge_of es s ≡ Some i → First i
  edge_of_found i = lowest_found (λ i. joins (get_or es i nowhere) s) (length es) i

  pub edge_of_first : (i : ℕ) → First i → edge_of es s ≡ Some i
  edge_of_first i f = lowest_some (λ i. joins (get_or es i nowhere) s) (length es) i f.0 f.1 f.2

  pub known_number : is_some (edge_of es s) ≡ true → edge_of es s ≡ Some (number es s)
  known_number = go (edge_of es s)
    where
      go : (o : Option ℕ) → is_some o ≡ true → o ≡ Some (unwrap_or o 0)
      go None h = absurd (false≢true h)
      go (Some i) h = refl

  pub number_first : is_some (edge_of es s) ≡ true → First (number es s)
  number_first known = edge_of_found (number es s) (known_number known)

  pub unknown_at : is_some (edge_of es s) ≡ false → (i : ℕ) → i < length es → joins (get_or es i nowhere) s ≡ false
  unknown_at = go (edge_of es s) refl
    where
      go : (o : Option ℕ) → edge_of es s ≡ o → is_some o ≡ false → (i : ℕ) → i < length es → joins (get_or es i nowhere) s ≡ false
      go None e h = lowest_missing (λ i. joins (get_or es i nowhere) s) (length es) e
      go (Some i) e h = absurd (true≢false h)

  pub known_from : (i : ℕ) → i < length es → joins (get_or es i nowhere) s ≡ true → is_some (edge_of es s) ≡ true
  known_from i l j = ⊎_elim (λ k. k) (λ u. absurd (both_ways _ (unknown_at u i l) j)) (cases_Bool (is_some (edge_of es s)))

-- sides that join the same ends have the same number
pub edge_of_alike : (es : List Side) (s t : Side) → joins s t ≡ true → edge_of es s ≡ edge_of es t
edge_of_alike es s t p = ap (λ (test : ℕ → Bool). lowest test (length es)) (fun_ext (λ i. joins_turned (get_or es i nowhere) s ∙ (joins_alike s t p (get_or es i nowhere) ∙ joins_turned t (get_or es i nowhere))))

-- more edges after those that there are leave a side its number
pub edge_of_append : (es fs : List Side) (s : Side) (i : ℕ) → edge_of es s ≡ Some i → edge_of (es ++ fs) s ≡ Some i
edge_of_append es fs s i e =
    let f = edge_of_found es s i e in
    let same : (j : ℕ) → j ≤ i → joins (get_or (es ++ fs) j nowhere) s ≡ joins (get_or es j nowhere) s = λ j m. ap (λ t. joins t s) (get_or_append_left es fs nowhere j (omega (arith, f.0))) in
    edge_of_first (es ++ fs) s i (omega (arith, f.0, length-append es fs), same i (omega arith) ∙ f.1, λ j m. same j (omega arith) ∙ f.2 j m)

-- no two of these join the same ends
abbrev pub Apart : List Side → Type 0
Apart es = (i j : ℕ) → i < j → j < length es → joins (get_or es i nowhere) (get_or es j nowhere) ≡ false

pub edge_of_itself : (es : List Side) → Apart es → (i : ℕ) → i < length es → edge_of es (get_or es i nowhere) ≡ Some i
edge_of_itself es apart i l = edge_of_first es (get_or es i nowhere) i (l, joins_self (get_or es i nowhere), λ j m. apart j i m l)

apart_push : (es : List Side) (s : Side) → Apart es → is_some (edge_of es s) ≡ false → Apart (es ++ s ∷ [])
apart_push es s apart new i j l m =
    ⊎_elim
    (λ (low : j < length es). rw (get_or_append_left es (s ∷ []) nowhere i (omega arith), get_or_append_left es (s ∷ []) nowhere j low) (apart i j l low))
    (λ (high : length es ≤ j).
    let last : length es ≡ j = omega (arith, length_push es s) in
    rw (get_or_append_left es (s ∷ []) nowhere i (omega arith), get_or_push es s nowhere j last) (unknown_at es s new i (omega arith)))
    (cases_lt j (length es))

pub apart_with : (es : List Side) (s : Side) → Apart es → Apart (with_side es s)
apart_with es s apart = cond_both (is_some (edge_of es s)) es (es ++ s ∷ []) Apart (λ _. apart) (apart_push es s apart)

pub known_with : (es : List Side) (s : Side) → is_some (edge_of (with_side es s) s) ≡ true
known_with es s = cond_both (is_some (edge_of es s)) es (es ++ s ∷ []) (λ fs. is_some (edge_of fs s) ≡ true) (λ known. known) (λ _. known_from (es ++ s ∷ []) s (length es) (omega (arith, length_push es s)) (ap (λ t. joins t s) (get_or_push es s nowhere (length es) refl) ∙ joins_self s))

-- fs begins with es
abbrev pub Begins : List Side → List Side → Type 0
Begins es fs = (more : List Side) × (fs ≡ es ++ more)

begins_with : (es fs : List Side) (s : Side) → Begins es fs → Begins es (with_side fs s)
begins_with es fs s b = cond_both (is_some (edge_of fs s)) fs (fs ++ s ∷ []) (Begins es) (λ _. b) (λ _. (b.0 ++ s ∷ [], ap (λ l. l ++ s ∷ []) b.1 ∙ append_assoc es b.0 (s ∷ [])))

all_with : (P : Side → Type 0) (es : List Side) (s : Side) → P s → AllByRecursion P es → AllByRecursion P (with_side es s)
all_with P es s here all = cond_both (is_some (edge_of es s)) es (es ++ s ∷ []) (AllByRecursion P) (λ _. all) (λ _. All-push P es s all here)

folded_begins : (es ss : List Side) → Begins es (fold with_side es ss)
folded_begins es ss = folded_keeps with_side (Begins es) (begins_with es) es ss ([], sym (append-nil es))

pub firsts_apart : (ss : List Side) → Apart (firsts ss)
unfolding firsts
firsts_apart ss = folded_keeps with_side Apart apart_with [] ss (λ i j l m. absurd (omega arith))

-- an edge has its own number
pub firsts_itself : (ss : List Side) (i : ℕ) → i < length (firsts ss) → edge_of (firsts ss) (get_or (firsts ss) i nowhere) ≡ Some i
firsts_itself ss = edge_of_itself (firsts ss) (firsts_apart ss)

-- edges keep their numbers when more sides come
pub firsts_begins : (ss ts : List Side) → Begins (firsts ss) (firsts (ss ++ ts))
unfolding firsts
firsts_begins ss ts = rw (folded_append with_side [] ss ts) (folded_begins (firsts ss) ts)

pub firsts_longer : (ss ts : List Side) → length (firsts ss) ≤ length (firsts (ss ++ ts))
firsts_longer ss ts = let b = firsts_begins ss ts in omega (arith, ap length b.1, length-append (firsts ss) b.0)

pub known_begins : (es fs : List Side) (s : Side) → Begins es fs → is_some (edge_of es s) ≡ true → is_some (edge_of fs s) ≡ true
known_begins es fs s b known =
    let stays = edge_of_append es b.0 s (number es s) (known_number es s known) in
    rw b.1 (ap is_some stays)

known_folded : (es ss : List Side) → AllByRecursion (λ s. is_some (edge_of (fold with_side es ss) s) ≡ true) ss
known_folded es [] = tt
known_folded es (s ∷ ss) = (known_begins (with_side es s) (fold with_side (with_side es s) ss) s (folded_begins (with_side es s) ss) (known_with es s), known_folded (with_side es s) ss)

-- each side has its edge
pub firsts_known : (ss : List Side) → AllByRecursion (λ s. is_some (edge_of (firsts ss) s) ≡ true) ss
unfolding firsts
firsts_known ss = known_folded [] ss

all_folded : (P : Side → Type 0) (es ss : List Side) → AllByRecursion P es → AllByRecursion P ss → AllByRecursion P (fold with_side es ss)
all_folded P es [] before all = before
all_folded P es (s ∷ ss) before all = all_folded P (with_side es s) ss (all_with P es s all.0 before) all.1

-- each edge is one of the sides
pub firsts_all : (P : Side → Type 0) (ss : List Side) → AllByRecursion P ss → AllByRecursion P (firsts ss)
unfolding firsts
firsts_all P ss all = all_folded P [] ss tt all

pub count_alike : (s t : Side) → joins s t ≡ true → (ss : List Side) → count_by (joins s) ss ≡ count_by (joins t) ss
count_alike s t p ss = ap (λ (test : Side → Bool). count_by test ss) (fun_ext (joins_alike s t p))

-- a side among those that are counted counts
pub count_own : (ss : List Side) (i : ℕ) → i < length ss → 1 ≤ count_by (joins (get_or ss i nowhere)) ss
count_own ss i l =
    let s = get_or ss i nowhere in
    omega (arith, get_or-le-sum_by (λ t. cond (joins s t) 1 0) ss i nowhere l, cond-true {A = ℕ} (joins s s) 1 0 (joins_self s))

-- each edge lies in a face
pub firsts_used : (ss : List Side) (i : ℕ) → i < length (firsts ss) → 1 ≤ count_by (joins (get_or (firsts ss) i nowhere)) ss
firsts_used ss i l = All-get_or (λ e. 1 ≤ count_by (joins e) ss) (firsts ss) i nowhere l (firsts_all (λ e. 1 ≤ count_by (joins e) ss) ss (All-from_get_or (λ e. 1 ≤ count_by (joins e) ss) ss nowhere (count_own ss)))

-- what holds of the count of each edge holds of the count of each side
pub count_from_firsts : (P : ℕ → Type 0) (ss : List Side) → ((i : ℕ) → i < length (firsts ss) → P (count_by (joins (get_or (firsts ss) i nowhere)) ss)) → AllByRecursion (λ s. P (count_by (joins s) ss)) ss
count_from_firsts P ss h = All-weaker (λ s. is_some (edge_of (firsts ss) s) ≡ true) (λ s. P (count_by (joins s) ss)) at ss (firsts_known ss)
  where
    at : (s : Side) → is_some (edge_of (firsts ss) s) ≡ true → P (count_by (joins s) ss)
    at s known =
        let first = number_first (firsts ss) s known in
        subst P (count_alike (get_or (firsts ss) (number (firsts ss) s) nowhere) s first.1 ss) (h (number (firsts ss) s) first.0)

module _ (es : List Side) (apart : Apart es) where
  -- edge k joins the ends of just those sides that have the number k
  joins_number : (k : ℕ) → k < length es → (c : Side) → is_some (edge_of es c) ≡ true → joins (get_or es k nowhere) c ≡ eqb (number es c) k
  joins_number k l c known =
      ⊎_elim
      (λ yes'.
      let is : edge_of es c ≡ Some k = sym (edge_of_alike es (get_or es k nowhere) c yes') ∙ edge_of_itself es apart k l in
      yes' ∙ sym (rw is (eq-eqb k k refl)))
      (λ no'. no' ∙ sym (ne_eqb (number es c) k (λ e. both_ways (joins (get_or es k nowhere) c) no' (subst (λ m. joins (get_or es m nowhere) c ≡ true) e (number_first es c known).1))))
      (cases_Bool (joins (get_or es k nowhere) c))

  pub count_number : (k : ℕ) → k < length es → (cs : List Side) → AllByRecursion (λ c. is_some (edge_of es c) ≡ true) cs → count_by (joins (get_or es k nowhere)) cs ≡ count_by (λ n. eqb n k) (map (number es) cs)
  count_number k l [] known = refl
  count_number k l (c ∷ cs) known =
      let here = joins_number k l c known.0 in
      let later = count_number k l cs known.1 in
      let left = sum_by-cons (λ c'. cond (joins (get_or es k nowhere) c') 1 0) c cs in
      let right = sum_by-cons (λ n. cond (eqb n k) 1 0) (number es c) (map (number es) cs) in
      left ∙ (rw (here, later) refl ∙ sym right)
