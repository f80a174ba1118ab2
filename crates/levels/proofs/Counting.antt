-- How many numbers below a bound pass a test. Assumes nothing.
use Rattle.std.proofs.Common.{◌≡◌, ℕ, zero, suc, ◌+◌, ◌*◌, ◌<◌, ◌≤◌, Bool, true, false, cond, not, ◌&&◌, ◌||◌, eqb, ltb, List, [], ◌∷◌, ◌++◌, length, get_or, count_by, sym, refl, ap, ◌∙◌, subst, ap₂, ⊎_elim, mul-zero, mul-suc, arith}
use Rattle.std.proofs.lemmas.List.Sums.{sum_by-cons, sum_by_push, count_by-le-length}
use Rattle.std.proofs.lemmas.List.FromFn.{length-range_with_len}
use Rattle.std.proofs.lemmas.Bool.{cases_lt, cases_Bool, and_parts, and_from, lt-ltb, eq-eqb, eqb-true, or_left, and_right, le-ltb, both_ways, true≢false, false≢true}
use Rattle.std.proofs.lemmas.Bool.Decides.{nat_tests}
use Rattle.std.specs.List.{range_with_len}
use Rattle.levels.specs.Sound.{count}

-- what a number adds to a count
abbrev pub weight : Bool → ℕ
weight b = cond b 1 0

pub fails : (b : Bool) → (b ≡ true → ⊥) → b ≡ false
fails true h = absurd (h refl)
fails false h = refl

pub counting_more : (a n b : ℕ) → a + n ≡ b → range_with_len a (suc n) ≡ range_with_len a n ++ b ∷ []
counting_more a zero b e = ap (λ k. k ∷ []) (omega arith)
counting_more a (suc n) b e = ap (λ l. a ∷ l) (counting_more (a + 1) n b (omega arith))

-- one number more
pub count_more : (p : ℕ → Bool) (n : ℕ) → count p (suc n) ≡ count p n + weight (p n)
count_more p n = ap (count_by p) (counting_more 0 n n (omega arith)) ∙ sum_by_push (λ i. weight (p i)) (range_with_len 0 n) n

pub count_le : (p : ℕ → Bool) (n : ℕ) → count p n ≤ n
count_le p n = omega (arith, count_by-le-length p (range_with_len 0 n), length-range_with_len 0 n)

pub count_alike : (p q : ℕ → Bool) (n : ℕ) → ((i : ℕ) → i < n → p i ≡ q i) → count p n ≡ count q n
count_alike p q zero h = refl
count_alike p q (suc n) h = count_more p n ∙ (ap₂ (λ a b. a + weight b) (count_alike p q n (λ i l. h i (omega arith))) (h n (omega arith)) ∙ sym (count_more q n))

-- what each number adds to a count, it adds to one of two others
pub count_split : (p q r : ℕ → Bool) (n : ℕ) → ((i : ℕ) → i < n → weight (p i) ≡ weight (q i) + weight (r i)) → count p n ≡ count q n + count r n
count_split p q r zero h = refl
count_split p q r (suc n) h =
    let before = count_split p q r n (λ i l. h i (omega arith)) in
    omega (arith, count_more p n, count_more q n, count_more r n, h n (omega arith))

pub count_none : (p : ℕ → Bool) (n : ℕ) → ((i : ℕ) → i < n → p i ≡ false) → count p n ≡ 0
count_none p zero h = refl
count_none p (suc n) h = let before = count_none p n (λ i l. h i (omega arith)) in omega (arith, count_more p n, ap weight (h n (omega arith)))

pub count_all : (p : ℕ → Bool) (n : ℕ) → ((i : ℕ) → i < n → p i ≡ true) → count p n ≡ n
count_all p zero h = refl
count_all p (suc n) h = let before = count_all p n (λ i l. h i (omega arith)) in omega (arith, count_more p n, ap weight (h n (omega arith)))

pub weight_or : (x y : Bool) → (x ≡ true → y ≡ false) → weight (x || y) ≡ weight x + weight y
weight_or true true h = absurd (true≢false (h refl))
weight_or true false h = refl
weight_or false true h = refl
weight_or false false h = refl

weight_rest : (x y : Bool) → (x ≡ true → y ≡ true) → weight y ≡ weight x + weight (y && not x)
weight_rest true true h = refl
weight_rest true false h = absurd (false≢true (h refl))
weight_rest false true h = refl
weight_rest false false h = refl

-- numbers that pass one of two tests, and none both
pub count_or : (p q : ℕ → Bool) (n : ℕ) → ((i : ℕ) → i < n → p i ≡ true → q i ≡ false) → count (λ i. p i || q i) n ≡ count p n + count q n
count_or p q n h = count_split (λ i. p i || q i) p q n (λ i l. weight_or (p i) (q i) (h i l))

pub count_rest : (p q : ℕ → Bool) (n : ℕ) → ((i : ℕ) → i < n → p i ≡ true → q i ≡ true) → count q n ≡ count p n + count (λ i. q i && not (p i)) n
count_rest p q n h = count_split q p (λ i. q i && not (p i)) n (λ i l. weight_rest (p i) (q i) (h i l))

pub count_weaker : (p q : ℕ → Bool) (n : ℕ) → ((i : ℕ) → i < n → p i ≡ true → q i ≡ true) → count p n ≤ count q n
count_weaker p q n h = omega (arith, count_rest p q n h)

pub count_either : (p q : ℕ → Bool) (n : ℕ) → count (λ i. p i || q i) n ≤ count p n + count q n
count_either p q n =
    let rest = count_rest p (λ i. p i || q i) n (λ i l. or_left (p i) (q i)) in
    let few = count_weaker (λ i. (p i || q i) && not (p i)) q n (λ i l. other (p i) (q i)) in
    omega arith
  where
    other : (x y : Bool) → ((x || y) && not x) ≡ true → y ≡ true
    other true y h = absurd (false≢true h)
    other false true h = refl
    other false false h = h

pub count_only : (k n : ℕ) → count (λ i. eqb i k) n ≡ weight (ltb k n)
count_only k zero = grind (arith, nat_tests)
count_only k (suc n) =
    let step : weight (ltb k (suc n)) ≡ weight (ltb k n) + weight (eqb n k) = grind (arith, nat_tests) in
    omega (arith, count_more (λ i. eqb i k) n, count_only k n)

pub count_yes : (p : ℕ → Bool) (n i : ℕ) → i < n → p i ≡ true → 1 ≤ count p n
count_yes p n i l t =
    let one = count_only i n in
    let more = count_weaker (λ j. eqb j i) p n (λ j m e. subst (λ k. p k ≡ true) (sym (eqb-true j i e)) t) in
    omega (arith, ap weight (lt-ltb i n l))

pub count_found : (p : ℕ → Bool) (n : ℕ) → 1 ≤ count p n → (i : ℕ) × (i < n) × (p i ≡ true)
count_found p zero h = absurd (omega arith)
count_found p (suc n) h =
    ⊎_elim
    (λ yes'. (n, omega arith, yes'))
    (λ no'. let before = count_found p n (omega (arith, count_more p n, ap weight no')) in (before.0, omega (arith, before.1), before.2))
    (cases_Bool (p n))

-- where all that pass are the same number
pub count_most_one : (p : ℕ → Bool) (n : ℕ) → ((i j : ℕ) → i < n → j < n → p i ≡ true → p j ≡ true → i ≡ j) → count p n ≤ 1
count_most_one p n h =
    ⊎_elim
    (λ (none : count p n < 1). omega arith)
    (λ (some : 1 ≤ count p n).
    let it = count_found p n some in
    let few = count_weaker p (λ j. eqb j it.0) n (λ j l t. eq-eqb j it.0 (h j it.0 l it.1 t it.2)) in
    omega (arith, count_only it.0 n, ap weight (lt-ltb it.0 n it.1)))
    (cases_lt (count p n) 1)

-- g goes from numbers that pass q to numbers that pass p
module _ (g : ℕ → ℕ) (p q : ℕ → Bool) (k : ℕ) where
  -- those that pass q and that g takes below n
  abbrev below : ℕ → ℕ → Bool
  below n c = q c && ltb (g c) n

  below_more : (n : ℕ) → count (below (suc n)) k ≡ count (below n) k + count (λ c. q c && eqb (g c) n) k
  below_more n = count_split (below (suc n)) (below n) (λ c. q c && eqb (g c) n) k (λ c l. grind (arith, nat_tests))

  below_le : (n : ℕ) → count (below n) k ≤ count q k
  below_le n = count_weaker (below n) q k (λ c l t. (and_parts (q c) (ltb (g c) n) t).0)

  -- where g reaches each that passes p, no more pass p than q
  pub count_onto : (n : ℕ) → ((i : ℕ) → i < n → p i ≡ true → (c : ℕ) × (c < k) × (q c ≡ true) × (g c ≡ i)) → count p n ≤ count q k
  count_onto n h = omega (arith, go n h, below_le n)
    where
      go : (n : ℕ) → ((i : ℕ) → i < n → p i ≡ true → (c : ℕ) × (c < k) × (q c ≡ true) × (g c ≡ i)) → count p n ≤ count (below n) k
      go zero h = omega arith
      go (suc n) h =
          let before = go n (λ i l. h i (omega arith)) in
          ⊎_elim
          (λ yes'.
          let it = h n (omega arith) yes' in
          let one = count_yes (λ c. q c && eqb (g c) n) k it.0 it.1 (and_from (q it.0) (eqb (g it.0) n) it.2 (eq-eqb (g it.0) n it.3)) in
          omega (arith, count_more p n, ap weight yes', below_more n))
          (λ no'. omega (arith, count_more p n, ap weight no', below_more n))
          (cases_Bool (p n))

  -- where g takes all that pass q to some that pass p, and at most m to each, at most m times as many pass q
  pub count_fibres : (n m : ℕ) → ((c : ℕ) → c < k → q c ≡ true → (g c < n) × (p (g c) ≡ true)) → ((i : ℕ) → i < n → p i ≡ true → count (λ c. q c && eqb (g c) i) k ≤ m) → count q k ≤ m * count p n
  count_fibres n m into few =
      let all = count_weaker q (below n) k (λ c l t. and_from (q c) (ltb (g c) n) t (lt-ltb (g c) n (into c l t).0)) in
      omega (arith, go n few)
    where
      missed : (c : ℕ) → c < k → {n : ℕ} → p n ≡ false → (q c ≡ true) × (eqb (g c) n ≡ true) → ⊥
      missed c l {n} no' t = both_ways (p n) no' (subst (λ i. p i ≡ true) (eqb-true (g c) n t.1) (into c l t.0).1)

      go : (n : ℕ) → ((i : ℕ) → i < n → p i ≡ true → count (λ c. q c && eqb (g c) i) k ≤ m) → count (below n) k ≤ m * count p n
      go zero few = omega (arith, count_none (below 0) k (λ c l. and_right (q c) (ltb (g c) 0) (le-ltb (g c) 0 (omega arith))), mul-zero m)
      go (suc n) few =
          let before = go n (λ i l. few i (omega arith)) in
          ⊎_elim
          (λ yes'.
          let here = few n (omega arith) yes' in
          let one : count p (suc n) ≡ suc (count p n) = omega (arith, count_more p n, ap weight yes') in
          omega (arith, ap (λ a. m * a) one, mul-suc m (count p n), below_more n))
          (λ no'.
          let none = count_none (λ c. q c && eqb (g c) n) k (λ c l. fails (q c && eqb (g c) n) (λ t. missed c l no' (and_parts (q c) (eqb (g c) n) t))) in
          let same : count p (suc n) ≡ count p n = omega (arith, count_more p n, ap weight no') in
          omega (arith, ap (λ a. m * a) same, below_more n))
          (cases_Bool (p n))

-- two tests that pass the same numbers, but for a renaming f with the inverse g, have the same count
pub count_renamed : (f g : ℕ → ℕ) (p q : ℕ → Bool) (n k : ℕ) → ((i : ℕ) → i < n → p i ≡ true → (f i < k) × (q (f i) ≡ true) × (g (f i) ≡ i)) → ((c : ℕ) → c < k → q c ≡ true → (g c < n) × (p (g c) ≡ true) × (f (g c) ≡ c)) → count p n ≡ count q k
count_renamed f g p q n k there back =
    let most = count_onto g p q k n (λ i l t. let it = there i l t in (f i, it.0, it.1, it.2)) in
    let least = count_onto f q p n k (λ c l t. let it = back c l t in (g c, it.0, it.1, it.2)) in
    omega arith

-- f renames the numbers below k, and g undoes it
pub count_permuted : (f g : ℕ → ℕ) (p : ℕ → Bool) (k : ℕ) → ((c : ℕ) → c < k → (f c < k) × (g (f c) ≡ c)) → ((c : ℕ) → c < k → (g c < k) × (f (g c) ≡ c)) → count (λ c. p (f c)) k ≡ count p k
count_permuted f g p k there back = count_renamed f g (λ c. p (f c)) p k k (λ c l t. ((there c l).0, t, (there c l).1)) (λ c l t. ((back c l).0, rw (back c l).1 t, (back c l).1))

-- the first a numbers, and b more
pub count_plus : (p : ℕ → Bool) (a b c : ℕ) → a + b ≡ c → count p c ≡ count p a + count (λ i. p (a + i)) b
count_plus p a zero c e = let same : a ≡ c = omega arith in rw (sym same) (omega arith)
count_plus p a (suc b) c e =
    let same : suc (a + b) ≡ c = omega arith in
    rw (sym same) (omega (arith, count_more p (a + b), count_plus p a b (a + b) refl, count_more (λ i. p (a + i)) b))

-- the elements of a list by their places
pub count_list : {A : Type 0} (p : A → Bool) (xs : List A) (d : A) → count (λ i. p (get_or xs i d)) (length xs) ≡ count_by p xs
count_list p [] d = refl
count_list p (x ∷ xs) d =
    let first = count_plus (λ i. p (get_or (x ∷ xs) i d)) 1 (length xs) (suc (length xs)) (omega arith) in
    let rest = count_alike (λ i. p (get_or (x ∷ xs) (1 + i) d)) (λ i. p (get_or xs i d)) (length xs) (λ i l. ap (λ j. p (get_or (x ∷ xs) j d)) (one_more i)) in
    omega (arith, sum_by-cons (λ y. weight (p y)) x xs, count_list p xs d)
  where
    one_more : (i : ℕ) → 1 + i ≡ suc i
    one_more i = omega arith

-- even numbers and odd ones
pub count_double : (p : ℕ → Bool) (n c : ℕ) → 2 * n ≡ c → count p c ≡ count (λ i. p (2 * i)) n + count (λ i. p (2 * i + 1)) n
count_double p zero c e = let same : 0 ≡ c = omega arith in rw (sym same) refl
count_double p (suc n) c e =
    let same : suc (suc (2 * n)) ≡ c = omega arith in
    let odd : suc (2 * n) ≡ 2 * n + 1 = omega arith in
    rw (sym same) (omega (arith, count_more p (suc (2 * n)), ap (λ i. weight (p i)) odd, count_more p (2 * n), count_double p n (2 * n) refl, count_more (λ i. p (2 * i)) n, count_more (λ i. p (2 * i + 1)) n))

-- by the remainder at a division by four
pub count_four : (p : ℕ → Bool) (n : ℕ) → count p (4 * n) ≡ count (λ i. p (4 * i)) n + count (λ i. p (4 * i + 1)) n + count (λ i. p (4 * i + 2)) n + count (λ i. p (4 * i + 3)) n
count_four p n =
    let place : (q : ℕ → ℕ) (r : ℕ → ℕ) → ((i : ℕ) → q i ≡ r i) → count (λ i. p (q i)) n ≡ count (λ i. p (r i)) n = λ q r h. count_alike (λ i. p (q i)) (λ i. p (r i)) n (λ i l. ap p (h i)) in
    omega (
      arith,
      count_double p (2 * n) (4 * n) (omega arith),
      count_double (λ i. p (2 * i)) n (2 * n) refl,
      count_double (λ i. p (2 * i + 1)) n (2 * n) refl,
      place (λ i. 2 * (2 * i)) (λ i. 4 * i) (λ i. omega arith),
      place (λ i. 2 * (2 * i) + 1) (λ i. 4 * i + 1) (λ i. omega arith),
      place (λ i. 2 * (2 * i + 1)) (λ i. 4 * i + 2) (λ i. omega arith),
      place (λ i. 2 * (2 * i + 1) + 1) (λ i. 4 * i + 3) (λ i. omega arith),
    )
