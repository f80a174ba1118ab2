-- The sides round a face: the ends that they have, and how often they join the ends of one edge. Assumes nothing.
use Rattle.std.proofs.Common.{◌≡◌, ℕ, ◌+◌, ◌<◌, ◌≤◌, true, false, cond, eqb, ltb, leb, List, [], ◌∷◌, ◌++◌, length, count_by, ap, ◌∙◌, ⊎_elim, arith}
use Rattle.std.proofs.ByRecursion.{All-append}
use Rattle.std.proofs.lemmas.List.Sums.{sum_by-append, count_by-le-length}
use Rattle.std.proofs.lemmas.Bool.{cases_lt, cases_Bool, and_parts, and_from, or_parts, or_from, leb-false}
use Rattle.std.proofs.lemmas.Bool.Decides.{nat_tests}
use Rattle.std.specs.List.{AllByRecursion}
use Rattle.mesh.specs.declared.Side.{Side}
use Rattle.mesh.specs.Shape.{side, joins, touches, onward, around, sides, edges, uses, occurs, any}
use Rattle.mesh.specs.Rules.{distinct, all_below, proper, Polygon}
use Rattle.mesh.proofs.Lists.{joined_append, all_fail, countBy_yes, countBy_no, countBy_some}
use Rattle.mesh.proofs.Occurs.{distinct_parts}
use Rattle.mesh.proofs.Edges.{firsts_all, count_alike}

pub sides_append : (faces more : List (List ℕ)) → sides (faces ++ more) ≡ sides faces ++ sides more
sides_append faces more = joined_append around faces more

pub uses_append : (faces more : List (List ℕ)) (s : Side) → uses (faces ++ more) s ≡ uses faces s + uses more s
uses_append faces more s = ap (count_by (joins s)) (sides_append faces more) ∙ sum_by-append (λ t. cond (joins s t) 1 0) (sides faces) (sides more)

pub uses_cons : (cs : List ℕ) (faces : List (List ℕ)) (s : Side) → uses (cs ∷ faces) s ≡ count_by (joins s) (around cs) + uses faces s
uses_cons cs faces s = sum_by-append (λ t. cond (joins s t) 1 0) (around cs) (sides faces)

-- two vertices, as a curve record has to name them
abbrev pub Ends : ℕ → Side → Type 0
Ends n s = proper n (s.tail ∷ s.head ∷ []) ≡ true

ends_from : (n a b : ℕ) → ltb a n ≡ true → ltb b n ≡ true → eqb b a ≡ false → Ends n (side a b)
ends_from n a b p q r = rw (p, q, r)

-- two corners in a row: the side between them, and what is known without the first
two_corners : (n c d : ℕ) (ds : List ℕ) → proper n (c ∷ d ∷ ds) ≡ true → Ends n (side c d) × (ltb c n ≡ true) × (occurs c (d ∷ ds) ≡ false) × (proper n (d ∷ ds) ≡ true)
two_corners n c d ds p =
    let both = and_parts (all_below n (c ∷ d ∷ ds)) (distinct (c ∷ d ∷ ds)) p in
    let below = and_parts (ltb c n) (all_below n (d ∷ ds)) both.0 in
    let apart = distinct_parts c (d ∷ ds) both.1 in
    (ends_from n c d below.0 (and_parts (ltb d n) (all_below n ds) below.1).0 (or_parts (eqb d c) (occurs c ds) apart.0).0, below.0, apart.0, and_from (all_below n (d ∷ ds)) (distinct (d ∷ ds)) below.1 apart.1)

onward_ends : (n first c : ℕ) (ds : List ℕ) → ltb first n ≡ true → occurs first (c ∷ ds) ≡ false → proper n (c ∷ ds) ≡ true → AllByRecursion (Ends n) (onward first c ds)
onward_ends n first c [] f o p =
    let below = and_parts (ltb c n) true (and_parts (all_below n (c ∷ [])) (distinct (c ∷ [])) p).0 in
    let other : eqb first c ≡ false = grind (arith, nat_tests) in
    (ends_from n c first below.0 f other, tt)
onward_ends n first c (d ∷ ds) f o p =
    let two = two_corners n c d ds p in
    (two.0, onward_ends n first d ds f (or_parts (eqb c first) (occurs first (d ∷ ds)) o).1 two.3)

pub around_ends : (n : ℕ) (cs : List ℕ) → Polygon n cs → AllByRecursion (Ends n) (around cs)
around_ends n [] p = tt
around_ends n (c ∷ []) p = absurd (omega (arith, p.least))
around_ends n (c ∷ d ∷ ds) p =
    let two = two_corners n c d ds p.proper in
    (two.0, onward_ends n c d ds two.1 two.2 two.3)

pub sides_ends : (n : ℕ) (faces : List (List ℕ)) → AllByRecursion (Polygon n) faces → AllByRecursion (Ends n) (sides faces)
sides_ends n [] all = tt
sides_ends n (cs ∷ faces) all = All-append (Ends n) (around cs) (sides faces) (around_ends n cs all.0) (sides_ends n faces all.1)

pub edges_ends : (n : ℕ) (faces : List (List ℕ)) → AllByRecursion (Polygon n) faces → AllByRecursion (Ends n) (edges faces)
edges_ends n faces all = firsts_all (Ends n) (sides faces) (sides_ends n faces all)

-- a side that touches v joins none that misses it
apart : (v : ℕ) (t s : Side) → touches v t ≡ true → touches v s ≡ false → joins t s ≡ false
apart v t s yes' no' = grind (arith, nat_tests)

ends_of : (t : Side) (c d : ℕ) → joins t (side c d) ≡ true → (touches c t ≡ true) × (touches d t ≡ true)
ends_of t c d yes' = (grind (arith, nat_tests), grind (arith, nat_tests))

-- a side joins none of those that leave out one of its ends
onward_misses : (v : ℕ) (t : Side) → touches v t ≡ true → (first c : ℕ) (ds : List ℕ) → eqb v first ≡ false → occurs v (c ∷ ds) ≡ false → count_by (joins t) (onward first c ds) ≡ 0
onward_misses v t ends first c [] f o =
    let out : touches v (side c first) ≡ false = grind (arith, nat_tests) in
    countBy_no (joins t) (side c first) [] (apart v t (side c first) ends out)
onward_misses v t ends first c (d ∷ ds) f o =
    let here = or_parts (eqb c v) (occurs v (d ∷ ds)) o in
    let d≢ = (or_parts (eqb d v) (occurs v ds) here.1).0 in
    countBy_no (joins t) (side c d) (onward first d ds) (apart v t (side c d) ends (or_from (eqb c v) (eqb d v) here.0 d≢)) ∙ onward_misses v t ends first d ds f here.1

-- a side joins one at most of a chain of sides that comes to no vertex twice
onward_once : (t : Side) (first c : ℕ) (ds : List ℕ) → distinct (c ∷ ds) ≡ true → occurs first (c ∷ ds) ≡ false → count_by (joins t) (onward first c ds) ≤ 1
onward_once t first c [] once out = count_by-le-length (joins t) (side c first ∷ [])
onward_once t first c (d ∷ ds) once out =
    let parts = distinct_parts c (d ∷ ds) once in
    let away = or_parts (eqb c first) (occurs first (d ∷ ds)) out in
    let rest = onward_once t first d ds parts.1 away.1 in
    ⊎_elim
    (λ yes'.
    let one = countBy_yes (joins t) (side c d) (onward first d ds) yes' in
    let none = onward_misses c t (ends_of t c d yes').0 first d ds away.0 parts.0 in
    omega arith)
    (λ no'. let same = countBy_no (joins t) (side c d) (onward first d ds) no' in omega arith)
    (cases_Bool (joins t (side c d)))

-- a face with three corners or more, all different, has an edge once at most
pub around_once : (t : Side) (cs : List ℕ) → 3 ≤ length cs → distinct cs ≡ true → count_by (joins t) (around cs) ≤ 1
around_once t [] many once = absurd (omega arith)
around_once t (c ∷ []) many once = absurd (omega arith)
around_once t (c ∷ d ∷ []) many once = absurd (omega arith)
around_once t (c ∷ d ∷ e ∷ ds) many once =
    let parts = distinct_parts c (d ∷ e ∷ ds) once in
    let d-out = (distinct_parts d (e ∷ ds) parts.1).0 in
    let away = or_parts (eqb d c) (occurs c (e ∷ ds)) parts.0 in
    let e≢ = (or_parts (eqb e c) (occurs c ds) away.1).0 in
    let rest = onward_once t c d (e ∷ ds) parts.1 parts.0 in
    ⊎_elim
    (λ yes'.
    let ends = ends_of t c d yes' in
    let one = countBy_yes (joins t) (side c d) (onward c d (e ∷ ds)) yes' in
    let next = countBy_no (joins t) (side d e) (onward c e ds) (apart c t (side d e) ends.0 (or_from (eqb d c) (eqb e c) away.0 e≢)) in
    let none = onward_misses d t ends.1 c e ds away.0 d-out in
    omega arith)
    (λ no'. let same = countBy_no (joins t) (side c d) (onward c d (e ∷ ds)) no' in omega arith)
    (cases_Bool (joins t (side c d)))

-- a face none of whose edges has two faces yet gives none a third
pub uses_kept : (faces : List (List ℕ)) (cs : List ℕ) → ((t : Side) → uses faces t ≤ 2) → 3 ≤ length cs → distinct cs ≡ true → any (λ s. leb 2 (uses faces s)) (around cs) ≡ false → (t : Side) → uses (faces ++ cs ∷ []) t ≤ 2
uses_kept faces cs two many once room t =
    let all = uses_append faces (cs ∷ []) t in
    let own = uses_cons cs [] t in
    let new = around_once t cs many once in
    ⊎_elim
    (λ (none : count_by (joins t) (around cs) < 1). omega (arith, two t))
    (λ (some : 1 ≤ count_by (joins t) (around cs)).
    let it = countBy_some (joins t) (λ s. leb 2 (uses faces s) ≡ false) (around cs) (all_fail (λ s. leb 2 (uses faces s)) (around cs) room) some in
    let few = leb-false 2 (uses faces it.0) it.2 in
    let same : uses faces t ≡ uses faces it.0 = count_alike t it.0 it.1 (sides faces) in
    omega arith)
    (cases_lt (count_by (joins t) (around cs)) 1)
