-- One more value gathered, where the running sum is known by what was read.
use Rattle.std.proofs.Common.{◌≡◌, ℕ, ◌+◌, ◌<◌, ◌≤◌, Bool, true, false, not, cond, ltb, List, [], ◌∷◌, ◌++◌, map, length, get_or, filter, sym, refl, ap, ◌∙◌, subst, append-nil, arith}
use lib.ListN.{length-map}
use Rattle.std.proofs.lemmas.List.Elements.{filter-append}
use Rattle.std.proofs.Math.Seq.{get_or-append_seam}
use Rattle.std.proofs.lemmas.List.Filters.{length-filter_both}
use Rattle.std.proofs.ByRecursion.{All-get_or}
use Rattle.std.proofs.lemmas.List.{length-append, map-append}
use Rattle.std.proofs.lemmas.Bool.{cond-true, lt-ltb}
use Rattle.hierarchy.specs.Meaning.{Meaning, targets}
use Rattle.hierarchy.specs.Lawful.{Lawful}
use Rattle.hierarchy.specs.declared.link.Link.{Link}
use Rattle.hierarchy.specs.declared.link.Link.TheVariants.{EdgeEnds, EdgeFaces, FaceVertices, FaceEdges, VertexEdges, VertexFaces}
use Rattle.schemes.specs.Readings.{Reads, joined_by, more}
use Rattle.schemes.specs.declared.steps.Class.{Class}
use Rattle.schemes.specs.declared.steps.Class.TheVariants.{Vertex, Edge, Face}
use Rattle.lifting.specs.declared.layout.Layout.{Layout}
use Rattle.lifting.specs.Places.{first_place, places}
use Rattle.lifting.specs.Gathering.{Laid, start_of, target_class, with_read}
use Rattle.lifting.proofs.Room.{room}

-- where everything is read
pub kept_all : (ns : List ℕ) → filter (λ _. true) ns ≡ ns
kept_all [] = refl
kept_all (n ∷ ns) = ap (λ xs. n ∷ xs) (kept_all ns)

module _ (read : ℕ → Bool) (ns : List ℕ) where
  kept_few : length (filter read ns) ≤ length ns
  kept_few = omega (arith, length-filter_both read (λ n. not (read n)) (λ _. refl) ns)

  pub kept_next : (n : ℕ) → read n ≡ true → filter read (ns ++ n ∷ []) ≡ filter read ns ++ n ∷ []
  kept_next n e = filter-append read ns (n ∷ []) ∙ ap (λ t. filter read ns ++ cond t (n ∷ []) []) e

  pub kept_not : (n : ℕ) → read n ≡ false → filter read (ns ++ n ∷ []) ≡ filter read ns
  kept_not n e = filter-append read ns (n ∷ []) ∙ ap (λ t. filter read ns ++ cond t (n ∷ []) []) e ∙ append-nil (filter read ns)

more_with : {V : Type 0} (c : Class) (xs : List V) (v : V) (q : Reads V) → length xs < 8 → more c v (with_read c xs q) ≡ with_read c (xs ++ v ∷ []) q
more_with c xs v q few = shape c ∙ ap (λ ys. with_read c ys q) (cond-true (ltb (length xs) 8) (xs ++ v ∷ []) xs (lt-ltb (length xs) 8 few))
  where
    shape : (k : Class) → more k v (with_read k xs q) ≡ with_read k (joined_by xs v) q
    shape Vertex = refl
    shape Edge = refl
    shape Face = refl

-- one member that comes is the first of those that were to come
pub listed_next : (before : List ℕ) {rest after list : List ℕ} {n : ℕ} → rest ≡ n ∷ after → before ++ rest ≡ list → before ++ n ∷ after ≡ list
listed_next before next all = ap (λ r. before ++ r) (sym next) ∙ all

-- a turn of the loop that gathers, in terms of what the sum holds
module _ {V U : Type 0} (holds : U → Reads V → Type 0) (value : ℕ → V) (read : ℕ → Bool) (ns : List ℕ) (n : ℕ) (q : Reads V) (c : Class) where
  pub gathered_next : length ns < 8 → read n ≡ true → more c (value n) (with_read c (map value (filter read ns)) q) ≡ with_read c (map value (filter read (ns ++ n ∷ []))) q
  gathered_next few e =
      let xs = filter read ns in
      let long = length-map xs value in
      more_with c (map value xs) (value n) q (omega (arith, kept_few read ns))
      ∙ ap (λ ys. with_read c ys q) (sym (map-append value xs (n ∷ [])) ∙ ap (map value) (sym (kept_next read ns n e)))

  pub turn_reads : {sum new : U} {d : Class} {x : V} → d ≡ c → x ≡ value n → length ns < 8 → read n ≡ true → ((p : Reads V) → holds sum p → holds new (more d x p)) → holds sum (with_read c (map value (filter read ns)) q) → holds new (with_read c (map value (filter read (ns ++ n ∷ []))) q)
  turn_reads {new} {d} {x} is_c is_x few e gather before =
      let p = with_read c (map value (filter read ns)) q in
      subst (holds new) (ap (λ b. more b x p) is_c ∙ ap (λ y. more c y p) is_x ∙ gathered_next few e) (gather p before)

  pub turn_passes : {sum : U} → read n ≡ false → holds sum (with_read c (map value (filter read ns)) q) → holds sum (with_read c (map value (filter read (ns ++ n ∷ []))) q)
  turn_passes {sum} e before = subst (λ xs. holds sum (with_read c (map value xs) q)) (sym (kept_not read ns n e)) before

module _ {m : Meaning} (lawful : Lawful m) {at : Layout} {n : ℕ} (laid : Laid m at n) where
  pub start_is : (c : Class) → start_of at c ≡ first_place m at.level c
  start_is Vertex = refl
  start_is Edge = laid.edges
  start_is Face = laid.faces

  pub target_begins : (l : Link) {c : Class} {from : ℕ} → c ≡ target_class l → from ≡ start_of at c → from ≡ first_place m at.level (target_class l)
  target_begins l is_c is-from = is-from ∙ start_is _ ∙ ap (first_place m at.level) is_c

  pub begins : {j from : ℕ} (c : Class) → at.level ≡ j → from ≡ start_of at c → from ≡ first_place m j c
  begins c is-j is-from = is-from ∙ start_is c ∙ ap (λ i. first_place m i c) is-j

  -- what a list names has a place among the values
  pub listed_inside : (l : Link) (of : ℕ) (before after : List ℕ) (number : ℕ) → before ++ number ∷ after ≡ m.list at.level l of → first_place m at.level (target_class l) + number < n
  listed_inside l of before after number e =
      let k = length before in
      let here : get_or (m.list at.level l of) k 0 ≡ number = ap (λ xs. get_or xs k 0) (sym e) ∙ get_or-append_seam before number after 0 in
      let inside : k < length (m.list at.level l of) = omega (arith, ap length e, length-append before (number ∷ after)) in
      by l (subst (λ i. i < targets m at.level l) here (All-get_or (λ i. i < targets m at.level l) (m.list at.level l of) k 0 inside (lawful.below at.level l of)))
    where
      places_fit : places m at.level ≤ n
      places_fit = omega (arith, room lawful at.level laid.level, laid.whole)

      by : (k : Link) {i : ℕ} → i < targets m at.level k → first_place m at.level (target_class k) + i < n
      by EdgeEnds h = omega (arith, places_fit)
      by EdgeFaces h = omega (arith, places_fit)
      by FaceVertices h = omega (arith, places_fit)
      by FaceEdges h = omega (arith, places_fit)
      by VertexEdges h = omega (arith, places_fit)
      by VertexFaces h = omega (arith, places_fit)

  pub stands_inside : (l : Link) (of : ℕ) (before after : List ℕ) (number : ℕ) {c : Class} {from : ℕ} → c ≡ target_class l → from ≡ start_of at c → before ++ number ∷ after ≡ m.list at.level l of → from + number < n
  stands_inside l of before after number is_c is-from e = omega (arith, listed_inside l of before after number e, target_begins l is_c is-from)

  pub few_places : n ≤ 65536
  few_places = omega (arith, laid.whole, lawful.few_vertices)
