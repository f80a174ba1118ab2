-- Which bytes a record was read from. Assumes nothing.
use Rattle.std.proofs.Common.{◌≡◌, ℕ, zero, suc, ◌+◌, ◌*◌, ◌/◌, ◌%◌, ◌<◌, ◌≤◌, Bool, true, false, cond, not, ltb, List, [], ◌∷◌, ◌++◌, length, get_or, take, drop, Ok, Err, Result, sym, refl, ap, ◌∙◌, subst, ap₂, arith}
use Rattle.std.proofs.ByRecursion.{All-weaker, Decides-by_and}
use Rattle.std.proofs.lemmas.List.{nil_from_length, take-append-drop, length-take-le}
use Rattle.std.proofs.lemmas.Bool.{ltb-false, and_parts, not-false}
use Rattle.std.proofs.lemmas.Bool.Decides.{Decides-ltb}
use Rattle.std.specs.List.{flat_map, AllByRecursion}
use Rattle.refusal.specs.declared.Refusal.{Refusal}
use Rattle.refusal.specs.declared.Refusal.TheVariants.{Truncated, UnknownKind}
use Rattle.mesh.specs.Rules.{all_below, distinct, proper}
use Rattle.mesh.specs.Records.{Record, face, two_bytes, numbers, bytes_of, body_length, record_of, next}
use Rattle.mesh.specs.Reading.{Draft, bad_vertex}
use Rattle.mesh.proofs.Results.{cond_else}
use Rattle.mesh.proofs.Bytes.{body_length_face, record_of_face, Sized}

-- a number below 256 has one spelling: its low byte, then 0
two_bytes_back : (low high : ℕ) → low + 256 * high < 256 → two_bytes (low + 256 * high) ≡ low ∷ high ∷ []
two_bytes_back low high small =
    let l : (low + 256 * high) % 256 ≡ low = omega arith in
    let h : (low + 256 * high) / 256 ≡ high = omega arith in
    cc

pub numbers_back : (bs : List ℕ) → length bs % 2 ≡ 0 → AllByRecursion (λ x. x < 256) (numbers bs) → flat_map two_bytes (numbers bs) ≡ bs
numbers_back [] even small = refl
numbers_back (low ∷ []) even small = absurd (omega arith)
numbers_back (low ∷ high ∷ bs) even small = ap (λ front. front ++ flat_map two_bytes (numbers bs)) (two_bytes_back low high small.0) ∙ ap (λ rest. low ∷ high ∷ rest) (numbers_back bs (omega arith) small.1)

pub length_numbers : (bs : List ℕ) → length bs % 2 ≡ 0 → 2 * length (numbers bs) ≡ length bs
length_numbers [] even = refl
length_numbers (low ∷ []) even = absurd (omega arith)
length_numbers (low ∷ high ∷ bs) even = let l = length_numbers bs (omega arith) in omega arith

pub below_256 : (vertices : ℕ) → vertices ≤ 256 → (cs : List ℕ) → all_below vertices cs ≡ true → AllByRecursion (λ x. x < 256) cs
below_256 vertices few cs t =
    let all = (Decides-by_and (λ c. ltb c vertices) (λ c. c < vertices) (all_below vertices) (λ c. Decides-ltb c vertices) refl (λ _ _. refl) cs).0 t in
    All-weaker (λ c. c < vertices) (λ c. c < 256) (λ c l. omega arith) cs all

-- a record taken apart into its kind and its body
record Taken (bs : List ℕ) (p : Record × List ℕ) : Type 0 where
  kind : ℕ
  body : List ℕ
  known : kind ≤ 8
  size : length body ≡ body_length kind
  gives : record_of kind body ≡ p.0
  from : bs ≡ kind ∷ (body ++ p.1)

taken : (n : ℕ) (bs : List ℕ) (p : Record × List ℕ) → next n bs ≡ Ok p → Taken bs p
taken n [] p e = absurd (grind arith)
taken n (kind ∷ rest) p e =
    let size = body_length kind in
    let past = passes (ltb 8 kind) (UnknownKind n) _ e in
    let whole = passes (ltb (length rest) size) (Truncated n) (Ok (record_of kind (take size rest), drop size rest)) past.1 in
    let is : (record_of kind (take size rest), drop size rest) ≡ p = cc whole.1 in
    record {
      kind = kind;
      body = take size rest;
      known = ltb-false 8 kind past.0;
      size = length-take-le size rest (ltb-false (length rest) size whole.0);
      gives = ap (λ (q : Record × List ℕ). q.0) is;
      from = ap (λ r. kind ∷ r) (sym (take-append-drop size rest)) ∙ ap (λ (q : Record × List ℕ). kind ∷ (take size rest ++ q.1)) is;
    }
  where
    passes : (b : Bool) (x : Refusal) (r : Result (Record × List ℕ) Refusal) → cond b (Err x) r ≡ Ok p → (b ≡ false) × (r ≡ Ok p)
    passes b x r = cond_else b (Err x) r (Ok p) (λ q. grind arith)

two_numbers : (ns : List ℕ) → length ns ≡ 2 → ns ≡ get_or ns 0 0 ∷ get_or ns 1 0 ∷ []
two_numbers [] e = absurd (omega arith)
two_numbers (a ∷ []) e = absurd (omega arith)
two_numbers (a ∷ b ∷ []) e = refl
two_numbers (a ∷ b ∷ c ∷ ns) e = absurd (omega arith)

-- a record that names vertices is spelled by its kind and body, and has its size
abbrev Back : Draft → ℕ → List ℕ → Record → Type 0
Back d kind body r = bad_vertex d r ≡ false → (kind ∷ body ≡ bytes_of r) × Sized r

module _ (d : Draft) (few : length d.dims ≤ 256) where
  -- numbers that name vertices are spelled by the body that they came from
  body_back : (body ns : List ℕ) → length body % 2 ≡ 0 → numbers body ≡ ns → not (proper (length d.dims) ns) ≡ false → flat_map two_bytes ns ≡ body
  body_back body ns even is good =
      let fine = not-false (proper (length d.dims) ns) good in
      let small = below_256 (length d.dims) few ns (and_parts (all_below (length d.dims) ns) (distinct ns) fine).0 in
      rw (← is) (numbers_back body even (rw is small))

  kind_back : (kind : ℕ) (body : List ℕ) → kind ≤ 8 → length body ≡ body_length kind → Back d kind body (record_of kind body)
  kind_back zero body known size good = (ap (λ r. 0 ∷ r) (nil_from_length body size), tt)
  kind_back (suc zero) [] known size good = absurd (omega arith)
  kind_back (suc zero) (b ∷ []) known size good = (refl, tt)
  kind_back (suc zero) (b ∷ c ∷ body) known size good = absurd (omega arith)
  kind_back (suc (suc zero)) body known size good =
      let even : length body % 2 ≡ 0 = omega arith in
      let count = length_numbers body even in
      (ap (λ r. 2 ∷ r) (sym (body_back body _ even (two_numbers (numbers body) (omega arith)) good)), tt)
  kind_back (suc (suc (suc k))) body known size good =
      let long = body_length_face (suc (suc (suc k))) (omega arith) in
      let even : length body % 2 ≡ 0 = omega arith in
      let count = length_numbers body even in
      let many : suc (suc (suc k)) ≡ length (numbers body) = omega arith in
      let face-back : Back d (suc (suc (suc k))) body (face (numbers body)) = λ fine. (ap₂ ◌∷◌ many (sym (body_back body (numbers body) even refl fine)), (omega arith, omega arith)) in
      subst (Back d (suc (suc (suc k))) body) (sym (record_of_face (suc (suc (suc k))) (omega arith) body)) face-back good

pub next_spelled : (n : ℕ) (d : Draft) (bs : List ℕ) (p : Record × List ℕ) → length d.dims ≤ 256 → next n bs ≡ Ok p → bad_vertex d p.0 ≡ false → (bs ≡ bytes_of p.0 ++ p.1) × Sized p.0
next_spelled n d bs p few e =
    let t = taken n bs p e in
    let back = subst (Back d t.kind t.body) t.gives (kind_back d few t.kind t.body t.known t.size) in
    λ good. (t.from ∙ ap (λ front. front ++ p.1) (back good).0, (back good).1)
