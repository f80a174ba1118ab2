-- Records read back from their bytes. Assumes nothing.
use Rattle.std.proofs.Common.{◌≡◌, ℕ, ◌*◌, ◌≤◌, List, [], ◌∷◌, ◌++◌, length, Ok, sym, refl, ap, ◌∙◌, ap₂, arith}
use native.Mathlib.Nat.{mod-add-div}
use Rattle.std.proofs.lemmas.List.{take_at, drop_at, length-append}
use Rattle.std.proofs.lemmas.Bool.{le-ltb, ne_eqb}
use Rattle.std.specs.List.{flat_map}
use Rattle.mesh.specs.Records.{Record, vertex, face, curve, end, two_bytes, numbers, bytes_of, body_length, record_of, next}

pub numbers_joined : (vs : List ℕ) → numbers (flat_map two_bytes vs) ≡ vs
numbers_joined [] = refl
numbers_joined (v ∷ vs) = ap₂ ◌∷◌ (mod-add-div v 256) (numbers_joined vs)

pub length_joined_two : (vs : List ℕ) → length (flat_map two_bytes vs) ≡ 2 * length vs
length_joined_two [] = refl
length_joined_two (v ∷ vs) = omega (arith, length_joined_two vs)

-- a body as long as its kind says is read, and what comes after it is left
pub next_record : (n kind : ℕ) (body rest : List ℕ) → kind ≤ 8 → length body ≡ body_length kind → next n (kind ∷ (body ++ rest)) ≡ Ok (record_of kind body, rest)
next_record n kind body rest small fits =
    let long : body_length kind ≤ length (body ++ rest) = omega (arith, length-append body rest) in
    rw (le-ltb 8 kind small, le-ltb (length (body ++ rest)) (body_length kind) long, take_at body rest (body_length kind) fits, drop_at body rest (body_length kind) fits)

-- a kind above 2 is a face's
module _ (kind : ℕ) (some-corners : 3 ≤ kind) where
  pub body_length_face : body_length kind ≡ 2 * kind
  body_length_face = rw (ne_eqb kind 0 (omega arith), ne_eqb kind 1 (omega arith), ne_eqb kind 2 (omega arith))

  pub record_of_face : (body : List ℕ) → record_of kind body ≡ face (numbers body)
  record_of_face body = rw (ne_eqb kind 0 (omega arith), ne_eqb kind 1 (omega arith), ne_eqb kind 2 (omega arith))

-- a face has 3 to 8 corners, as a kind can say
abbrev pub Sized : Record → Type 0
Sized (vertex dim) = Unit {0}
Sized (face cs) = (3 ≤ length cs) × (length cs ≤ 8)
Sized (curve s) = Unit {0}
Sized end = Unit {0}

pub next_sized : (n : ℕ) (r : Record) (rest : List ℕ) → Sized r → next n (bytes_of r ++ rest) ≡ Ok (r, rest)
next_sized n (vertex dim) rest size = next_record n 1 (dim ∷ []) rest (omega arith) refl
next_sized n (face cs) rest size = next_record n (length cs) (flat_map two_bytes cs) rest size.1 (length_joined_two cs ∙ sym (body_length_face (length cs) size.0)) ∙ ap (λ r. Ok (r, rest)) (record_of_face (length cs) size.0 (flat_map two_bytes cs) ∙ ap face (numbers_joined cs))
next_sized n (curve s) rest size = next_record n 2 (two_bytes s.tail ++ two_bytes s.head) rest (omega arith) refl ∙ rw (mod-add-div s.tail 256, mod-add-div s.head 256)
next_sized n end rest size = next_record n 0 [] rest (omega arith) refl
