-- The record at the front of the bytes, by the pattern that the bytes match. Assumes nothing.
use Rattle.std.proofs.Common.{◌≡◌, ℕ, ◌+◌, ◌*◌, ◌≤◌, false, ltb, List, [], ◌∷◌, length, get_or, take, drop, Ok, refl, ap, ◌∙◌, arith}
use Rattle.std.proofs.lemmas.Bool.{cond-false, le-ltb}
use Rattle.mesh.specs.Records.{next, record_of, body_length, vertex, curve, end}
use Rattle.mesh.specs.Shape.{side}

-- a known kind whose body is there
taken : (n kind : ℕ) (rest : List ℕ) → ltb 8 kind ≡ false → body_length kind ≤ length rest → next n (kind ∷ rest) ≡ Ok (record_of kind (take (body_length kind) rest), drop (body_length kind) rest)
taken n kind rest known long =
    cond-false (ltb 8 kind) _ _ known ∙ cond-false (ltb (length rest) (body_length kind)) _ _ (le-ltb (length rest) (body_length kind) long)

pub end_front : (n : ℕ) (bs : List ℕ) → 1 ≤ length bs → get_or bs 0 0 ≡ 0 → next n bs ≡ Ok (end, drop 1 bs)
end_front n [] l e = absurd (omega arith)
end_front n (k ∷ rest) l e = ap (λ x. next n (x ∷ rest)) e ∙ taken n 0 rest refl (omega arith)

pub vertex_front : (n : ℕ) (bs : List ℕ) → 2 ≤ length bs → get_or bs 0 0 ≡ 1 → next n bs ≡ Ok (vertex (get_or bs 1 0), drop 2 bs)
vertex_front n [] l e = absurd (omega arith)
vertex_front n (k ∷ []) l e = absurd (omega arith)
vertex_front n (k ∷ d ∷ rest) l e = ap (λ x. next n (x ∷ d ∷ rest)) e ∙ taken n 1 (d ∷ rest) refl (omega arith)

pub curve_front : (n : ℕ) (bs : List ℕ) → 5 ≤ length bs → get_or bs 0 0 ≡ 2 → next n bs ≡ Ok (curve (side (get_or bs 1 0 + 256 * get_or bs 2 0) (get_or bs 3 0 + 256 * get_or bs 4 0)), drop 5 bs)
curve_front n [] l e = absurd (omega arith)
curve_front n (k ∷ []) l e = absurd (omega arith)
curve_front n (k ∷ a ∷ []) l e = absurd (omega arith)
curve_front n (k ∷ a ∷ b ∷ []) l e = absurd (omega arith)
curve_front n (k ∷ a ∷ b ∷ c ∷ []) l e = absurd (omega arith)
curve_front n (k ∷ a ∷ b ∷ c ∷ d ∷ rest) l e = ap (λ x. next n (x ∷ a ∷ b ∷ c ∷ d ∷ rest)) e ∙ taken n 2 (a ∷ b ∷ c ∷ d ∷ rest) refl (omega arith)

pub face_front : (n : ℕ) (bs : List ℕ) → 1 ≤ length bs → next n bs ≡ next n (get_or bs 0 0 ∷ drop 1 bs)
face_front n [] l = absurd (omega arith)
face_front n (k ∷ rest) l = refl

-- two bytes as a number, the low one first
pub low_first : (r low high : ℕ) → r ≡ low + high * 256 → r ≡ low + 256 * high
low_first r low high e = omega arith
