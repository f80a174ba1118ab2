-- The records of a base, and a base written as bytes.
use Rattle.std.specs.Prelude.{ℕ, ◌+◌, ◌*◌, ◌/◌, ◌%◌, cond, List, [], ◌∷◌, ◌++◌, length, take, drop, Ok, Err, Result, ◌==◌, nat_lt, slice_index}
use Rattle.std.specs.List.{flat_map}
use Rattle.refusal.specs.declared.Refusal.{Refusal}
use Rattle.refusal.specs.declared.Refusal.TheVariants.{Truncated, UnknownKind}
use Rattle.mesh.specs.declared.Side.{Side}
use Rattle.mesh.specs.Shape.{Shape, side, curve_edges}

pub data Record : Type 0 where
  -- a vertex, by its dimension
  vertex : ℕ → Record
  -- a face, by the vertices at its corners
  face : List ℕ → Record
  -- a curve edge, by its ends in either order
  curve : Side → Record
  -- the end of the base
  end : Record

-- a vertex number: two bytes, the low one first
abbrev pub two_bytes : ℕ → List ℕ
two_bytes v = v % 256 ∷ v / 256 ∷ []

abbrev pub numbers : List ℕ → List ℕ
numbers [] = []
numbers (low ∷ []) = []
numbers (low ∷ high ∷ rest) = (low + 256 * high) ∷ numbers rest

-- one byte of kind, then a body
abbrev pub bytes_of : Record → List ℕ
bytes_of (vertex dim) = 1 ∷ dim ∷ []
bytes_of (face cs) = length cs ∷ flat_map two_bytes cs
bytes_of (curve s) = 2 ∷ (two_bytes s.tail ++ two_bytes s.head)
bytes_of end = 0 ∷ []

-- the length of the body, which the kind fixes: 3 to 8 is a face with so many corners
abbrev pub body_length : ℕ → ℕ
body_length kind = cond (kind == 0) 0 (cond (kind == 1) 1 (cond (kind == 2) 4 (2 * kind)))

abbrev pub record_of : ℕ → List ℕ → Record
record_of kind body = cond (kind == 0) end (cond (kind == 1) (vertex (slice_index body 0)) (cond (kind == 2) (curve (side (slice_index (numbers body) 0) (slice_index (numbers body) 1))) (face (numbers body))))

-- the record at the front of the bytes, which is record n, and the bytes after it
abbrev pub next : ℕ → List ℕ → Result (Record × List ℕ) Refusal
next n [] = Err (Truncated n)
next n (kind ∷ rest) = cond (nat_lt 8 kind) (Err (UnknownKind n)) (cond (nat_lt (length rest) (body_length kind)) (Err (Truncated n)) (Ok (record_of kind (take (body_length kind) rest), drop (body_length kind) rest)))

-- vertices, faces, curves, end
abbrev pub written_with : List ℕ → List (List ℕ) → List Side → List ℕ
written_with dims faces curves = flat_map (λ d. bytes_of (vertex d)) dims ++ (flat_map (λ f. bytes_of (face f)) faces ++ (flat_map (λ s. bytes_of (curve s)) curves ++ bytes_of end))

-- a base as bytes: its curve edges in the order of their numbers, each in its own direction
abbrev pub written : Shape → List ℕ
written s = written_with s.dims s.faces (curve_edges s)
