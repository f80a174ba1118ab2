-- The coarsest level of a base.
use Rattle.std.specs.Prelude.{ℕ, ◌+◌, ◌-◌, false, cond, List, [], ◌∷◌, length, get_or, ◌==◌, nat_lt, slice_index, slice_index_or}
use Rattle.std.specs.Option.{unwrap_or}
use Rattle.mesh.specs.Shape.{Shape, nowhere, sides, edges, edge_of, corners}
use Rattle.levels.specs.Level.{Level}

-- which face corner c lies in
abbrev pub face_at : List (List ℕ) → ℕ → ℕ
face_at [] c = 0
face_at (f ∷ fs) c = cond (nat_lt c (length f)) 0 (1 + face_at fs (c - length f))

-- the corner before corner c round its face, and the one after it
abbrev pub back_at : List (List ℕ) → ℕ → ℕ
back_at [] c = 0
back_at (f ∷ fs) c = cond (nat_lt c (length f)) (cond (c == 0) (length f - 1) (c - 1)) (length f + back_at fs (c - length f))

abbrev pub forth_at : List (List ℕ) → ℕ → ℕ
forth_at [] c = 0
forth_at (f ∷ fs) c = cond (nat_lt c (length f)) (cond (nat_lt (c + 1) (length f)) (c + 1) 0) (length f + forth_at fs (c - length f))

abbrev pub surface : Shape → Level
surface s = record {
  vertices = length s.dims;
  edges = length (edges s.faces);
  faces = length s.faces;
  corners = length (corners s.faces);
  tail = λ e. (get_or (edges s.faces) e nowhere).tail;
  head = λ e. (get_or (edges s.faces) e nowhere).head;
  face = face_at s.faces;
  vertex = λ c. slice_index (corners s.faces) c;
  side = λ c. unwrap_or (edge_of (edges s.faces) (slice_index_or (sides s.faces) c nowhere)) 0;
  back = back_at s.faces;
  forth = forth_at s.faces;
  curve = λ e. slice_index_or s.curves e false;
  dimension = λ v. slice_index s.dims v;
}
