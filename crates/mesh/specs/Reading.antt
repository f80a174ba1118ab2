-- Reading a base: what each list of bytes gives, a shape or one refusal.
use Rattle.std.specs.Prelude.{ℕ, zero, suc, ◌+◌, ◌-◌, Bool, true, false, cond, not, ◌&&◌, ◌||◌, leb, List, [], ◌∷◌, ◌++◌, map, length, is_some, Some, None, Ok, Err, Option, Result, ◌==◌, nat_le, nat_lt, slice_index, slice_index_or}
use Rattle.std.specs.List.{range_with_len}
use Rattle.std.specs.Option.{unwrap_or}
use Rattle.refusal.specs.declared.Refusal.{Refusal}
use Rattle.refusal.specs.declared.Refusal.TheVariants.{Truncated, OutOfOrder, BadVertex, BadCurve, ThirdFace, TooMany, TrailingByte, OpenEdge, BadValence, BadDimension}
use Rattle.mesh.specs.Lowest.{lowest}
use Rattle.mesh.specs.Shape.{Shape, any, nowhere, around, edges, edge_of, uses, degree, occurs, corners, curve_edges}
use Rattle.mesh.specs.Rules.{proper, fits}
use Rattle.mesh.specs.Records.{Record, vertex, face, curve, end, next}

-- what the records so far have given
pub record Draft : Type 0 where
  pub dims : List ℕ
  pub faces : List (List ℕ)
  -- the edges that curve records have named, in their order
  pub named : List ℕ

abbrev pub blank : Draft
blank = record { dims = []; faces = []; named = [] }

abbrev pub empty : {A : Type 0} → List A → Bool
empty [] = true
empty (x ∷ xs) = false

-- kind out of order: records come as vertices, faces, curves, end
abbrev pub out_of_order : Draft → Record → Bool
out_of_order d (vertex dim) = not (empty d.faces) || not (empty d.named)
out_of_order d (face cs) = not (empty d.named)
out_of_order d (curve s) = false
out_of_order d end = false

-- dimension above 2, unknown vertex, or one twice in a record
abbrev pub bad_vertex : Draft → Record → Bool
bad_vertex d (vertex dim) = nat_lt 2 dim
bad_vertex d (face cs) = not (proper (length d.dims) cs)
bad_vertex d (curve s) = not (proper (length d.dims) (s.tail ∷ s.head ∷ []))
bad_vertex d end = false

-- curve names no edge, or one already named
abbrev pub bad_curve : Draft → Record → Bool
bad_curve d (vertex dim) = false
bad_curve d (face cs) = false
bad_curve d (curve s) = not (is_some (edge_of (edges d.faces) s)) || occurs (unwrap_or (edge_of (edges d.faces) s) 0) d.named
bad_curve d end = false

-- an edge would get a third face
abbrev pub third_face : Draft → Record → Bool
third_face d (vertex dim) = false
third_face d (face cs) = any (λ s. leb 2 (uses d.faces s)) (around cs)
third_face d (curve s) = false
third_face d end = false

-- a maximum passed, or end before any face
abbrev pub too_many : Draft → Record → Bool
too_many d (vertex dim) = nat_le 256 (length d.dims)
too_many d (face cs) = nat_le 256 (length d.faces) || nat_lt 512 (length (edges (d.faces ++ cs ∷ [])))
too_many d (curve s) = false
too_many d end = empty d.faces

-- the lowest row that refuses record n
abbrev pub judged : ℕ → Draft → Record → Option Refusal
judged n d r = cond (out_of_order d r) (Some (OutOfOrder n)) (cond (bad_vertex d r) (Some (BadVertex n)) (cond (bad_curve d r) (Some (BadCurve n)) (cond (third_face d r) (Some (ThirdFace n)) (cond (too_many d r) (Some (TooMany n)) None))))

abbrev pub added : Draft → Record → Draft
added d (vertex dim) = record { dims = d.dims ++ dim ∷ []; faces = d.faces; named = d.named }
added d (face cs) = record { dims = d.dims; faces = d.faces ++ cs ∷ []; named = d.named }
added d (curve s) = record { dims = d.dims; faces = d.faces; named = d.named ++ unwrap_or (edge_of (edges d.faces) s) 0 ∷ [] }
added d end = d

-- after record n: stop at the end record, else go on
abbrev pub onto : {A : Type 0} → Record → A → A → A
onto (vertex dim) stop go = go
onto (face cs) stop go = go
onto (curve s) stop go = go
onto end stop go = stop

abbrev pub unless : {A : Type 0} → Option Refusal → Result A Refusal → Result A Refusal
unless None r = r
unless (Some x) r = Err x

abbrev pub then : {A B : Type 0} → Result A Refusal → (A → Result B Refusal) → Result B Refusal
then (Ok x) f = f x
then (Err e) f = Err e

-- from record n on: the draft at the end record, and the bytes after it.
-- A record takes a byte at least, so where all bytes have had their turn, there is none left
unfoldable pub records : (turns : ℕ) → ℕ → Draft → List ℕ → Result (Draft × List ℕ) Refusal
records zero n d bs = Err (Truncated n)
records (suc turns) n d bs = then (next n bs) (λ (p : Record × List ℕ). unless (judged n d p.0) (onto p.0 (Ok (d, p.1)) (records turns (n + 1) (added d p.0) p.1)))

abbrev pub finished : Draft → Shape
finished d = record { dims = d.dims; faces = d.faces; curves = map (λ e. occurs e d.named) (range_with_len 0 (length (edges d.faces))) }

-- one face and no curve
abbrev pub open_edge : Shape → ℕ → Bool
open_edge s e = uses s.faces (slice_index_or (edges s.faces) e nowhere) == 1 && not (slice_index_or s.curves e false)

-- no face, or over 8 edges
abbrev pub bad_valence : Shape → ℕ → Bool
bad_valence s v = not (occurs v (corners s.faces)) || nat_lt 8 (degree (edges s.faces) v)

-- dimension does not fit
abbrev pub bad_dimension : Shape → ℕ → Bool
bad_dimension s v = not (fits (slice_index s.dims v) (degree (curve_edges s) v))

abbrev pub at : (ℕ → Refusal) → Option ℕ → Option Refusal
at f None = None
at f (Some k) = Some (f k)

-- a byte after the end record: the first
abbrev pub trailing : (total : ℕ) → List ℕ → Option Refusal
trailing total [] = None
trailing total (b ∷ bs) = Some (TrailingByte (total - length (b ∷ bs)))

abbrev pub checked : Shape → Result Shape Refusal
checked s = unless (at OpenEdge (lowest (open_edge s) (length (edges s.faces)))) (unless (at BadValence (lowest (bad_valence s) (length s.dims))) (unless (at BadDimension (lowest (bad_dimension s) (length s.dims))) (Ok s)))

-- what the bytes of a base give
unfoldable pub reading : List ℕ → Result Shape Refusal
reading bs = then (records (length bs) 0 blank bs) (λ (p : Draft × List ℕ). unless (trailing (length bs) p.1) (checked (finished p.0)))
