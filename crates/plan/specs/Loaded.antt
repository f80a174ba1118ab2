-- What a settled block tells: lists, marks and dimensions, each read straight from the table.
use Rattle.std.specs.Prelude.{ℕ, ◌+◌, ◌-◌, ◌*◌, Bool, cond, ◌&&◌, List, map, ◌==◌, nat_lt, slice_index}
use Rattle.std.specs.List.{range_with_len}
use Rattle.hierarchy.specs.declared.link.Link.{Link}
use Rattle.hierarchy.specs.declared.link.Link.TheVariants.{EdgeEnds, EdgeFaces, FaceVertices, FaceEdges, VertexEdges, VertexFaces}
use Rattle.plan.specs.declared.block.Block.{Block}
use Rattle.plan.specs.declared.block.Array.TheVariants.{Ends, VertexHalfEnds, VertexHalves, VertexCornerEnds, VertexCorners, EdgeCornerEnds, EdgeCorners, FaceEnds, FaceByVertex, FaceByEdge, Curves, Dimensions}
use Rattle.plan.specs.declared.span.Span.{Span}
use Rattle.plan.specs.Decoded.{start_of}
use Rattle.plan.specs.Layout.{begins}

-- number k of those that stand from a place on
abbrev pub at : List ℕ → ℕ → ℕ → ℕ
at t from k = slice_index t (from + k)

-- a part of the table: where it begins, and how many numbers it has
pub record Part : Type 0 where
  pub from : ℕ
  pub count : ℕ

abbrev pub numbers : List ℕ → Part → List ℕ
numbers t s = map (at t s.from) (range_with_len 0 s.count)

abbrev pub stands : Span → Part
stands s = record { from = s.from; count = s.count }

abbrev pub listed : List ℕ → Span → List ℕ
listed t s = numbers t (stands s)

abbrev pub nothing : Part
nothing = record { from = 0; count = 0 }

-- list i of those that stand in a row from a place on, by where each ends
abbrev pub span_in : List ℕ → ℕ → ℕ → ℕ → Part
span_in t ends list i = record { from = list + start_of (at t ends) i; count = at t ends i - start_of (at t ends) i }

abbrev pub span_of : List ℕ → Block → Link → ℕ → Part
span_of t b EdgeEnds e = cond (nat_lt e b.edges) (record { from = begins b Ends + 2 * e; count = 2 }) nothing
span_of t b EdgeFaces e = cond (nat_lt e b.edges) (span_in t (begins b EdgeCornerEnds) (begins b EdgeCorners) e) nothing
span_of t b FaceVertices f = cond (nat_lt f b.faces) (span_in t (begins b FaceEnds) (begins b FaceByVertex) f) nothing
span_of t b FaceEdges f = cond (nat_lt f b.faces) (span_in t (begins b FaceEnds) (begins b FaceByEdge) f) nothing
span_of t b VertexEdges v = cond (nat_lt v b.vertices) (span_in t (begins b VertexHalfEnds) (begins b VertexHalves) v) nothing
span_of t b VertexFaces v = cond (nat_lt v b.vertices) (span_in t (begins b VertexCornerEnds) (begins b VertexCorners) v) nothing

abbrev pub loaded : List ℕ → Block → Link → ℕ → List ℕ
loaded t b link i = numbers t (span_of t b link i)

abbrev pub loaded_curve : List ℕ → Block → ℕ → Bool
loaded_curve t b e = nat_lt e b.edges && at t (begins b Curves) e == 1

abbrev pub loaded_dimension : List ℕ → Block → ℕ → ℕ
loaded_dimension t b v = cond (nat_lt v b.vertices) (at t (begins b Dimensions) v) 0
