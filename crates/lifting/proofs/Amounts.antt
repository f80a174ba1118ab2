-- The amount in an s-lift, by a vertex's dimension and by whether an edge is a curve.
use Rattle.std.proofs.Common.{◌≡◌, ℕ, Bool, cond, eqb, List, [], filter, sym, ap}
use Rattle.hierarchy.specs.Meaning.{Meaning}
use Rattle.hierarchy.specs.declared.link.Link.TheVariants.{EdgeFaces, VertexEdges, VertexFaces}
use Rattle.schemes.specs.Readings.{Reads, none_read}
use Rattle.schemes.specs.declared.steps.Class.TheVariants.{Vertex, Edge}
use Rattle.schemes.specs.declared.steps.Step.{Step}
use Rattle.lifting.specs.Reading.{s_lift_reads, values_read}
use Rattle.lifting.specs.HalfSteps.{Rule, amount_from}

module _ {V : Type 0} (m : Meaning) (r : Rule V) (step : Step) (j : ℕ) (vs : List V) where
  abbrev vertex_reads : ℕ → ℕ → Reads ℕ
  vertex_reads v d =
      cond
      (eqb d 2)
      (record { vertices = []; edges = m.list j VertexEdges v; faces = m.list j VertexFaces v })
      (cond (eqb d 1) (record { vertices = []; edges = filter (m.curve j) (m.list j VertexEdges v); faces = [] }) none_read)

  pub at_dimension : (v d : ℕ) → m.dimension j v ≡ d → r.amount step Vertex d (values_read m r.zero vs j (vertex_reads v d)) ≡ amount_from m r step j Vertex v (s_lift_reads m j Vertex v) vs
  at_dimension v d e = ap (λ n. r.amount step Vertex n (values_read m r.zero vs j (vertex_reads v n))) (sym e)

  abbrev edge_reads : ℕ → Bool → Reads ℕ
  edge_reads e b = cond b none_read (record { vertices = []; edges = []; faces = m.list j EdgeFaces e })

  pub at_curve : (e : ℕ) (b : Bool) → m.curve j e ≡ b → r.amount step Edge (cond b 1 2) (values_read m r.zero vs j (edge_reads e b)) ≡ amount_from m r step j Edge e (s_lift_reads m j Edge e) vs
  at_curve e b is = ap (λ t. r.amount step Edge (cond t 1 2) (values_read m r.zero vs j (edge_reads e t))) (sym is)
