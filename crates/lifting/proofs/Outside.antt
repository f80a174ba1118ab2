-- No class reads its own class: what a point reads stands outside the places of its class.
use Rattle.std.proofs.Common.{◌≡◌, ℕ, ◌+◌, ◌<◌, ◌≤◌, false, eqb, ltb, leb, ◌⊎◌, inl, inr, ⊎_elim, arith}
use Rattle.std.specs.List.{AllByRecursion}
use Rattle.std.proofs.ByRecursion.{All-weaker, all_kept_by}
use Rattle.std.proofs.lemmas.Bool.{and_left, and_right, lt-leb, le-ltb, cond_both}
use Rattle.hierarchy.specs.Meaning.{Meaning}
use Rattle.hierarchy.specs.Lawful.{Lawful}
use Rattle.hierarchy.specs.declared.link.Link.TheVariants.{EdgeEnds, EdgeFaces, FaceVertices, FaceEdges, VertexEdges, VertexFaces}
use Rattle.schemes.specs.Readings.{Reads, none_read}
use Rattle.schemes.specs.declared.steps.Class.{Class}
use Rattle.schemes.specs.declared.steps.Class.TheVariants.{Vertex, Edge, Face}
use Rattle.schemes.specs.declared.steps.Step.{Step}
use Rattle.schemes.specs.declared.steps.Step.TheVariants.{First, Second, Third}
use Rattle.lifting.specs.Places.{count_of, first_place, in_run}
use Rattle.lifting.specs.Reading.{s_lift_reads, w_lift_reads, read_by}

abbrev pub Outside : ℕ → ℕ → ℕ → Type 0
Outside first n p = (p < first) ⊎ (first + n ≤ p)

pub outside_run : (first n p : ℕ) → Outside first n p → in_run first n p ≡ false
outside_run first n p = ⊎_elim (λ l. and_left (leb first p) (ltb p (first + n)) (lt-leb first p l)) (λ l. and_right (leb first p) (ltb p (first + n)) (le-ltb p (first + n) l))

-- the number n of class r stands outside the places of class c
abbrev pub Foreign : Meaning → ℕ → Class → Class → ℕ → Type 0
Foreign m j c r n = Outside (first_place m j c) (count_of m j c) (first_place m j r + n)

pub record Apart (m : Meaning) (j : ℕ) (c : Class) (q : Reads ℕ) : Type 0 where
  pub vertices : AllByRecursion (Foreign m j c Vertex) q.vertices
  pub edges : AllByRecursion (Foreign m j c Edge) q.edges
  pub faces : AllByRecursion (Foreign m j c Face) q.faces

module _ {m : Meaning} (lawful : Lawful m) (j : ℕ) where
  none_apart : (c : Class) → Apart m j c none_read
  none_apart c = record { vertices = tt; edges = tt; faces = tt }

  s_lift_apart : (c : Class) (i : ℕ) → Apart m j c (s_lift_reads m j c i)
  s_lift_apart Vertex v =
      let edges : AllByRecursion (Foreign m j Vertex Edge) (m.list j VertexEdges v) = All-weaker (λ k. k < m.edges j) (Foreign m j Vertex Edge) (λ k l. inr (omega arith)) (m.list j VertexEdges v) (lawful.below j VertexEdges v) in
      let faces : AllByRecursion (Foreign m j Vertex Face) (m.list j VertexFaces v) = All-weaker (λ k. k < m.faces j) (Foreign m j Vertex Face) (λ k l. inr (omega arith)) (m.list j VertexFaces v) (lawful.below j VertexFaces v) in
      let curves = all_kept_by (m.curve j) (Foreign m j Vertex Edge) (m.list j VertexEdges v) edges in
      cond_both
      (eqb (m.dimension j v) 2)
      _
      _
      (Apart m j Vertex)
      (λ _. record { vertices = tt; edges = edges; faces = faces })
      (λ _. cond_both (eqb (m.dimension j v) 1) _ _ (Apart m j Vertex) (λ _. record { vertices = tt; edges = curves; faces = tt }) (λ _. none_apart Vertex))
  s_lift_apart Edge e =
      let faces : AllByRecursion (Foreign m j Edge Face) (m.list j EdgeFaces e) = All-weaker (λ k. k < m.faces j) (Foreign m j Edge Face) (λ k l. inr (omega arith)) (m.list j EdgeFaces e) (lawful.below j EdgeFaces e) in
      cond_both (m.curve j e) _ _ (Apart m j Edge) (λ _. none_apart Edge) (λ _. record { vertices = tt; edges = tt; faces = faces })
  s_lift_apart Face f = none_apart Face

  w_lift_apart : (c : Class) (i : ℕ) → Apart m j c (w_lift_reads m j c i)
  w_lift_apart Vertex v = none_apart Vertex
  w_lift_apart Edge e = record { vertices = All-weaker (λ k. k < m.vertices j) (Foreign m j Edge Vertex) (λ k l. inl (omega arith)) (m.list j EdgeEnds e) (lawful.below j EdgeEnds e); edges = tt; faces = tt }
  w_lift_apart Face f = record {
    vertices = All-weaker (λ k. k < m.vertices j) (Foreign m j Face Vertex) (λ k l. inl (omega arith)) (m.list j FaceVertices f) (lawful.below j FaceVertices f);
    edges = All-weaker (λ k. k < m.edges j) (Foreign m j Face Edge) (λ k l. inl (omega arith)) (m.list j FaceEdges f) (lawful.below j FaceEdges f);
    faces = tt;
  }

  pub apart : (step : Step) (c : Class) (i : ℕ) → Apart m j c (read_by m step j c i)
  apart First c i = s_lift_apart c i
  apart Second c i = w_lift_apart c i
  apart Third c i = s_lift_apart c i
