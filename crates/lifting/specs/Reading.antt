-- What a point reads in a step, by its class and dimension.
use Rattle.std.specs.Prelude.{ℕ, ◌+◌, cond, List, [], map, filter, ◌==◌, slice_index_or}
use Rattle.hierarchy.specs.Meaning.{Meaning}
use Rattle.hierarchy.specs.declared.link.Link.TheVariants.{EdgeEnds, EdgeFaces, FaceVertices, FaceEdges, VertexEdges, VertexFaces}
use Rattle.schemes.specs.Readings.{Reads, none_read}
use Rattle.schemes.specs.declared.steps.Class.{Class}
use Rattle.schemes.specs.declared.steps.Class.TheVariants.{Vertex, Edge, Face}
use Rattle.schemes.specs.declared.steps.Step.{Step}
use Rattle.schemes.specs.declared.steps.Step.TheVariants.{First, Second, Third}
use Rattle.lifting.specs.Places.{first_place}

-- the numbers of what is read in an s-lift: a vertex of dimension 2 reads its edges and faces, one of dimension 1 its curve
-- edges, and one of dimension 0 nothing; an edge reads its faces, or nothing if it is a curve
abbrev pub s_lift_reads : Meaning → ℕ → Class → ℕ → Reads ℕ
s_lift_reads m j Vertex v =
    cond
    (m.dimension j v == 2)
    (record { vertices = []; edges = m.list j VertexEdges v; faces = m.list j VertexFaces v })
    (cond
    (m.dimension j v == 1)
    (record { vertices = []; edges = filter (m.curve j) (m.list j VertexEdges v); faces = [] })
    none_read)
s_lift_reads m j Edge e = cond (m.curve j e) none_read (record { vertices = []; edges = []; faces = m.list j EdgeFaces e })
s_lift_reads m j Face f = none_read

-- the numbers of what is read in a w-lift: an edge reads its ends, a face its vertices and edges
abbrev pub w_lift_reads : Meaning → ℕ → Class → ℕ → Reads ℕ
w_lift_reads m j Vertex v = none_read
w_lift_reads m j Edge e = record { vertices = m.list j EdgeEnds e; edges = []; faces = [] }
w_lift_reads m j Face f = record { vertices = m.list j FaceVertices f; edges = m.list j FaceEdges f; faces = [] }

-- the first and the third step are s-lifts, the second is a w-lift
abbrev pub read_by : Meaning → Step → ℕ → Class → ℕ → Reads ℕ
read_by m First j c i = s_lift_reads m j c i
read_by m Second j c i = w_lift_reads m j c i
read_by m Third j c i = s_lift_reads m j c i

-- the values that stand at the points of a class with these numbers, where there is no place the given one
abbrev pub values_of : {V : Type 0} → Meaning → V → List V → ℕ → Class → List ℕ → List V
values_of m z vs j c ns = map (λ n. slice_index_or vs (first_place m j c + n) z) ns

abbrev pub values_read : {V : Type 0} → Meaning → V → List V → ℕ → Reads ℕ → Reads V
values_read m z vs j q = record { vertices = values_of m z vs j Vertex q.vertices; edges = values_of m z vs j Edge q.edges; faces = values_of m z vs j Face q.faces }
