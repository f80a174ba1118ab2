-- What a sound level's relations list: few numbers, ascending, below their count. Assumes nothing.
use Rattle.std.proofs.Common.{◌≡◌, ℕ, ◌<◌, ◌≤◌, Bool, false, ◌&&◌, eqb, ltb, List, [], length, sym, refl, ◌∙◌, ⊎_elim, arith}
use Rattle.std.proofs.lemmas.Bool.{cases_lt, cond-true, cond-false, lt-ltb, le-ltb, eqb-true}
use Rattle.std.specs.List.{AllByRecursion}
use Rattle.hierarchy.specs.declared.link.Link.{Link}
use Rattle.hierarchy.specs.declared.link.Link.TheVariants.{EdgeEnds, EdgeFaces, FaceVertices, FaceEdges, VertexEdges, VertexFaces}
use Rattle.hierarchy.specs.Lawful.{Rises}
use Rattle.mesh.specs.Shape.{occurs}
use Rattle.levels.specs.Level.{Level}
use Rattle.levels.specs.Incidence.{those, incident, touches, has_edge, has_vertex}
use Rattle.levels.specs.Sound.{Sound, count}
use Rattle.levels.proofs.Counting.{count_either, count_most_one, fails}
use Rattle.levels.proofs.Rising.{rises_those, those_rise, those_below, those_none, length_those}
use Rattle.levels.proofs.Corners.{face_has, corner_of, count_in_face, count_faces}

-- how many there are of what a relation lists something of, and of what it lists
abbrev pub sources_at : Level → Link → ℕ
sources_at m EdgeEnds = m.edges
sources_at m EdgeFaces = m.edges
sources_at m FaceVertices = m.faces
sources_at m FaceEdges = m.faces
sources_at m VertexEdges = m.vertices
sources_at m VertexFaces = m.vertices

abbrev pub targets_at : Level → Link → ℕ
targets_at m EdgeEnds = m.vertices
targets_at m EdgeFaces = m.faces
targets_at m FaceVertices = m.vertices
targets_at m FaceEdges = m.edges
targets_at m VertexEdges = m.edges
targets_at m VertexFaces = m.faces

-- whether a relation gives number i number k
abbrev pub relates : Level → Link → ℕ → ℕ → Bool
relates m EdgeEnds e v = touches m e v
relates m EdgeFaces e f = has_edge m f e
relates m FaceVertices f v = has_vertex m f v
relates m FaceEdges f e = has_edge m f e
relates m VertexEdges v e = touches m e v
relates m VertexFaces v f = has_vertex m f v

-- what a relation gives number i: those that it relates to it, and nothing past the count
pub incident_in : (m : Level) (l : Link) (i : ℕ) → i < sources_at m l → incident m l i ≡ those (relates m l i) (targets_at m l)
incident_in m EdgeEnds i h = cond-true (ltb i m.edges) (those (relates m EdgeEnds i) m.vertices) [] (lt-ltb i m.edges h)
incident_in m EdgeFaces i h = cond-true (ltb i m.edges) (those (relates m EdgeFaces i) m.faces) [] (lt-ltb i m.edges h)
incident_in m FaceVertices i h = refl
incident_in m FaceEdges i h = refl
incident_in m VertexEdges i h = cond-true (ltb i m.vertices) (those (relates m VertexEdges i) m.edges) [] (lt-ltb i m.vertices h)
incident_in m VertexFaces i h = cond-true (ltb i m.vertices) (those (relates m VertexFaces i) m.faces) [] (lt-ltb i m.vertices h)

-- a list that ascends and has just those that are related is what the relation gives
pub incident_alike : (m : Level) (l : Link) (i : ℕ) → i < sources_at m l → (xs : List ℕ) → Rises xs → ((k : ℕ) → occurs k xs ≡ (ltb k (targets_at m l) && relates m l i k)) → xs ≡ incident m l i
incident_alike m l i h xs r members = rises_those xs (relates m l i) (targets_at m l) r members ∙ sym (incident_in m l i h)

module _ (m : Level) (sound : Sound m) where
  -- a number past the count of faces has nothing at its corners
  no_face : (g : ℕ → ℕ) (f : ℕ) → m.faces ≤ f → (x : ℕ) → face_has m g f x ≡ false
  no_face g f past x = fails (face_has m g f x) (λ t. let it = corner_of m g f x t in omega (arith, sound.faced it.0 it.1, it.2))

  pub incident_past : (l : Link) (i : ℕ) → sources_at m l ≤ i → incident m l i ≡ []
  incident_past EdgeEnds i h = cond-false (ltb i m.edges) (those (relates m EdgeEnds i) m.vertices) [] (le-ltb i m.edges h)
  incident_past EdgeFaces i h = cond-false (ltb i m.edges) (those (relates m EdgeFaces i) m.faces) [] (le-ltb i m.edges h)
  incident_past FaceVertices i h = those_none (relates m FaceVertices i) m.vertices (λ v l. no_face m.vertex i h v)
  incident_past FaceEdges i h = those_none (relates m FaceEdges i) m.edges (λ e l. no_face m.side i h e)
  incident_past VertexEdges i h = cond-false (ltb i m.vertices) (those (relates m VertexEdges i) m.edges) [] (le-ltb i m.vertices h)
  incident_past VertexFaces i h = cond-false (ltb i m.vertices) (those (relates m VertexFaces i) m.faces) [] (le-ltb i m.vertices h)

  -- few are related to number i
  pub relates_few : (l : Link) (i : ℕ) → i < sources_at m l → count (relates m l i) (targets_at m l) ≤ 8
  relates_few EdgeEnds e h =
      let one : (w : ℕ) → count (λ v. eqb w v) m.vertices ≤ 1 = λ w. count_most_one (λ v. eqb w v) m.vertices (λ i j l k s t. omega (arith, eqb-true w i s, eqb-true w j t)) in
      omega (arith, count_either (λ v. eqb (m.tail e) v) (λ v. eqb (m.head e) v) m.vertices, one (m.tail e), one (m.head e))
  relates_few EdgeFaces e h = omega (arith, count_faces m m.side e m.faces, sound.edge_corners e h)
  relates_few FaceVertices f h = omega (arith, count_in_face m m.vertex f m.vertices, sound.face_corners f h)
  relates_few FaceEdges f h = omega (arith, count_in_face m m.side f m.edges, sound.face_corners f h)
  relates_few VertexEdges v h = sound.vertex_edges v h
  relates_few VertexFaces v h = omega (arith, count_faces m m.vertex v m.faces, sound.vertex_corners v h)

  -- what holds of those and of none holds of what a relation gives
  incident_has : (P : List ℕ → Type 0) (l : Link) (i : ℕ) → (i < sources_at m l → P (those (relates m l i) (targets_at m l))) → P [] → P (incident m l i)
  incident_has P l i here past = ⊎_elim (λ (low : i < sources_at m l). rw (incident_in m l i low) (here low)) (λ (high : sources_at m l ≤ i). rw (incident_past l i high) past) (cases_lt i (sources_at m l))

  pub incident_rises : (l : Link) (i : ℕ) → Rises (incident m l i)
  incident_rises l i = incident_has Rises l i (λ _. those_rise (relates m l i) (targets_at m l)) tt

  pub incident_short : (l : Link) (i : ℕ) → length (incident m l i) ≤ 8
  incident_short l i = incident_has (λ xs. length xs ≤ 8) l i (λ h. omega (arith, length_those (relates m l i) (targets_at m l), relates_few l i h)) (omega arith)

  pub incident_below : (l : Link) (i : ℕ) → AllByRecursion (λ k. k < targets_at m l) (incident m l i)
  incident_below l i = incident_has (AllByRecursion (λ k. k < targets_at m l)) l i (λ _. those_below (relates m l i) (targets_at m l)) tt
