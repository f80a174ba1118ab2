-- Along a curve no face is listed, every edge is a curve, and vertices keep the dimension of the coarsest level. Assumes nothing.
use Rattle.std.proofs.Common.{◌≡◌, ℕ, zero, suc, ◌+◌, ◌-◌, ◌*◌, ◌/◌, ◌<◌, ◌≤◌, Bool, true, false, cond, not, ◌&&◌, ◌||◌, eqb, ltb, leb, ◌⊎◌, [], sym, refl, ap, ◌∙◌, ⊎_elim, arith}
use Rattle.std.proofs.lemmas.Bool.{cases_lt, cond-true, cond-false, lt-ltb, le-ltb, and_from, and_right, or_from, ne_eqb}
use Rattle.std.specs.List.{range_with_len}
use Rattle.mesh.specs.Shape.{any}
use Rattle.hierarchy.specs.declared.link.Link.{Link}
use Rattle.hierarchy.specs.declared.link.Link.TheVariants.{EdgeFaces, FaceVertices, FaceEdges, VertexFaces}
use Rattle.levels.specs.Level.{Level}
use Rattle.levels.specs.Finer.{level}
use Rattle.levels.specs.Curves.{curve_level}
use Rattle.levels.specs.Incidence.{those, has_edge, has_vertex, incident, hierarchy}
use Rattle.levels.proofs.CurveCounts.{corners_none, faces_none}
use Rattle.levels.proofs.Rising.{those_none}
use Rattle.curve.proofs.Births.{vertices_rise}

cond_same : {A : Type 0} (b : Bool) (x y : A) → x ≡ y → cond b x y ≡ y
cond_same true x y e = e
cond_same false x y e = refl

module _ (closed : Bool) (n : ℕ) where
  abbrev m : Level
  m = curve_level closed n

  abbrev at : ℕ → Level
  at j = level m j

  edge_faces : (j e : ℕ) → incident (at j) EdgeFaces e ≡ []
  edge_faces j e = let here = at j in cond_same (ltb e here.edges) (those (λ f. has_edge here f e) here.faces) [] (ap (those (λ f. has_edge here f e)) (faces_none closed n j))

  vertex_faces : (j v : ℕ) → incident (at j) VertexFaces v ≡ []
  vertex_faces j v = let here = at j in cond_same (ltb v here.vertices) (those (λ f. has_vertex here f v) here.faces) [] (ap (those (λ f. has_vertex here f v)) (faces_none closed n j))

  no_corner : (j : ℕ) (p : ℕ → Bool) → any p (range_with_len 0 (at j).corners) ≡ false
  no_corner j p = ap (λ k. any p (range_with_len 0 k)) (corners_none closed n j)

  face_vertices : (j f : ℕ) → incident (at j) FaceVertices f ≡ []
  face_vertices j f = let here = at j in those_none (λ v. has_vertex here f v) here.vertices (λ v l. no_corner j (λ c. eqb (here.face c) f && eqb (here.vertex c) v))

  face_edges : (j f : ℕ) → incident (at j) FaceEdges f ≡ []
  face_edges j f = let here = at j in those_none (λ e. has_edge here f e) here.edges (λ e l. no_corner j (λ c. eqb (here.face c) f && eqb (here.side c) e))

  curve_at : (j e : ℕ) → e < (at j).edges → (at j).curve e ≡ true
  unfolding level
  curve_at zero e l = refl
  curve_at (suc j) e l =
      let half : e < 2 * (at j).edges = omega (arith, corners_none closed n j, l) in
      cond-true (ltb e (2 * (at j).edges)) _ _ (lt-ltb e (2 * (at j).edges) half)
      ∙ curve_at j (e / 2) (omega arith)

  -- no vertex of an edge is an end
  inner : (v : ℕ) → 1 ≤ n → n ≤ v → m.dimension v ≡ 1
  inner v some late = cond-false (not closed && (eqb v 0 || eqb (v + 1) n)) 0 1 (and_right (not closed) (eqb v 0 || eqb (v + 1) n) (or_from (eqb v 0) (eqb (v + 1) n) (ne_eqb v 0 (omega arith)) (ne_eqb (v + 1) n (omega arith))))

  dimension_at : 1 ≤ n → (j v : ℕ) → v < (at j).vertices → (at j).dimension v ≡ m.dimension v
  unfolding level
  dimension_at some zero v l = refl
  dimension_at some (suc j) v l =
      let here = at j in
      ⊎_elim
      (λ (h : v < here.vertices). cond-true (ltb v here.vertices) _ _ (lt-ltb v here.vertices h) ∙ dimension_at some j v h)
      (λ (h : here.vertices ≤ v).
      let edge : v < here.vertices + here.edges = omega (arith, faces_none closed n j, l) in
      cond-false (ltb v here.vertices) _ _ (le-ltb v here.vertices h)
      ∙ cond-true (ltb v (here.vertices + here.edges)) _ _ (lt-ltb v (here.vertices + here.edges) edge)
      ∙ cond-true (here.curve (v - here.vertices)) 1 2 (curve_at j (v - here.vertices) (omega arith))
      ∙ sym (inner v some (omega (arith, vertices_rise closed n 0 j (omega arith)))))
      (cases_lt v here.vertices)

  -- ---- as the hierarchy has them

  pub no_faces : (levels j : ℕ) → 0 ≡ (hierarchy m levels).faces j
  no_faces levels j = sym (cond_same (leb j levels) (at j).faces 0 (faces_none closed n j))

  pub no_face_listed : (levels j : ℕ) (l : Link) (i : ℕ) → (l ≡ EdgeFaces) ⊎ ((l ≡ FaceVertices) ⊎ ((l ≡ FaceEdges) ⊎ (l ≡ VertexFaces))) → [] ≡ (hierarchy m levels).list j l i
  no_face_listed levels j l i which =
      let here = at j in
      sym (cond_same (ltb j levels) (incident here l i) []
      (⊎_elim (λ e. ap (λ k. incident here k i) e ∙ edge_faces j i)
      (⊎_elim (λ e. ap (λ k. incident here k i) e ∙ face_vertices j i)
      (⊎_elim (λ e. ap (λ k. incident here k i) e ∙ face_edges j i) (λ e. ap (λ k. incident here k i) e ∙ vertex_faces j i)))
      which))

  pub marked : (levels j e : ℕ) → j < levels → ltb e (at j).edges ≡ (hierarchy m levels).curve j e
  marked levels j e l =
      let here = at j in
      ⊎_elim
      (λ (h : e < here.edges). lt-ltb e here.edges h ∙ sym (cond-true (ltb j levels && ltb e here.edges) (here.curve e) false (and_from (ltb j levels) (ltb e here.edges) (lt-ltb j levels l) (lt-ltb e here.edges h)) ∙ curve_at j e h))
      (λ (h : here.edges ≤ e). le-ltb e here.edges h ∙ sym (cond-false (ltb j levels && ltb e here.edges) (here.curve e) false (and_right (ltb j levels) (ltb e here.edges) (le-ltb e here.edges h))))
      (cases_lt e here.edges)

  pub dimensioned : (levels j v : ℕ) → 1 ≤ n → j < levels → v < (at j).vertices → m.dimension v ≡ (hierarchy m levels).dimension j v
  dimensioned levels j v some l h =
      let here = at j in
      sym (cond-true (ltb j levels && ltb v here.vertices) (here.dimension v) 0 (and_from (ltb j levels) (ltb v here.vertices) (lt-ltb j levels l) (lt-ltb v here.vertices h)) ∙ dimension_at some j v h)
