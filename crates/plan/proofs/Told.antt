-- A block that stands for a level and lists it tells the level's incidence, before it is settled. Assumes nothing.
use Rattle.std.proofs.Common.{◌≡◌, ℕ, ◌+◌, ◌*◌, ◌/◌, ◌<◌, ◌≤◌, min, max, Bool, true, false, cond, ◌&&◌, eqb, ltb, List, [], ◌∷◌, map, sym, refl, ap, ◌∙◌, ap₂, ⊎_elim, arith}
use native.Mathlib.Nat.{min-eq_left, min-eq_right, max-eq_left, max-eq_right}
use Rattle.std.specs.List.{range_with_len}
use Rattle.std.proofs.lemmas.Bool.{cases_lt, cond-true, cond-false, lt-ltb, le-ltb}
use Rattle.hierarchy.specs.declared.link.Link.{Link}
use Rattle.hierarchy.specs.declared.link.Link.TheVariants.{EdgeEnds, EdgeFaces, FaceVertices, FaceEdges, VertexEdges, VertexFaces}
use Rattle.levels.specs.Level.{Level}
use Rattle.levels.specs.Incidence.{those, incident}
use Rattle.levels.specs.Sound.{Sound}
use Rattle.levels.proofs.Lists.{sources_at, targets_at, relates, incident_in, incident_past}
use Rattle.plan.specs.declared.block.Block.{Block}
use Rattle.plan.specs.declared.block.Array.TheVariants.{Ends, Halves, Faces, Curves}
use Rattle.plan.specs.Decoded.{end_at}
use Rattle.plan.specs.Layout.{reads}
use Rattle.plan.specs.Plain.{Plain}
use Rattle.plan.specs.Told.{told, told_curve, told_dimension, ascending}
use Rattle.plan.specs.Written.{Counts, Shows, Lists, corners_by_vertex, corners_by_edge}
use Rattle.plan.proofs.Crossing.{group_run, ascending_those}
use Rattle.plan.proofs.Showing.{shown_vertex, shown_side}
use Rattle.plan.proofs.Telling.{faces_at, round_face, halves_at, edge_tail, edge_head}

within : {A : Type 0} (i n k : ℕ) (x y : A) → n ≡ k → i < k → cond (ltb i n) x y ≡ x
within i n k x y e l = cond-true (ltb i n) x y (lt-ltb i n (omega arith))

past : {A : Type 0} (i n k : ℕ) (x y : A) → n ≡ k → k ≤ i → cond (ltb i n) x y ≡ y
past i n k x y e l = cond-false (ltb i n) x y (le-ltb i n (omega arith))

ascends : (x y : ℕ) → ascending x y ≡ min x y ∷ max x y ∷ []
ascends x y =
    ⊎_elim
    (λ (low : x < y). cond-true (ltb x y) _ _ (lt-ltb x y low) ∙ sym (ap₂ (λ u v. u ∷ v ∷ []) (min-eq_left (omega arith)) (max-eq_right (omega arith))))
    (λ (high : y ≤ x). cond-false (ltb x y) _ _ (le-ltb x y high) ∙ sym (ap₂ (λ u v. u ∷ v ∷ []) (min-eq_right high) (max-eq_left high)))
    (cases_lt x y)

module _ (t : List ℕ) (b : Block) (m : Level) (shows : Shows t b m) (lists : Lists t b m) (sound : Sound m) (plain : Plain m) where
  abbrev n : Counts b m
  n = shows.counts

  told_in : (l : Link) (i : ℕ) → i < sources_at m l → told t b l i ≡ those (relates m l i) (targets_at m l)
  told_in EdgeEnds i h =
      within i b.edges m.edges _ _ n.edges h ∙ ap₂ ascending (edge_tail t b m shows lists sound plain i h) (edge_head t b m shows lists sound plain i h)
      ∙ ascends (m.tail i) (m.head i) ∙ ascending_those (m.tail i) (m.head i) m.vertices (sound.apart i h) (sound.tails i h) (sound.heads i h)
  told_in EdgeFaces i h =
      within i b.edges m.edges _ _ n.edges h ∙ ap (map (reads t b Faces)) (group_run _ _ m.side m.edges (range_with_len 0 m.corners) lists.edge_corners i h)
      ∙ faces_at t b m shows lists sound plain m.side plain.sides_once i
  told_in FaceVertices i h =
      within i b.faces m.faces _ _ n.faces h ∙ ap (map (λ c. reads t b Ends (reads t b Halves c))) (group_run _ _ m.face m.faces (corners_by_vertex m) lists.by_vertex i h)
      ∙ round_face t b m shows lists sound plain (λ c. reads t b Ends (reads t b Halves c)) m.vertex m.vertices (shown_vertex m sound t b shows) plain.vertices_once i
  told_in FaceEdges i h =
      within i b.faces m.faces _ _ n.faces h ∙ ap (map (λ c. reads t b Halves c / 2)) (group_run _ _ m.face m.faces (corners_by_edge m) lists.by_edge i h)
      ∙ round_face t b m shows lists sound plain (λ c. reads t b Halves c / 2) m.side m.edges (shown_side m sound t b shows) plain.sides_once i
  told_in VertexEdges i h =
      within i b.vertices m.vertices _ _ n.vertices h ∙ ap (map (λ k. k / 2)) (group_run _ _ (end_at m) m.vertices (range_with_len 0 (2 * m.edges)) lists.vertex_halves i h)
      ∙ halves_at t b m shows lists sound plain i
  told_in VertexFaces i h =
      within i b.vertices m.vertices _ _ n.vertices h ∙ ap (map (reads t b Faces)) (group_run _ _ m.vertex m.vertices (range_with_len 0 m.corners) lists.vertex_corners i h)
      ∙ faces_at t b m shows lists sound plain m.vertex plain.vertices_once i

  told_past : (l : Link) (i : ℕ) → sources_at m l ≤ i → told t b l i ≡ []
  told_past EdgeEnds i h = past i b.edges m.edges _ _ n.edges h
  told_past EdgeFaces i h = past i b.edges m.edges _ _ n.edges h
  told_past FaceVertices i h = past i b.faces m.faces _ _ n.faces h
  told_past FaceEdges i h = past i b.faces m.faces _ _ n.faces h
  told_past VertexEdges i h = past i b.vertices m.vertices _ _ n.vertices h
  told_past VertexFaces i h = past i b.vertices m.vertices _ _ n.vertices h

  pub told_incident : (l : Link) (i : ℕ) → told t b l i ≡ incident m l i
  told_incident l i = ⊎_elim (λ (h : i < sources_at m l). told_in l i h ∙ sym (incident_in m l i h)) (λ (h : sources_at m l ≤ i). told_past l i h ∙ sym (incident_past m sound l i h)) (cases_lt i (sources_at m l))

  pub told_curves : (e : ℕ) → told_curve t b e ≡ (ltb e m.edges && m.curve e)
  told_curves e =
      ⊎_elim
      (λ (h : e < m.edges). let s = shows.curves e h in let c = n.edges in
      ap₂ ◌&&◌ (lt-ltb e b.edges (omega arith)) (ap (λ x. eqb x 1) s ∙ marks (m.curve e)) ∙ sym (ap (λ x. x && m.curve e) (lt-ltb e m.edges h)))
      (λ (h : m.edges ≤ e). let c = n.edges in ap (λ x. x && eqb (reads t b Curves e) 1) (le-ltb e b.edges (omega arith)) ∙ sym (ap (λ x. x && m.curve e) (le-ltb e m.edges h)))
      (cases_lt e m.edges)
    where
      marks : (x : Bool) → eqb (cond x 1 0) 1 ≡ x
      marks true = refl
      marks false = refl

  pub told_dimensions : (v : ℕ) → told_dimension t b v ≡ cond (ltb v m.vertices) (m.dimension v) 0
  told_dimensions v =
      ⊎_elim
      (λ (h : v < m.vertices). within v b.vertices m.vertices _ _ n.vertices h ∙ shows.dimensions v h ∙ sym (within v m.vertices m.vertices _ _ refl h))
      (λ (h : m.vertices ≤ v). past v b.vertices m.vertices _ _ n.vertices h ∙ sym (past v m.vertices m.vertices _ _ refl h))
      (cases_lt v m.vertices)
