-- What touches what along a curve: an edge the vertices at its two positions, a vertex the edges before and after its position. Assumes nothing.
use Rattle.std.proofs.Common.{◌≡◌, ℕ, ◌+◌, ◌-◌, ◌<◌, ◌≤◌, Bool, true, false, cond, ◌||◌, eqb, ltb, [], ◌∷◌, sym, refl, ap, ◌∙◌, subst, ap₂, ⊎_elim, arith}
use Rattle.std.proofs.lemmas.Bool.{cases_lt, cond-true, lt-ltb}
use Rattle.std.proofs.lemmas.Bool.Decides.{nat_tests, same_from_decides, Decides-eqb, Decides-like}
use Rattle.hierarchy.specs.declared.link.Link.TheVariants.{EdgeEnds, VertexEdges}
use Rattle.levels.specs.Level.{Level}
use Rattle.levels.specs.Finer.{level}
use Rattle.levels.specs.Curves.{curve_level}
use Rattle.levels.specs.Incidence.{those, touches, incident}
use Rattle.levels.proofs.CurveCounts.{edges_some, vertices_edges, two_points}
use Rattle.levels.proofs.Rising.{rises_those, those_alike}
use Rattle.curve.specs.Positions.{number_at, position_of, after}
use Rattle.curve.proofs.Places.{number_below, position_below, position_number, number_position, tail_at, head_at}

-- ---- lists of two and of one

-- a number that is one of two
abbrev either : ℕ → ℕ → ℕ → Bool
either a b v = eqb a v || eqb b v

those_either : (a b n : ℕ) → a < b → b < n → a ∷ b ∷ [] ≡ those (either a b) n
those_either a b n l m = rises_those (a ∷ b ∷ []) (either a b) n (l, tt) (λ i. grind (arith, nat_tests))

those_turned : (a b n : ℕ) → a < b → b < n → a ∷ b ∷ [] ≡ those (either b a) n
those_turned a b n l m = rises_those (a ∷ b ∷ []) (either b a) n (l, tt) (λ i. grind (arith, nat_tests))

-- an edge touches a position if it begins or ends there
abbrev pub meets : Bool → ℕ → ℕ → ℕ → Bool
meets closed edges p e = eqb e p || eqb (after closed edges e) p

pub meets_seam : (edges : ℕ) → 2 ≤ edges → 0 ∷ (edges - 1) ∷ [] ≡ those (meets true edges 0) edges
meets_seam edges l = rises_those (0 ∷ (edges - 1) ∷ []) (meets true edges 0) edges (omega arith, tt) (λ i. grind (arith, nat_tests))

pub meets_first : (edges : ℕ) → 1 ≤ edges → 0 ∷ [] ≡ those (meets false edges 0) edges
meets_first edges l = rises_those (0 ∷ []) (meets false edges 0) edges tt (λ i. grind (arith, nat_tests))

pub meets_last : (edges : ℕ) → 1 ≤ edges → (edges - 1) ∷ [] ≡ those (meets false edges edges) edges
meets_last edges l = rises_those ((edges - 1) ∷ []) (meets false edges edges) edges tt (λ i. grind (arith, nat_tests))

pub meets_inner : (closed : Bool) (edges p : ℕ) → 1 ≤ p → p < edges → (p - 1) ∷ p ∷ [] ≡ those (meets closed edges p) edges
meets_inner true edges p l m = rises_those ((p - 1) ∷ p ∷ []) (meets true edges p) edges (omega arith, tt) (λ i. grind (arith, nat_tests))
meets_inner false edges p l m = rises_those ((p - 1) ∷ p ∷ []) (meets false edges p) edges (omega arith, tt) (λ i. grind (arith, nat_tests))

apart : (closed : Bool) (edges e : ℕ) → cond closed 2 1 ≤ edges → e < edges → e ≡ after closed edges e → ⊥
apart true edges e l m same = grind (arith, nat_tests)
apart false edges e l m same = omega arith

-- only an open curve has a position past its last edge
past : (closed : Bool) (edges p : ℕ) → cond closed 2 1 ≤ edges → p < edges + cond closed 0 1 → edges - 1 < p → (closed ≡ false) × (p ≡ edges)
past true edges p some low late = absurd (omega arith)
past false edges p some low late = (refl, omega arith)

-- ---- at the levels of a curve

module _ (closed : Bool) (n : ℕ) (enough : cond closed 3 2 ≤ n) where
  abbrev m : Level
  m = curve_level closed n

  abbrev at : ℕ → Level
  at j = level m j

  some : 1 ≤ n
  some = omega (arith, two_points closed n enough)

  -- the vertex at a position is v where that is the position of v
  number_is : (j q v : ℕ) → q < (at j).vertices → v < (at j).vertices → eqb (number_at m j q) v ≡ eqb q (position_of m j v)
  number_is j q v l h =
      same_from_decides _ _
      (Decides-like (eqb (number_at m j q) v) (λ e. sym (position_number closed n some j q l) ∙ ap (position_of m j) e) (λ e. ap (number_at m j) e ∙ number_position closed n some j v h) (Decides-eqb (number_at m j q) v))
      (Decides-eqb q (position_of m j v))

  pub after_below : (j e : ℕ) → e < (at j).edges → after closed (at j).edges e < (at j).vertices
  after_below j e l =
      let edges = (at j).edges in
      let count = vertices_edges closed n j some in
      subst (λ (k : ℕ). after closed edges e < k) (sym count)
      (elim closed as (λ c. after c edges e < edges + cond c 0 1) [ true ↦ grind (arith, nat_tests) | false ↦ omega arith ])

  -- an edge runs between two positions
  pub after_apart : (j e : ℕ) → e < (at j).edges → e ≡ after closed (at j).edges e → ⊥
  after_apart j e l same = apart closed (at j).edges e (edges_some closed n j enough) l same

  touches_at : (j e v : ℕ) → e < (at j).edges → v < (at j).vertices → touches (at j) e v ≡ meets closed (at j).edges (position_of m j v) e
  touches_at j e v l h =
      let below : e < (at j).vertices = omega (arith, vertices_edges closed n j some) in
      ap₂ ◌||◌
      (ap (λ k. eqb k v) (tail_at closed n some j e l) ∙ number_is j e v below h)
      (ap (λ k. eqb k v) (head_at closed n some j e l) ∙ number_is j (after closed (at j).edges e) v (after_below j e l) h)

  -- the edges of a vertex
  module _ (j v : ℕ) (there : v < (at j).vertices) where
    vertex_edges : those (meets closed (at j).edges (position_of m j v)) (at j).edges ≡ incident (at j) VertexEdges v
    vertex_edges =
        let here = at j in
        sym (cond-true (ltb v here.vertices) _ _ (lt-ltb v here.vertices there) ∙ those_alike (λ e. touches here e v) (meets closed here.edges (position_of m j v)) here.edges (λ e l. touches_at j e v l there))

    at_position : (c : Bool) (p : ℕ) → closed ≡ c → position_of m j v ≡ p → those (meets c (at j).edges p) (at j).edges ≡ incident (at j) VertexEdges v
    at_position c p is here = ap₂ (λ (d : Bool) (q : ℕ). those (meets d (at j).edges q) (at j).edges) (sym is) (sym here) ∙ vertex_edges

    -- the seam of a closed curve, the two ends of an open one, and everywhere else
    pub edges_at_seam : closed ≡ true → position_of m j v ≡ 0 → 0 ∷ ((at j).edges - 1) ∷ [] ≡ incident (at j) VertexEdges v
    edges_at_seam is here = meets_seam (at j).edges (subst (λ c. cond c 2 1 ≤ (at j).edges) is (edges_some closed n j enough)) ∙ at_position true 0 is here

    pub edges_at_first : closed ≡ false → position_of m j v ≡ 0 → 0 ∷ [] ≡ incident (at j) VertexEdges v
    edges_at_first is here = meets_first (at j).edges (subst (λ c. cond c 2 1 ≤ (at j).edges) is (edges_some closed n j enough)) ∙ at_position false 0 is here

    pub edges_at_last : (at j).edges - 1 < position_of m j v → ((at j).edges - 1) ∷ [] ≡ incident (at j) VertexEdges v
    edges_at_last late =
        let last = past closed (at j).edges (position_of m j v) (edges_some closed n j enough) (omega (arith, position_below closed n some j v there, vertices_edges closed n j some)) (omega arith) in
        meets_last (at j).edges (omega arith) ∙ at_position false (at j).edges last.0 last.1

    pub edges_at_inner : 1 ≤ position_of m j v → position_of m j v ≤ (at j).edges - 1 → (position_of m j v - 1) ∷ position_of m j v ∷ [] ≡ incident (at j) VertexEdges v
    edges_at_inner low high = meets_inner closed (at j).edges (position_of m j v) low (omega arith) ∙ vertex_edges

  -- the ends of an edge
  module _ (j e t h : ℕ) (l : e < (at j).edges) (t-is : t ≡ number_at m j e) (h-is : h ≡ number_at m j (after closed (at j).edges e)) where
    edge_ends : incident (at j) EdgeEnds e ≡ those (either t h) (at j).vertices
    edge_ends =
        cond-true (ltb e (at j).edges) _ _ (lt-ltb e (at j).edges l)
        ∙ ap₂ (λ (a b : ℕ). those (either a b) (at j).vertices) (tail_at closed n some j e l ∙ sym t-is) (head_at closed n some j e l ∙ sym h-is)

    tail_below : t < (at j).vertices
    tail_below = omega (arith, t-is, number_below closed n some j e (omega (arith, vertices_edges closed n j some)))

    head_below : h < (at j).vertices
    head_below = omega (arith, h-is, number_below closed n some j (after closed (at j).edges e) (after_below j e l))

    ends_apart : t ≡ h → ⊥
    ends_apart same =
        let next : ℕ = after closed (at j).edges e in
        after_apart j e l (sym (position_number closed n some j e (omega (arith, vertices_edges closed n j some))) ∙ ap (position_of m j) (sym t-is ∙ same ∙ h-is) ∙ position_number closed n some j next (after_below j e l))

    pub ends_rising : t < h → t ∷ h ∷ [] ≡ incident (at j) EdgeEnds e
    ends_rising r = those_either t h (at j).vertices r head_below ∙ sym edge_ends

    pub ends_falling : h ≤ t → h ∷ t ∷ [] ≡ incident (at j) EdgeEnds e
    ends_falling r = those_turned h t (at j).vertices (⊎_elim (λ (f : h < t). f) (λ (f : t ≤ h). absurd (ends_apart (omega arith))) (cases_lt h t)) tail_below ∙ sym edge_ends
