-- One more value read: a ninth of its class is passed over, and a part of it joins the parts of the others.
use Rattle.std.proofs.Common.{◌≡◌, ◌+◌, ◌<◌, ◌≤◌, ltb, List, [], ◌∷◌, ◌++◌, map, length, fold, sym, refl, ap, ◌∙◌, subst, inl, inr, arith}
use Rattle.std.proofs.lemmas.List.{append-nil, append_assoc, map_push, length-map, length_push}
use Rattle.std.proofs.lemmas.Bool.{cases_lt, cond-true, cond-false, lt-ltb, le-ltb}
use Rattle.schemes.specs.declared.steps.Class.{Class}
use Rattle.schemes.specs.declared.steps.Class.TheVariants.{Vertex, Edge, Face}
use Rattle.schemes.specs.Readings.{Reads, joined_by, more, parts}

pub joined_few : {V : Type 0} (vs : List V) (v : V) → length vs < 8 → joined_by vs v ≡ vs ++ v ∷ []
joined_few vs v h = cond-true (ltb (length vs) 8) (vs ++ v ∷ []) vs (lt-ltb (length vs) 8 h)

pub joined_full : {V : Type 0} (vs : List V) (v : V) → 8 ≤ length vs → joined_by vs v ≡ vs
joined_full vs v h = cond-false (ltb (length vs) 8) (vs ++ v ∷ []) vs (le-ltb (length vs) 8 h)

module _ {V W : Type 0} (f : V → W) where
  map_joined : (vs : List V) (v : V) → map f (joined_by vs v) ≡ joined_by (map f vs) (f v)
  map_joined vs v = elim (cases_lt (length vs) 8) [
    | inl l ↦ ap (map f) (joined_few vs v l) ∙ map_push f vs v ∙ sym (joined_few (map f vs) (f v) (subst (λ n. n < 8) (sym (length-map vs f)) l))
    | inr l ↦ ap (map f) (joined_full vs v l) ∙ sym (joined_full (map f vs) (f v) (subst (λ n. 8 ≤ n) (sym (length-map vs f)) l))
  ]

  pub parts_more : (c : Class) (v : V) (q : Reads V) → parts f (more c v q) ≡ more c (f v) (parts f q)
  parts_more Vertex v q = ap (λ vs. record { vertices = vs; edges = map f q.edges; faces = map f q.faces }) (map_joined q.vertices v)
  parts_more Edge v q = ap (λ vs. record { vertices = map f q.vertices; edges = vs; faces = map f q.faces }) (map_joined q.edges v)
  parts_more Face v q = ap (λ vs. record { vertices = map f q.vertices; edges = map f q.edges; faces = vs }) (map_joined q.faces v)

-- several values of one class in turn
module _ {V : Type 0} where
  pub all_joined : (vs ws : List V) → length vs + length ws ≤ 8 → fold joined_by vs ws ≡ vs ++ ws
  all_joined vs [] h = sym (append-nil vs)
  all_joined vs (w ∷ ws) h =
      ap (λ us. fold joined_by us ws) (joined_few vs w (omega arith))
      ∙ all_joined (vs ++ w ∷ []) ws (omega (arith, length_push vs w))
      ∙ append_assoc vs (w ∷ []) ws

  pub more_vertices : (q : Reads V) (ws : List V) → fold (λ r w. more Vertex w r) q ws ≡ record { vertices = fold joined_by q.vertices ws; edges = q.edges; faces = q.faces }
  more_vertices q [] = refl
  more_vertices q (w ∷ ws) = more_vertices (more Vertex w q) ws

  pub more_edges : (q : Reads V) (ws : List V) → fold (λ r w. more Edge w r) q ws ≡ record { vertices = q.vertices; edges = fold joined_by q.edges ws; faces = q.faces }
  more_edges q [] = refl
  more_edges q (w ∷ ws) = more_edges (more Edge w q) ws

  pub more_faces : (q : Reads V) (ws : List V) → fold (λ r w. more Face w r) q ws ≡ record { vertices = q.vertices; edges = q.edges; faces = fold joined_by q.faces ws }
  more_faces q [] = refl
  more_faces q (w ∷ ws) = more_faces (more Face w q) ws
