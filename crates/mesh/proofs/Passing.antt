-- No record of a shape that keeps the rules is refused. Assumes nothing.
use Rattle.std.proofs.Common.{◌≡◌, ℕ, ◌+◌, ◌<◌, ◌≤◌, Bool, true, false, ◌||◌, ltb, leb, List, [], ◌∷◌, ◌++◌, map, length, get_or, drop, sym, refl, ap, ◌∙◌, subst, arith}
use Rattle.std.proofs.ByRecursion.{All-from_get_or, All-get_or}
use Rattle.std.proofs.lemmas.List.{append_assoc, length-append, length_push, drop_all, drop_more}
use Rattle.std.proofs.lemmas.Bool.{le-ltb, lt-leb, ne_eqb, or_from, not_from_true}
use Rattle.std.specs.List.{AllByRecursion}
use Rattle.mesh.specs.declared.Side.{Side}
use Rattle.mesh.specs.Shape.{nowhere, around, sides, firsts, edges, uses, marked, occurs}
use Rattle.mesh.specs.Rules.{Polygon}
use Rattle.mesh.specs.Records.{vertex, face, curve}
use Rattle.mesh.proofs.Lists.{any_none, all_parts}
use Rattle.mesh.proofs.Occurs.{occurs_push}
use Rattle.mesh.proofs.Edges.{count_own, firsts_itself, firsts_longer}
use Rattle.mesh.proofs.Faces.{sides_append, uses_append, uses_cons, Ends}
use Rattle.mesh.proofs.Drafts.{Passed, Passes}

pub passes_vertices : (before dims : List ℕ) → length before + length dims ≤ 256 → AllByRecursion (λ d. d ≤ 2) dims → Passes (record { dims = before; faces = []; named = [] }) (map vertex dims)
passes_vertices before [] few all = tt
passes_vertices before (x ∷ dims) few all = (
  tt,
  λ stop go. refl,
  record { in_order = refl; good_vertex = le-ltb 2 x all.0; good_curve = refl; room_at_edges = refl; few = lt-leb 256 (length before) (omega arith) },
  passes_vertices (before ++ x ∷ []) dims (omega (arith, length_push before x)) all.1,
)

-- what the rules say of all faces together
pub record Bounded (faces : List (List ℕ)) : Type 0 where
  pub most_faces : length faces ≤ 256
  pub most_edges : length (edges faces) ≤ 512
  pub shared : AllByRecursion (λ s. uses faces s ≤ 2) (sides faces)

module _ (before after : List (List ℕ)) (cs : List ℕ) (b : Bounded (before ++ cs ∷ after)) where
  -- a face that comes next has sides with one face at most before it
  one_face : AllByRecursion (λ s. leb 2 (uses before s) ≡ false) (around cs)
  one_face =
      let Shared : Side → Type 0 = λ s. uses (before ++ cs ∷ after) s ≤ 2 in
      let from-here = (all_parts Shared (sides before) (around cs ++ sides after) (subst (AllByRecursion Shared) (sides_append before (cs ∷ after)) b.shared)).1 in
      let here = (all_parts Shared (around cs) (sides after) from-here).0 in
      All-from_get_or (λ s. leb 2 (uses before s) ≡ false) (around cs) nowhere (λ i l.
      let s = get_or (around cs) i nowhere in
      let most : uses (before ++ cs ∷ after) s ≤ 2 = All-get_or Shared (around cs) i nowhere l here in
      lt-leb 2 (uses before s) (omega (arith, count_own (around cs) i l, uses_append before (cs ∷ after) s, uses_cons cs after s)))

  few_so_far : (leb 256 (length before) || ltb 512 (length (edges (before ++ cs ∷ [])))) ≡ false
  few_so_far =
      let whole : (before ++ cs ∷ []) ++ after ≡ before ++ cs ∷ after = append_assoc before (cs ∷ []) after in
      let edges-grow = firsts_longer (sides (before ++ cs ∷ [])) (sides after) in
      let same : length (edges (before ++ cs ∷ after)) ≡ length (firsts (sides (before ++ cs ∷ []) ++ sides after)) = ap (λ fs. length (edges fs)) (sym whole) ∙ ap (λ ss. length (firsts ss)) (sides_append (before ++ cs ∷ []) after) in
      or_from (leb 256 (length before)) (ltb 512 (length (edges (before ++ cs ∷ []))))
      (lt-leb 256 (length before) (omega (arith, b.most_faces, length-append before (cs ∷ after))))
      (le-ltb 512 (length (edges (before ++ cs ∷ []))) (omega (arith, b.most_edges)))

pub passes_faces : (dims : List ℕ) (before faces : List (List ℕ)) → AllByRecursion (Polygon (length dims)) faces → Bounded (before ++ faces) → Passes (record { dims = dims; faces = before; named = [] }) (map face faces)
passes_faces dims before [] polygons b = tt
passes_faces dims before (cs ∷ faces) polygons b = (
  (polygons.0.least, polygons.0.most),
  λ stop go. refl,
  record { in_order = refl; good_vertex = not_from_true _ polygons.0.proper; good_curve = refl; room_at_edges = any_none _ (around cs) (one_face before faces cs b); few = few_so_far before faces cs b },
  passes_faces dims (before ++ cs ∷ []) faces polygons.1 (rw append_assoc b),
)

module _ (faces : List (List ℕ)) where
  passed_curve : (dims named : List ℕ) → AllByRecursion (Ends (length dims)) (edges faces) → (i : ℕ) → i < length (edges faces) → occurs i named ≡ false → Passed (record { dims = dims; faces = faces; named = named }) (curve (get_or (edges faces) i nowhere))
  passed_curve dims named ends i l new =
      record {
        in_order = refl;
        good_vertex = not_from_true _ (All-get_or (Ends (length dims)) (edges faces) i nowhere l ends);
        good_curve = rw (firsts_itself (sides faces) i l) new;
        room_at_edges = refl;
        few = refl;
      }

  -- the records of the edges from k on, where those before k are named
  pub passes_curves : (dims : List ℕ) → AllByRecursion (Ends (length dims)) (edges faces) → (ms : List Bool) (k : ℕ) (named : List ℕ) → k + length ms ≡ length (edges faces) → ((i : ℕ) → k ≤ i → occurs i named ≡ false) → Passes (record { dims = dims; faces = faces; named = named }) (map curve (marked (drop k (edges faces)) ms))
  passes_curves dims ends [] k named p new = rw (drop_all k (edges faces) (omega arith)) tt
  passes_curves dims ends (true ∷ ms) k named p new =
      rw (drop_more (edges faces) k nowhere (omega arith)) (
        tt,
        λ stop go. refl,
        passed_curve dims named ends k (omega arith) (new k (omega arith)),
        rw (firsts_itself (sides faces) k (omega arith)) (passes_curves dims ends ms (k + 1) (named ++ k ∷ []) (omega arith) (λ i l. occurs_push i k named (new i (omega arith)) (ne_eqb k i (omega arith)))),
      )
  passes_curves dims ends (false ∷ ms) k named p new = rw (drop_more (edges faces) k nowhere (omega arith)) (passes_curves dims ends ms (k + 1) named (omega arith) (λ i l. new i (omega arith)))
