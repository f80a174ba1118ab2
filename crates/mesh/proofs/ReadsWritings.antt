-- What is read keeps the rules, and is the writing of what is read. Assumes nothing.
use Rattle.std.proofs.Common.{◌≡◌, ℕ, ◌<◌, Bool, true, false, not, eqb, ltb, List, [], ◌∷◌, ◌++◌, map, length, get_or, is_some, Some, None, Ok, count_by, Option, sym, refl, ap, ◌∙◌, subst, arith}
use Rattle.std.proofs.lemmas.List.FromFn.{length-map-range_with_len, get_or-map-range_with_len}
use Rattle.std.proofs.ByRecursion.{All-get_or, All-from_get_or}
use Rattle.std.proofs.lemmas.List.{get_or-map, length-map}
use Rattle.std.proofs.lemmas.Bool.{ltb-false, eq-eqb, or_parts, not-false}
use Rattle.refusal.specs.declared.Refusal.{Refusal}
use Rattle.refusal.specs.declared.Refusal.TheVariants.{OpenEdge, BadValence, BadDimension}
use Rattle.mesh.specs.declared.Side.{Side}
use Rattle.mesh.specs.Lowest.{lowest}
use Rattle.mesh.specs.Shape.{Shape, nowhere, sides, edges, edge_of, uses, degree, joins, occurs, corners, curve_edges}
use Rattle.mesh.specs.Rules.{Rules, fits}
use Rattle.mesh.specs.Records.{bytes_of, end}
use Rattle.mesh.specs.Reading.{Draft, blank, empty, finished, open_edge, bad_valence, bad_dimension, at, trailing, checked, records, reading}
use Rattle.mesh.specs.Laws.{Writing, ReadsWritings}
use Rattle.mesh.proofs.Lists.{some_from_empty, any_here}
use Rattle.mesh.proofs.Occurs.{count_present}
use Rattle.mesh.proofs.Results.{then_ok, unless_ok}
use Rattle.mesh.proofs.Lowests.{lowest_missing}
use Rattle.mesh.proofs.Edges.{number, number_first, known_from, firsts_apart, firsts_used, count_number}
use Rattle.mesh.proofs.Marks.{all_marked, marked_at}
use Rattle.mesh.proofs.Kept.{Good, records_ended, blank_good}

-- no row that waits for the end refuses the shape
record Sound (s : Shape) : Type 0 where
  closed : (e : ℕ) → e < length (edges s.faces) → open_edge s e ≡ false
  valence : (v : ℕ) → v < length s.dims → bad_valence s v ≡ false
  fitting : (v : ℕ) → v < length s.dims → bad_dimension s v ≡ false

sound : (s t : Shape) → checked s ≡ Ok t → Sound s × (s ≡ t)
sound s t e =
    let a = unless_ok (at OpenEdge (lowest (open_edge s) (length (edges s.faces)))) _ t e in
    let b = unless_ok (at BadValence (lowest (bad_valence s) (length s.dims))) _ t a.1 in
    let c = unless_ok (at BadDimension (lowest (bad_dimension s) (length s.dims))) (Ok s) t b.1 in (
      record {
        closed = lowest_missing (open_edge s) (length (edges s.faces)) (nowhere_at OpenEdge _ a.0);
        valence = lowest_missing (bad_valence s) (length s.dims) (nowhere_at BadValence _ b.0);
        fitting = lowest_missing (bad_dimension s) (length s.dims) (nowhere_at BadDimension _ c.0);
      },
      cc c.1,
    )
  where
    nowhere_at : (f : ℕ → Refusal) (o : Option ℕ) → at f o ≡ None → o ≡ None
    nowhere_at f None e' = refl
    nowhere_at f (Some k) e' = absurd (grind arith)

none_trails : (total : ℕ) (bs : List ℕ) → trailing total bs ≡ None → bs ≡ []
none_trails total [] e = refl
none_trails total (b ∷ bs) e = absurd (grind arith)

abbrev es : Draft → List Side
es d = edges d.faces

abbrev marks : Draft → List Bool
marks d = (finished d).curves

-- an edge is marked if a curve record named it
mark_at : (d : Draft) (k : ℕ) → k < length (es d) → get_or (marks d) k false ≡ occurs k d.named
mark_at d k l = get_or-map-range_with_len (λ e. occurs e d.named) 0 (length (es d)) k k false l (omega arith)

module _ (bytes : List ℕ) (d : Draft) (g : Good bytes d (bytes_of end)) where
  keeps_rules : Sound (finished d) → empty d.faces ≡ false → Rules (finished d)
  keeps_rules s some =
      record {
        some_face = some_from_empty d.faces some;
        most_vertices = g.most_vertices;
        most_faces = g.most_faces;
        most_edges = g.most_edges;
        dimensions = g.dimensions;
        polygons = g.polygons;
        marks = length-map-range_with_len (λ e. occurs e d.named) 0 (length (es d));
        shared = λ e l. (firsts_used (sides d.faces) e l, g.two_faces (get_or (es d) e nowhere));
        rim = λ e l one. not-false (get_or (marks d) e false) (rw (eq-eqb (uses d.faces (get_or (es d) e nowhere)) 1 one) at (s.closed e l));
        in_face = λ v l. not-false (occurs v (corners d.faces)) (or_parts (not (occurs v (corners d.faces))) (ltb 8 (degree (es d) v)) (s.valence v l)).0;
        valence = λ v l. ltb-false 8 (degree (es d) v) (or_parts (not (occurs v (corners d.faces))) (ltb 8 (degree (es d) v)) (s.valence v l)).1;
        fitting = λ v l. not-false (fits (get_or d.dims v 0) (degree (curve_edges (finished d)) v)) (s.fitting v l);
      }

  -- the edge that curve record i names is marked
  names_marked : (i : ℕ) → i < length g.curves → occurs (number (es d) (get_or g.curves i nowhere)) d.named ≡ true
  names_marked i l =
      let numbers = map (number (es d)) g.curves in
      let there = any_here (λ n. eqb n (get_or numbers i 0)) numbers i 0 (rw (length-map g.curves (number (es d))) l) (eq-eqb (get_or numbers i 0) (get_or numbers i 0) refl) in
      rw (g.named, ← get_or-map (number (es d)) g.curves i nowhere 0 l) there

  is_writing : Writing (finished d) bytes
  is_writing =
      record {
        curves = g.curves;
        spelled = g.spelled;
        curves_only =
            All-from_get_or (λ c. is_some (edge_of (curve_edges (finished d)) c) ≡ true) g.curves nowhere
            (λ i l.
            let c = get_or g.curves i nowhere in
            let it = number_first (es d) c (All-get_or (λ c'. is_some (edge_of (es d) c') ≡ true) g.curves i nowhere l g.known) in
            let m = marked_at (es d) (marks d) (number (es d) c) it.0 (mark_at d (number (es d) c) it.0 ∙ names_marked i l) in
            known_from (curve_edges (finished d)) c m.0 m.1 (ap (λ t. joins t c) m.2 ∙ it.1));
        each_once =
            all_marked (λ e. count_by (joins e) g.curves ≡ 1) (es d) (marks d)
            (λ k l t.
            count_number (es d) (firsts_apart (sides d.faces)) k l g.curves g.known
            ∙ (ap (count_by (λ n. eqb n k)) (sym g.named) ∙ count_present k d.named g.once (sym (mark_at d k l) ∙ t)));
      }

pub reads_writings : ReadsWritings
unfolding reading
reads_writings bytes s e =
    let t = then_ok (records (length bytes) 0 blank bytes) _ s e in
    let d = t.0.0 in
    let u = unless_ok (trailing (length bytes) t.0.1) (checked (finished d)) s t.2 in
    let ended = records_ended bytes (length bytes) 0 blank bytes t.0 (blank_good bytes) t.1 in
    let g = subst (λ rest. Good bytes d (bytes_of end ++ rest)) (none_trails (length bytes) t.0.1 u.0) ended.0 in
    let so = sound (finished d) s u.1 in
    subst (λ r. Rules r × Writing r bytes) so.1 (keeps_rules bytes d g so.0 ended.1, is_writing bytes d g)
