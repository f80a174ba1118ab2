-- What the records keep, from the first to the end record. Assumes nothing.
use Rattle.std.proofs.Common.{◌≡◌, ℕ, zero, suc, ◌+◌, ◌≤◌, true, false, not, ltb, leb, List, [], ◌∷◌, ◌++◌, map, length, is_some, Ok, Result, sym, refl, ap, ◌∙◌, subst, arith}
use Rattle.std.proofs.ByRecursion.{All-push}
use Rattle.std.proofs.lemmas.List.{length_push, length-map, map_push, nil_from_length}
use Rattle.std.proofs.lemmas.Bool.{ltb-false, leb-false, and_parts, or_parts, not-false}
use Rattle.std.specs.List.{flat_map, AllByRecursion}
use Rattle.refusal.specs.declared.Refusal.{Refusal}
use Rattle.mesh.specs.declared.Side.{Side}
use Rattle.mesh.specs.Shape.{firsts, edges, edge_of, uses, occurs}
use Rattle.mesh.specs.Rules.{Polygon, distinct, all_below, proper}
use Rattle.mesh.specs.Records.{Record, vertex, face, curve, end, bytes_of, next}
use Rattle.mesh.specs.Reading.{Draft, blank, empty, judged, added, onto, records}
use Rattle.mesh.proofs.Lists.{nil_from_empty, joined_on}
use Rattle.mesh.proofs.Occurs.{distinct_push}
use Rattle.mesh.proofs.Results.{then_ok, unless_ok}
use Rattle.mesh.proofs.Edges.{number}
use Rattle.mesh.proofs.Faces.{uses_kept}
use Rattle.mesh.proofs.Bytes.{Sized}
use Rattle.mesh.proofs.Drafts.{Passed, passed_from_none}
use Rattle.mesh.proofs.Spelled.{next_spelled}

-- the draft d was read from the front of whole, and bs is left
pub record Good (whole : List ℕ) (d : Draft) (bs : List ℕ) : Type 0 where
  -- the curve records as they stood
  pub curves : List Side
  pub spelled : whole ≡ flat_map (λ x. bytes_of (vertex x)) d.dims ++ (flat_map (λ f. bytes_of (face f)) d.faces ++ (flat_map (λ c. bytes_of (curve c)) curves ++ bs))
  pub dimensions : AllByRecursion (λ x. x ≤ 2) d.dims
  pub most_vertices : length d.dims ≤ 256
  pub polygons : AllByRecursion (Polygon (length d.dims)) d.faces
  pub most_faces : length d.faces ≤ 256
  pub most_edges : length (edges d.faces) ≤ 512
  pub two_faces : (t : Side) → uses d.faces t ≤ 2
  pub named : d.named ≡ map (number (edges d.faces)) curves
  pub known : AllByRecursion (λ c. is_some (edge_of (edges d.faces) c) ≡ true) curves
  pub once : distinct d.named ≡ true

module _ (whole : List ℕ) (d : Draft) (bs : List ℕ) where
  no_curves : (rest : List ℕ) (g : Good whole d rest) → d.named ≡ [] → g.curves ≡ []
  no_curves rest g none = nil_from_length g.curves (sym (length-map g.curves (number (edges d.faces))) ∙ (ap length (sym g.named) ∙ ap length none))

  vertex_kept : (dim : ℕ) → Good whole d (bytes_of (vertex dim) ++ bs) → Passed d (vertex dim) → Good whole (added d (vertex dim)) bs
  vertex_kept dim g p =
      let first = or_parts (not (empty d.faces)) (not (empty d.named)) p.in_order in
      let f = nil_from_empty d.faces first.0 in
      let c = no_curves (bytes_of (vertex dim) ++ bs) g (nil_from_empty d.named first.1) in
      let longer = length_push d.dims dim in
      let full = leb-false 256 (length d.dims) p.few in
      let small = ltb-false 2 dim p.good_vertex in
      record {
        curves = g.curves;
        spelled = g.spelled ∙ rw (f, c) (joined_on (λ x. bytes_of (vertex x)) d.dims dim bs);
        dimensions = All-push (λ x. x ≤ 2) d.dims dim g.dimensions small;
        most_vertices = omega arith;
        polygons = rw f tt;
        most_faces = g.most_faces;
        most_edges = g.most_edges;
        two_faces = g.two_faces;
        named = g.named;
        known = g.known;
        once = g.once;
      }

  face_kept : (cs : List ℕ) → Good whole d (bytes_of (face cs) ++ bs) → Sized (face cs) → Passed d (face cs) → Good whole (added d (face cs)) bs
  face_kept cs g size p =
      let n = nil_from_empty d.named p.in_order in
      let c = no_curves (bytes_of (face cs) ++ bs) g n in
      let fine = not-false (proper (length d.dims) cs) p.good_vertex in
      let once = (and_parts (all_below (length d.dims) cs) (distinct cs) fine).1 in
      let room = or_parts (leb 256 (length d.faces)) (ltb 512 (length (edges (d.faces ++ cs ∷ [])))) p.few in
      let longer = length_push d.faces cs in
      let full = leb-false 256 (length d.faces) room.0 in
      record {
        curves = g.curves;
        spelled = g.spelled ∙ ap (λ rest. flat_map (λ x. bytes_of (vertex x)) d.dims ++ rest) (rw c (joined_on (λ f. bytes_of (face f)) d.faces cs bs));
        dimensions = g.dimensions;
        most_vertices = g.most_vertices;
        polygons = All-push (Polygon (length d.dims)) d.faces cs g.polygons (record { least = size.0; most = size.1; proper = fine });
        most_faces = omega arith;
        most_edges = ltb-false 512 (length (edges (d.faces ++ cs ∷ []))) room.1;
        two_faces = uses_kept d.faces cs g.two_faces size.0 once p.room_at_edges;
        named = rw c n;
        known = rw c tt;
        once = g.once;
      }

  curve_kept : (c : Side) → Good whole d (bytes_of (curve c) ++ bs) → Passed d (curve c) → Good whole (added d (curve c)) bs
  curve_kept c g p =
      let fresh = or_parts (not (is_some (edge_of (edges d.faces) c))) (occurs (number (edges d.faces) c) d.named) p.good_curve in
      record {
        curves = g.curves ++ c ∷ [];
        spelled = g.spelled ∙ ap (λ rest. flat_map (λ x. bytes_of (vertex x)) d.dims ++ (flat_map (λ f. bytes_of (face f)) d.faces ++ rest)) (joined_on (λ c'. bytes_of (curve c')) g.curves c bs);
        dimensions = g.dimensions;
        most_vertices = g.most_vertices;
        polygons = g.polygons;
        most_faces = g.most_faces;
        most_edges = g.most_edges;
        two_faces = g.two_faces;
        named = ap (λ ns. ns ++ number (edges d.faces) c ∷ []) g.named ∙ sym (map_push (number (edges d.faces)) g.curves c);
        known = All-push (λ c'. is_some (edge_of (edges d.faces) c') ≡ true) g.curves c g.known (not-false (is_some (edge_of (edges d.faces) c)) fresh.0);
        once = distinct_push d.named (number (edges d.faces) c) g.once fresh.1;
      }

-- the draft q .0 was read from the front of whole, up to the end record, and q.1 is left
abbrev pub Ended : List ℕ → Draft × List ℕ → Type 0
Ended whole q = Good whole q.0 (bytes_of end ++ q.1) × (empty q.0.faces ≡ false)

module _ (whole : List ℕ) where
  one_more : (d : Draft) (r : Record) (rest : List ℕ) (more : Result (Draft × List ℕ) Refusal) (q : Draft × List ℕ) → Good whole d (bytes_of r ++ rest) → Sized r → Passed d r → onto r (Ok (d, rest)) more ≡ Ok q → (Good whole (added d r) rest → more ≡ Ok q → Ended whole q) → Ended whole q
  one_more d (vertex dim) rest more q g size p e go = go (vertex_kept whole d rest dim g p) e
  one_more d (face cs) rest more q g size p e go = go (face_kept whole d rest cs g size p) e
  one_more d (curve c) rest more q g size p e go = go (curve_kept whole d rest c g p) e
  one_more d end rest more q g size p e go = let is : (d, rest) ≡ q = cc in subst (Ended whole) is (g, p.few)

  pub records_ended : (turns n : ℕ) (d : Draft) (bs : List ℕ) (q : Draft × List ℕ) → Good whole d bs → records turns n d bs ≡ Ok q → Ended whole q
  unfolding records
  records_ended zero n d bs q g e = absurd (grind arith)
  records_ended (suc turns) n d bs q g e =
      let t = then_ok (next n bs) _ q e in
      let u = unless_ok (judged n d t.0.0) _ q t.2 in
      let p = passed_from_none n d t.0.0 u.0 in
      let from = next_spelled n d bs t.0 g.most_vertices t.1 p.good_vertex in
      one_more d t.0.0 t.0.1 _ q (subst (Good whole d) from.0 g) from.1 p u.1 (λ good more. records_ended turns (n + 1) (added d t.0.0) t.0.1 q good more)

pub blank_good : (bs : List ℕ) → Good bs blank bs
unfolding firsts
blank_good bs =
    record {
      curves = [];
      spelled = refl;
      dimensions = tt;
      most_vertices = omega arith;
      polygons = tt;
      most_faces = omega arith;
      most_edges = omega arith;
      two_faces = λ t. omega arith;
      named = refl;
      known = tt;
      once = refl;
    }
