-- What is written of a shape that keeps the rules is read as that shape. Assumes nothing.
use Rattle.std.proofs.Common.{◌≡◌, ◌≤◌, false, not, eqb, [], ◌++◌, map, length, get_or, None, Ok, sym, refl, ap, ◌∙◌, subst, ⊎_elim, arith}
use Rattle.std.proofs.lemmas.List.{length-append}
use Rattle.std.proofs.lemmas.Bool.{cases_Bool, and_left, and_right, or_from, not_from_true, le-ltb, eqb-true}
use Rattle.std.specs.List.{flat_map}
use Rattle.mesh.specs.Lowest.{lowest}
use Rattle.mesh.specs.Shape.{Shape, nowhere, sides, edges, uses, degree, curve_edges}
use Rattle.mesh.specs.Rules.{Rules}
use Rattle.mesh.specs.Records.{vertex, face, curve, end, bytes_of, written}
use Rattle.mesh.specs.Reading.{blank, records, finished, open_edge, bad_valence, bad_dimension, checked, reading}
use Rattle.mesh.specs.Laws.{ReadsBack}
use Rattle.mesh.proofs.Lists.{empty_some}
use Rattle.mesh.proofs.Lowests.{lowest_none}
use Rattle.mesh.proofs.Edges.{count_from_firsts}
use Rattle.mesh.proofs.Faces.{edges_ends}
use Rattle.mesh.proofs.Marks.{marks_again}
use Rattle.mesh.proofs.Drafts.{Passed, Passes, passes_append, records_pass, length_records, records_of, written_records, draft_of, folded_vertices, folded_faces, folded_records}
use Rattle.mesh.proofs.Passing.{Bounded, passes_vertices, passes_faces, passes_curves}

module _ (s : Shape) (r : Rules s) where
  bounded : Bounded s.faces
  bounded = record { most_faces = r.most_faces; most_edges = r.most_edges; shared = count_from_firsts (λ n. n ≤ 2) (sides s.faces) (λ e l. (r.shared e l).1) }

  passes : Passes blank (records_of s.dims s.faces (curve_edges s))
  passes =
      let curves = passes_curves s.faces s.dims (edges_ends (length s.dims) s.faces r.polygons) s.curves 0 [] (omega (arith, r.marks)) (λ i l. refl) in
      let faces = passes_append (draft_of s.dims [] []) (map face s.faces) (map curve (curve_edges s)) (passes_faces s.dims [] s.faces r.polygons bounded) (rw (folded_faces (draft_of s.dims [] []) s.faces) curves) in
      passes_append blank (map vertex s.dims) (map face s.faces ++ map curve (curve_edges s)) (passes_vertices [] s.dims (omega (arith, r.most_vertices)) r.dimensions) (rw (folded_vertices blank s.dims) faces)

  -- a record takes a byte at least, so there are turns enough
  read : records (length (written s)) 0 blank (written s) ≡ Ok (draft_of s.dims s.faces (curve_edges s), [])
  read =
      let rs = records_of s.dims s.faces (curve_edges s) in
      let bytes = flat_map bytes_of rs ++ bytes_of end in
      let given = folded_records s.dims s.faces (curve_edges s) in
      let ends : Passed (draft_of s.dims s.faces (curve_edges s)) end = record { in_order = refl; good_vertex = refl; good_curve = refl; room_at_edges = refl; few = empty_some s.faces r.some_face } in
      rw (written_records s.dims s.faces (curve_edges s))
      (records_pass rs (length bytes) 0 blank passes (subst (λ d. Passed d end) (sym given) ends) (omega (arith, length_records rs, length-append (flat_map bytes_of rs) (bytes_of end)))
      ∙ ap (λ d. Ok (d, [])) given)

  finished_again : finished (draft_of s.dims s.faces (curve_edges s)) ≡ s
  finished_again = rw (marks_again s.faces s.curves r.marks)

  no_open_edge : lowest (open_edge s) (length (edges s.faces)) ≡ None
  no_open_edge =
      lowest_none (open_edge s) (length (edges s.faces)) (λ e l.
      let count = uses s.faces (get_or (edges s.faces) e nowhere) in
      let mark = get_or s.curves e false in
      ⊎_elim
      (λ one. and_right (eqb count 1) (not mark) (not_from_true mark (r.rim e l (eqb-true count 1 one))))
      (λ more. and_left (eqb count 1) (not mark) more)
      (cases_Bool (eqb count 1)))

  no_bad_valence : lowest (bad_valence s) (length s.dims) ≡ None
  no_bad_valence = lowest_none (bad_valence s) (length s.dims) (λ v l. or_from _ _ (not_from_true _ (r.in_face v l)) (le-ltb 8 (degree (edges s.faces) v) (r.valence v l)))

  no_bad_dimension : lowest (bad_dimension s) (length s.dims) ≡ None
  no_bad_dimension = lowest_none (bad_dimension s) (length s.dims) (λ v l. not_from_true _ (r.fitting v l))

  checked_ok : checked s ≡ Ok s
  checked_ok = rw (no_open_edge, no_bad_valence, no_bad_dimension)

pub reads_back : ReadsBack
unfolding reading
reads_back s r = rw (read s r, finished_again s r) (checked_ok s r)
