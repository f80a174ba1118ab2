use Rattle.std.proofs.Common.{◌≡◌, not, length, min, get_or, sym, ap, ap₂, ◌∙◌, arith}
use Rattle.std.proofs.lemmas.List.FromFn.{length-map-range_with_len}
use Rattle.mesh.specs.Lowest.{lowest}
use Rattle.mesh.specs.Reading.{finished, open_edge, bad_dimension}
use Rattle.mesh.specs.Rules.{fits}
use Rattle.mesh.specs.Shape.{Shape, edges, degree, marked, occurs}
use Rattle.base.specs.declared.draft.Draft.{Draft}
use Rattle.base.specs.Drafts.{drafted}
use Rattle.base.specs.Meshes.{with_marks}
use Rattle.base.proofs.Judging.{checked_edges, checked_valences, checked_dimensions, checked_all}
use Rattle.base.proofs.draft.Draft.judge.Goals as goal
use Rattle.base.proofs.draft.Draft.judge.Goals.{After-first_open_edge, After-first_bad_dimension}

abbrev shape : Draft → Shape
shape m = finished (drafted m)

open_tested : (c : After-first_open_edge) → c.first_open_edge.result ≡ lowest (open_edge (shape c.args.self.now)) (length (edges (drafted c.args.self.now).faces))
open_tested c =
    let d = drafted c.args.self.now in
    let ms = c.deref.ensures.value ∙ c.in_ok-curves.ensures in
    let long = length-map-range_with_len (λ e. occurs e d.named) 0 (length (edges d.faces)) in
    c.first_open_edge.ensures ∙ (λ i. lowest (open_edge (with_marks c.args.self.now.mesh (ms i))) (min (length (edges d.faces)) (length (ms i))))
    ∙ ap (lowest (open_edge (shape c.args.self.now))) (omega (arith, long))

tested : (c : After-first_bad_dimension) → c.first_bad_dimension.result ≡ lowest (bad_dimension (shape c.args.self.now)) (length (shape c.args.self.now).dims)
tested c =
    let ds = c.deref-3.ensures.value in
    let cs = c.deref-4.ensures.value ∙ c.in_ok-curve_edges.ensures ∙ ap₂ marked (λ i. edges (drafted c.args.self.now).faces) (c.deref-2.ensures.value ∙ c.in_ok-curves.ensures) in
    c.first_bad_dimension.ensures ∙ (λ i. lowest (λ v. not (fits (get_or (ds i) v 0) (degree (cs i) v))) (length (ds i)))

pub returns-in-Some : goal.returns-in-Some
returns-in-Some c = checked_edges (shape c.args.self.now) c.in-Some.edge (sym (open_tested (goal.at.returns-in-Some c).After-first_open_edge) ∙ c.in-Some.is)

pub returns-in-Some-first_bad_valence : goal.returns-in-Some-first_bad_valence
returns-in-Some-first_bad_valence c =
    let at = goal.at.returns-in-Some-first_bad_valence c in
    checked_valences (shape c.args.self.now) (sym (open_tested at.After-first_open_edge) ∙ c.in_default.is) c.in-Some-first_bad_valence.vertex (sym c.first_bad_valence.ensures ∙ c.in-Some-first_bad_valence.is)

pub returns-in-Some-first_bad_dimension : goal.returns-in-Some-first_bad_dimension
returns-in-Some-first_bad_dimension c =
    let at = goal.at.returns-in-Some-first_bad_dimension c in
    checked_dimensions (shape c.args.self.now) (sym (open_tested at.After-first_open_edge) ∙ c.in_default.is) (sym c.first_bad_valence.ensures ∙ c.in_default-first_bad_valence.is) c.in-Some-first_bad_dimension.vertex
    (sym (tested at.After-first_bad_dimension) ∙ c.in-Some-first_bad_dimension.is)

pub returns : goal.returns
returns c =
    let at = goal.at.returns c in
    record {
      passes = checked_all (shape c.args.self.now) (sym (open_tested at.After-first_open_edge) ∙ c.in_default.is) (sym c.first_bad_valence.ensures ∙ c.in_default-first_bad_valence.is) (sym (tested at.After-first_bad_dimension) ∙ c.in_default-first_bad_dimension.is);
      marking = c.in_ok-curves.ensures;
    }
