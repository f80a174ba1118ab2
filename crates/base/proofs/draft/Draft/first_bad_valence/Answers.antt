use Rattle.std.proofs.Common.{rules, tests, ◌≡◌, ℕ, Bool, true, false, not, ◌||◌, eqb, ltb, vec_items, ◌∙◌}
use Rattle.std.proofs.lemmas.Iterator.{first_from_Range}
use Rattle.mesh.specs.Lowest.{lowest}
use Rattle.mesh.specs.Shape.{any, degree}
use Rattle.base.specs.Drafts.{drafted}
use Rattle.base.proofs.Judging.{valence_test}
use Rattle.base.proofs.Searches.{lowest_found_in}
use Rattle.base.proofs.draft.Draft.first_bad_valence.Goals as goal

pub returns : goal.returns
returns c =
    let m = c.args.self.now.mesh in
    let d = drafted c.args.self.now in
    let bad : ℕ → Bool = λ v. not (any (λ s. eqb s.tail v) (vec_items m.sides)) || ltb 8 (degree (vec_items m.edges) v) in
    let first = first_from_Range _ _ _ c.find.result (λ v. bad v ≡ true) (λ v. bad v ≡ false) c.find.ensures.ran (λ v q k. search (rules, tests)) (λ v q k. search (rules, tests)) in
    lowest_found_in bad c.len.result c.find.result first
    ∙ (λ i. lowest (λ v. not (any (λ s. eqb s.tail v) (m.sided i)) || ltb 8 (degree (m.edged i) v)) ((c.len.ensures ∙ m.dims.ok.0) i))
    ∙ valence_test d.faces _
