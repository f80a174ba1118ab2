use Rattle.std.proofs.Common.{◌≡◌, ℕ, ◌+◌, ◌-◌, ◌<◌, ◌≤◌, List, length, get_or, sym, ap, ◌∙◌, ⊎_elim, arith}
use Rattle.std.proofs.lemmas.List.{length-map}
use Rattle.std.proofs.lemmas.Bool.{cases_lt}
use Rattle.mesh.proofs.Certain.{rules_from}
use Rattle.base.specs.Bases.{shape}
use Rattle.plan.proofs.Coarse.{first_facts, starts, starts_none, starts_more, starts_all, starts_within, face_between}
use Rattle.plan.proofs.Places.{keeps_none, keeps_then, keeps_wider}
use Rattle.plan.proofs.coarsest.write_faces.Goals as goal

pub loop-face-init : goal.loop-face-init
loop-face-init c = let none = starts_none (shape c.args.base.now).faces in (omega (arith, none), λ k l. absurd (omega (arith, none)), keeps_none _ _ _)

pub fill-requires : goal.fill-requires
fill-requires c =
    let s = shape c.args.base.now in
    let rules = rules_from s c.args.base.now.rules in
    let n = first_facts s rules c.args.b c.requires.block in
    let f = c.loop-face.face in
    let items = c.face_sizes-size-items.ensures in
    let many = ap length items ∙ length-map s.faces length in
    let size = ap (λ (l : List ℕ). get_or l f 0) items in
    let more = starts_more s.faces f (omega (arith, many, c.loop-face-test.true)) in
    omega (arith, c.start-at.ensures.value, n.1, n.0.corners, c.requires.within, c.loop-face.auto.table, c.loop-face.invariant.0, size, more, starts_within s.faces (f + 1))

pub overflow_add-at : goal.overflow_add-at
overflow_add-at c =
    let s = shape c.args.base.now in
    let rules = rules_from s c.args.base.now.rules in
    let n = first_facts s rules c.args.b c.requires.block in
    let f = c.loop-face.face in
    let items = c.face_sizes-size-items.ensures in
    let size = ap (λ (l : List ℕ). get_or l f 0) items in
    let more = starts_more s.faces f (omega (arith, ap length items ∙ length-map s.faces length, c.loop-face-test.true)) in
    omega (arith, c.start-at.ensures.small, c.loop-face.invariant.0, size, more, starts_within s.faces (f + 1), n.0.corners)

pub loop-face-preserved : goal.loop-face-preserved
loop-face-preserved c =
    let s = shape c.args.base.now in
    let f = c.loop-face.face in
    let items = c.face_sizes-size-items.ensures in
    let many = ap length items ∙ length-map s.faces length in
    let size = ap (λ (l : List ℕ). get_or l f 0) items in
    let in-faces : f < length s.faces = omega (arith, many, c.loop-face-test.true) in
    let more = starts_more s.faces f in-faces in
    let at = c.loop-face.invariant.0 in (
      omega (arith, at, size, more),
      λ k l. ⊎_elim
          (λ (low : k < starts s.faces f). c.fill.ensures.kept.below (c.start-at.result + k) (omega (arith, at)) ∙ c.loop-face.invariant.1 k low)
          (λ (high : starts s.faces f ≤ k).
          let off : c.start-at.result + k ≡ c.loop-face.at + (k - starts s.faces f) = omega (arith, at) in
          ap (λ p. get_or c.fill.new.table p 0) off ∙ c.fill.ensures.filled (k - starts s.faces f) (omega (arith, size, more)) ∙ sym (face_between s.faces f k high l in-faces))
          (cases_lt k (starts s.faces f)),
      keeps_then (keeps_wider _ _ (omega arith) (omega arith) c.loop-face.invariant.2) (keeps_wider _ _ (omega (arith, at)) (omega arith) c.fill.ensures.kept),
    )

pub returns : goal.returns
returns c =
    let s = shape c.args.base.now in
    let n = first_facts s (rules_from s c.args.base.now.rules) c.args.b c.requires.block in
    let items = c.face_sizes-size-items.ensures in
    let last : c.loop-face.face ≡ length s.faces = omega (arith, ap length items ∙ length-map s.faces length, c.loop-face.auto.face-end, c.loop-face-test.false) in
    let all = ap (starts s.faces) last ∙ starts_all s.faces in
    record {
      written = λ k l. ap (λ p. get_or c.loop-face.table (p + k) 0) (sym c.start-at.ensures.value) ∙ c.loop-face.invariant.1 k (omega (arith, all, n.0.corners));
      kept = keeps_wider _ _ (omega (arith, c.start-at.ensures.value)) (omega (arith, c.start-at.ensures.value, c.loop-face.invariant.0, all, n.0.corners)) c.loop-face.invariant.2;
    }
