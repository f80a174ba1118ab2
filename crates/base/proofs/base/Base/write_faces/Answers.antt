use Rattle.std.proofs.Common.{rules, ◌≤◌, ℕ, ◌++◌, [], ◌∷◌, List, map, length, get_or, sum, vec_items, sym, ap, ap₂, subst, ◌∙◌, arith}
use Rattle.std.specs.List.{flat_map, AllByRecursion}
use Rattle.std.proofs.ByRecursion.{All-get_or}
use Rattle.std.proofs.lemmas.List.{at_drop_all}
use Rattle.std.proofs.lemmas.List.Sums.{sum_by-drop_more}
use Rattle.mesh.specs.declared.Side.{Side}
use Rattle.mesh.specs.Records.{bytes_of, face, two_bytes}
use Rattle.mesh.proofs.Certain.{rules_from}
use Rattle.base.specs.Bases.{shape}
use Rattle.base.specs.Faces.{parts}
use Rattle.base.proofs.Steps.{appended, twice_appended, all_appended}
use Rattle.base.proofs.Written.{face_front, sizes_short}
use Rattle.base.proofs.base.Base.write_faces.Goals as goal

pub loop-size-init : goal.loop-size-init
loop-size-init c =
    let m = c.args.self.now.mesh in
    let sizes = c.deref-size-items.ensures.value in
    let sides = c.as_slice-rest.ensures.value in
    record {
      total = ap sum sizes ∙ m.total ∙ sym (ap length sides);
      wrote = ap₂ (λ (ks : List ℕ) (ss : List Side). vec_items c.args.out.now ++ flat_map (λ f. bytes_of (face f)) (parts ks ss)) sizes sides;
    }

pub split_at-requires : goal.split_at-requires
split_at-requires c = omega (arith, c.loop-size.invariant.total, sum_by-drop_more (λ (x : ℕ). x) c.deref-size-items.result.now c.loop-size.size-index 0 c.loop-size-test.true)

pub overflow_cast-size : goal.overflow_cast-size
overflow_cast-size c =
    let b = c.args.self.now in
    let all = sizes_short (length (vec_items b.mesh.dims)) (vec_items b.mesh.sizes) (vec_items b.mesh.sides) b.mesh.total (rules_from (shape b) b.rules).polygons in
    let small : get_or c.deref-size-items.result.now c.loop-size.size-index 0 ≤ 8 = All-get_or (λ k. k ≤ 8) c.deref-size-items.result.now c.loop-size.size-index 0 c.loop-size-test.true (subst (AllByRecursion (λ k. k ≤ 8)) (sym c.deref-size-items.ensures.value) all) in
    search rules

pub loop-size-preserved : goal.loop-size-preserved
loop-size-preserved c =
    let ks = c.deref-size-items.result.now in
    let i = c.loop-size.size-index in
    let k = get_or ks i 0 in
    let front = c.split_at.result.0.now in
    let total = sum_by-drop_more (λ (x : ℕ). x) ks i 0 c.loop-size-test.true in
    let corners = flat_map two_bytes (map (λ (s : Side). s.tail) front) in
    let inside : k ≤ length c.loop-size.rest.now = omega (arith, c.loop-size.invariant.total, total) in
    let step = face_front ks i c.loop-size.rest.now front c.split_at.result.1.now c.loop-size-test.true inside c.split_at.ensures.front c.split_at.ensures.back in
    let wrote = twice_appended (vec_items c.loop-size.out) (vec_items c.push.new.self) (vec_items c.write_corners.new.out) (k ∷ []) corners c.in_ok-push.ensures.items c.in_ok-write_corners.ensures in
    record {
      total = omega (arith, c.loop-size.invariant.total, total, c.split_at.ensures.back_len);
      wrote = appended _ _ _ _ (k ∷ corners) wrote step ∙ c.loop-size.invariant.wrote;
    }

pub returns : goal.returns
returns c =
    let last = at_drop_all (λ ks. flat_map (λ f. bytes_of (face f)) (parts ks c.loop-size.rest.now)) c.deref-size-items.result.now c.loop-size.size-index c.loop-size-test.false in
    all_appended _ _ _ last c.loop-size.invariant.wrote
