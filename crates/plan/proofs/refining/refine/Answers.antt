use Rattle.std.proofs.Common.{rules, ◌≡◌, ℕ, ◌+◌, ◌*◌, ◌/◌, ◌^◌, ◌<◌, ◌≤◌, List, get_or, sym, ap, ◌∙◌, subst, arith}
use mir.Val.{bool_byte}
use Rattle.plan.specs.Sorting.{Keeps}
use Rattle.plan.proofs.Places.{keeps_none, keeps_then, keeps_wider}
use Rattle.levels.specs.Finer.{finer}
use Rattle.levels.specs.Level.{Level}
use Rattle.plan.specs.Decoded.{decoded, end_at, corner_half, mark}
use Rattle.plan.proofs.Reading.{level_given, byte}
use Rattle.plan.specs.declared.block.Block.{Block}
use Rattle.plan.specs.Written.{Counts, Standing, next}
use Rattle.plan.proofs.Worked.{next_counts, clears_beyond, small_ends, small_halves, small_marks, small_dimensions, finer_shown}
use Rattle.plan.proofs.refining.refine.Goals as goal

-- the next block's counts, and where it stands
record Behind (b to : Block) : Type 0 where
  at : to.at ≡ b.at + 16 * b.corners
  corners : to.corners ≡ 4 * b.corners
  vertices : to.vertices ≤ 4 * b.corners
  edges : to.edges ≤ 4 * b.corners

behind : (t : List ℕ) (b to : Block) (m : Level) → Standing t b m → to ≡ next b → Behind b to
behind t b to m s e =
    let n : Counts (next b) _ = next_counts t b m s in
    record { at = ap (λ x. x.at) e; corners = ap (λ x. x.corners) e; vertices = omega (arith, ap (λ x. x.vertices) e, n.vertices, n.vertex_room, n.corners); edges = omega (arith, ap (λ x. x.edges) e, n.edges, n.edge_room, n.corners) }

-- an array of the next block stands behind this one
wide : {u v : List ℕ} (b to : Block) → Behind b to → (p off count : ℕ) → p ≡ to.at + off → off + count ≤ 16 * to.corners → Keeps u v p (p + count) → Keeps u v (b.at + 16 * b.corners) (b.at + 80 * b.corners)
wide b to h p off count e room k = keeps_wider _ _ (omega (arith, h.at)) (omega (arith, h.at, h.corners)) k

pub next-to-requires : goal.next-to-requires
next-to-requires c = let n = c.requires.standing.1.shows.counts in record { small = c.requires.small; vertices = omega (arith, n.vertices, n.vertex_room, n.corners); edges = omega (arith, n.edges, n.edge_room, n.corners); faces = omega (arith, n.faces, n.face_room, n.corners) }

pub write-requires : goal.write-requires
write-requires c =
    let b = c.args.b in
    let e = c.next-to.ensures in
    let h = behind c.args.table.now b c.next-to.result c.requires.standing.0 c.requires.standing.1 e in
    let p = c.start.ensures.value in
    record {
      within = omega (arith, h.at, h.corners, h.edges, c.requires.within);
      callable = search rules;
      small = λ i r l w.
          let v : r ≡ end_at (finer (decoded w.table.now b)) i = search rules in
          subst (λ (x : ℕ). x < 2 ^ 32) (sym (level_given b (λ d. end_at (finer d) i) (clears_beyond b _ _ (omega (arith, h.at))) w v)) (small_ends c.args.table.now b c.requires.standing.0 c.requires.standing.1 c.args.table.now (keeps_none _ _ _) c.requires.small i (omega (arith, ap (λ x. x.edges) e)));
    }

pub write-requires-2 : goal.write-requires-2
write-requires-2 c =
    let t = c.args.table.now in
    let b = c.args.b in
    let m = c.requires.standing.0 in
    let st = c.requires.standing.1 in
    let e = c.next-to.ensures in
    let h = behind t b c.next-to.result m st e in
    let k1 = wide b c.next-to.result h c.start.result 0 (2 * c.next-to.result.edges) (omega (arith, c.start.ensures.value)) (omega (arith, h.edges, h.corners)) c.write.ensures.kept in
    let p = c.start-2.ensures.value in
    record {
      within = omega (arith, h.at, h.corners, h.edges, h.vertices, c.requires.within, c.write.auto.table);
      callable = search rules;
      small = λ i r l w.
          let v : r ≡ corner_half (finer (decoded w.table.now b)) i = search rules in
          subst (λ (x : ℕ). x < 2 ^ 32) (sym (level_given b (λ d. corner_half (finer d) i) (clears_beyond b _ _ (omega (arith, h.at))) w v)) (small_halves t b m st c.write.new.table k1 c.requires.small i (omega (arith, h.corners)));
    }

pub write-requires-3 : goal.write-requires-3
write-requires-3 c =
    let t = c.args.table.now in
    let b = c.args.b in
    let m = c.requires.standing.0 in
    let st = c.requires.standing.1 in
    let e = c.next-to.ensures in
    let h = behind t b c.next-to.result m st e in
    let k1 = wide b c.next-to.result h c.start.result 0 (2 * c.next-to.result.edges) (omega (arith, c.start.ensures.value)) (omega (arith, h.edges, h.corners)) c.write.ensures.kept in
    let k2 = keeps_then k1 (wide b c.next-to.result h c.start-2.result (2 * c.next-to.result.corners) c.next-to.result.corners (omega (arith, c.start-2.ensures.value)) (omega (arith, h.corners)) c.write-2.ensures.kept) in
    let p = c.start-3.ensures.value in
    record {
      within = omega (arith, h.at, h.corners, h.edges, h.vertices, c.requires.within, c.write.auto.table, c.write-2.auto.table);
      callable = search rules;
      small = λ i r l w. let v : r ≡ i / 4 = search rules in omega (arith, v, h.corners, c.requires.small);
    }

pub write-requires-4 : goal.write-requires-4
write-requires-4 c =
    let t = c.args.table.now in
    let b = c.args.b in
    let m = c.requires.standing.0 in
    let st = c.requires.standing.1 in
    let e = c.next-to.ensures in
    let h = behind t b c.next-to.result m st e in
    let k1 = wide b c.next-to.result h c.start.result 0 (2 * c.next-to.result.edges) (omega (arith, c.start.ensures.value)) (omega (arith, h.edges, h.corners)) c.write.ensures.kept in
    let k2 = keeps_then k1 (wide b c.next-to.result h c.start-2.result (2 * c.next-to.result.corners) c.next-to.result.corners (omega (arith, c.start-2.ensures.value)) (omega (arith, h.corners)) c.write-2.ensures.kept) in
    let k3 = keeps_then k2 (wide b c.next-to.result h c.start-3.result (3 * c.next-to.result.corners) c.next-to.result.corners (omega (arith, c.start-3.ensures.value)) (omega (arith, h.corners)) c.write-3.ensures.kept) in
    let p = c.start-4.ensures.value in
    record {
      within = omega (arith, h.at, h.corners, h.edges, h.vertices, c.requires.within, c.write.auto.table, c.write-2.auto.table, c.write-3.auto.table);
      callable = search rules;
      small = λ i r l w.
          let v0 : r ≡ bool_byte ((finer (decoded w.table.now b)).curve i) = search rules in
          let v = v0 ∙ byte ((finer (decoded w.table.now b)).curve i) in
          subst (λ (x : ℕ). x < 2 ^ 32) (sym (level_given b (λ d. mark (finer d) i) (clears_beyond b _ _ (omega (arith, h.at))) w v)) (small_marks t b m st c.write-3.new.table k3 c.requires.small i);
    }

pub write-requires-5 : goal.write-requires-5
write-requires-5 c =
    let t = c.args.table.now in
    let b = c.args.b in
    let m = c.requires.standing.0 in
    let st = c.requires.standing.1 in
    let e = c.next-to.ensures in
    let h = behind t b c.next-to.result m st e in
    let k1 = wide b c.next-to.result h c.start.result 0 (2 * c.next-to.result.edges) (omega (arith, c.start.ensures.value)) (omega (arith, h.edges, h.corners)) c.write.ensures.kept in
    let k2 = keeps_then k1 (wide b c.next-to.result h c.start-2.result (2 * c.next-to.result.corners) c.next-to.result.corners (omega (arith, c.start-2.ensures.value)) (omega (arith, h.corners)) c.write-2.ensures.kept) in
    let k3 = keeps_then k2 (wide b c.next-to.result h c.start-3.result (3 * c.next-to.result.corners) c.next-to.result.corners (omega (arith, c.start-3.ensures.value)) (omega (arith, h.corners)) c.write-3.ensures.kept) in
    let k4 = keeps_then k3 (wide b c.next-to.result h c.start-4.result (14 * c.next-to.result.corners) c.next-to.result.edges (omega (arith, c.start-4.ensures.value)) (omega (arith, h.corners, h.edges)) c.write-4.ensures.kept) in
    let p = c.start-5.ensures.value in
    record {
      within = omega (arith, h.at, h.corners, h.edges, h.vertices, c.requires.within, c.write.auto.table, c.write-2.auto.table, c.write-3.auto.table, c.write-4.auto.table);
      callable = search rules;
      small = λ i r l w.
          let v : r ≡ (finer (decoded w.table.now b)).dimension i = search rules in
          subst (λ (x : ℕ). x < 2 ^ 32) (sym (level_given b (λ d. (finer d).dimension i) (clears_beyond b _ _ (omega (arith, h.at))) w v)) (small_dimensions t b m st c.write-4.new.table k4 c.requires.small i (omega (arith, ap (λ x. x.vertices) e)));
    }

pub returns : goal.returns
returns c =
    let t = c.args.table.now in
    let b = c.args.b in
    let m = c.requires.standing.0 in
    let st = c.requires.standing.1 in
    let e = c.next-to.ensures in
    let h = behind t b c.next-to.result m st e in
    let k1 = wide b c.next-to.result h c.start.result 0 (2 * c.next-to.result.edges) (omega (arith, c.start.ensures.value)) (omega (arith, h.edges, h.corners)) c.write.ensures.kept in
    let k2 = keeps_then k1 (wide b c.next-to.result h c.start-2.result (2 * c.next-to.result.corners) c.next-to.result.corners (omega (arith, c.start-2.ensures.value)) (omega (arith, h.corners)) c.write-2.ensures.kept) in
    let k3 = keeps_then k2 (wide b c.next-to.result h c.start-3.result (3 * c.next-to.result.corners) c.next-to.result.corners (omega (arith, c.start-3.ensures.value)) (omega (arith, h.corners)) c.write-3.ensures.kept) in
    let k4 = keeps_then k3 (wide b c.next-to.result h c.start-4.result (14 * c.next-to.result.corners) c.next-to.result.edges (omega (arith, c.start-4.ensures.value)) (omega (arith, h.corners, h.edges)) c.write-4.ensures.kept) in
    let k5 = keeps_then k4 (wide b c.next-to.result h c.start-5.result (15 * c.next-to.result.corners) c.next-to.result.vertices (omega (arith, c.start-5.ensures.value)) (omega (arith, h.corners, h.vertices)) c.write-5.ensures.kept) in
    record {
      value = e;
      shown = λ m s. finer_shown t c.write.new.table c.write-2.new.table c.write-3.new.table c.write-4.new.table c.write-5.new.table b c.next-to.result m s e
          c.start.result c.start-2.result c.start-3.result c.start-4.result c.start-5.result c.start.ensures.value c.start-2.ensures.value c.start-3.ensures.value c.start-4.ensures.value c.start-5.ensures.value
          k1 k3 k4 c.write-2.ensures.kept c.write-3.ensures.kept c.write-4.ensures.kept c.write-5.ensures.kept
          (λ i l. let w = c.write.ensures.written i l in let v : get_or c.write.new.table (c.start.result + i) 0 ≡ end_at (finer (decoded w.table.now b)) i = search rules in level_given b (λ d. end_at (finer d) i) (clears_beyond b _ _ (omega (arith, h.at, c.start.ensures.value))) w v)
          (λ i l. let w = c.write-2.ensures.written i l in let v : get_or c.write-2.new.table (c.start-2.result + i) 0 ≡ corner_half (finer (decoded w.table.now b)) i = search rules in level_given b (λ d. corner_half (finer d) i) (clears_beyond b _ _ (omega (arith, h.at, c.start-2.ensures.value))) w v)
          (λ i l. let w = c.write-3.ensures.written i l in search rules)
          (λ i l. let w = c.write-4.ensures.written i l in let v0 : get_or c.write-4.new.table (c.start-4.result + i) 0 ≡ bool_byte ((finer (decoded w.table.now b)).curve i) = search rules in let v = v0 ∙ byte ((finer (decoded w.table.now b)).curve i) in level_given b (λ d. mark (finer d) i) (clears_beyond b _ _ (omega (arith, h.at, c.start-4.ensures.value))) w v)
          (λ i l. let w = c.write-5.ensures.written i l in let v : get_or c.write-5.new.table (c.start-5.result + i) 0 ≡ (finer (decoded w.table.now b)).dimension i = search rules in level_given b (λ d. (finer d).dimension i) (clears_beyond b _ _ (omega (arith, h.at, c.start-5.ensures.value))) w v);
      kept = k5;
    }
