-- What a block that stands for a level says of its edges and corners. Assumes nothing.
use Rattle.std.proofs.Common.{◌≡◌, ℕ, ◌+◌, ◌*◌, ◌/◌, ◌%◌, ◌<◌, ◌≤◌, eqb, List, length, get_or, sym, ap, ◌∙◌, subst, inl, inr, ⊎_elim, arith}
use Rattle.std.specs.Borrow.{Bor}
use Rattle.std.specs.Fn.{Shared}
use Rattle.std.specs.List.{range_with_len}
use Rattle.std.proofs.lemmas.List.FromFn.{length-range_with_len}
use Rattle.std.proofs.ByRecursion.{All-get_or}
use Rattle.std.proofs.lemmas.Bool.{cases_eq, cond-true, cond-false, cond_both, eq-eqb, ne_eqb}
use Rattle.std.proofs.lemmas.Bool.Decides.{nat_tests}
use Rattle.plan.specs.declared.scatter.Sort.{Sort}
use Rattle.plan.specs.Sorting.{sorted, Keeps, Queued}
use Rattle.plan.proofs.Sorts.{length_sorted}
use Rattle.levels.specs.Level.{Level}
use Rattle.levels.specs.Sound.{Sound}
use Rattle.levels.proofs.Uses.{half_at_tail, half_at_head, half_below}
use Rattle.plan.specs.declared.block.Block.{Block}
use Rattle.plan.specs.declared.block.Array.{Array}
use Rattle.plan.specs.declared.block.Array.TheVariants.{Ends, Halves, Faces, VertexHalfEnds, VertexCornerEnds, FaceEnds, FaceByVertex, FaceByEdge, Curves, Dimensions}
use Rattle.plan.specs.Decoded.{decoded, end_at, corner_half}
use Rattle.plan.specs.Giving.{Gives}
use Rattle.plan.specs.Layout.{begins, rooms, reads}
use Rattle.plan.specs.Written.{Clear, Clears, Ended, Shows, Grouped, Keyed, Lined}
use Rattle.plan.proofs.Reading.{reads_in, reads_kept, level_given}
use Rattle.plan.proofs.Grouping.{sorted_all, counting_below, counting_at}

-- writing where corners are sorted leaves the level
pub clears_lists : (b : Block) (low high : ℕ) → begins b VertexHalfEnds ≤ low → high ≤ begins b FaceEnds → Clears b low high
clears_lists b low high l h = record { ends = inl (omega arith); halves = inl (omega arith); faces = inl (omega arith); face_ends = inr (omega arith); curves = inr (omega arith); dimensions = inr (omega arith) }

pub clears_faces : (b : Block) (low high : ℕ) → begins b FaceByVertex ≤ low → high ≤ begins b Curves → Clears b low high
clears_faces b low high l h = record { ends = inl (omega arith); halves = inl (omega arith); faces = inl (omega arith); face_ends = inl (omega arith); curves = inr (omega arith); dimensions = inr (omega arith) }

module _ (m : Level) (sound : Sound m) where
  pub end_below : (h : ℕ) → h < 2 * m.edges → end_at m h < m.vertices
  end_below h l = cond_both (eqb (h % 2) 0) (m.tail (h / 2)) (m.head (h / 2)) (λ v. v < m.vertices) (λ _. sound.tails (h / 2) (omega arith)) (λ _. sound.heads (h / 2) (omega arith))

  -- the half edge of a corner ends at its vertex, and is one of its side
  pub half_vertex : (c : ℕ) → c < m.corners → end_at m (corner_half m c) ≡ m.vertex c
  half_vertex c l =
      let s = m.side c in
      let v = m.vertex c in
      ⊎_elim
      (λ (e : m.tail s ≡ v). let h = half_at_tail m s v e in
      cond-true (eqb (corner_half m c % 2) 0) _ _ (eq-eqb _ 0 (omega (arith, h))) ∙ ap m.tail (omega (arith, h)) ∙ e)
      (λ (e : m.tail s ≡ v → ⊥). let h = half_at_head m s v e in
      cond-false (eqb (corner_half m c % 2) 0) _ _ (ne_eqb _ 0 (omega (arith, h))) ∙ ap m.head (omega (arith, h))
      ∙ ⊎_elim (λ (r : (m.tail s ≡ v) × (m.head s ≡ m.vertex (m.forth c))). absurd (e r.0)) (λ (r : (m.tail s ≡ m.vertex (m.forth c)) × (m.head s ≡ v)). r.1) (sound.joined c l))
      (cases_eq (m.tail s) v)

  pub half_side : (c : ℕ) → corner_half m c / 2 ≡ m.side c
  half_side c = grind (arith, nat_tests)

  pub half_in : (c : ℕ) → c < m.corners → corner_half m c < 2 * m.edges
  half_in c l = half_below m (m.side c) (m.vertex c) (sound.sided c l)

  module _ (t : List ℕ) (b : Block) (shows : Shows t b m) where
    pub shown_vertex : (c : ℕ) → c < m.corners → (decoded t b).vertex c ≡ m.vertex c
    shown_vertex c l = ap (reads t b Ends) (shows.halves c l) ∙ shows.ends (corner_half m c) (half_in c l) ∙ half_vertex c l

    pub shown_side : (c : ℕ) → c < m.corners → (decoded t b).side c ≡ m.side c
    shown_side c l = ap (λ h. h / 2) (shows.halves c l) ∙ half_side c

    module _ {F : Type 0} {g : Shared F (Bor (List ℕ) × (ℕ × Unit {0})) ℕ} {number : F} where
      keyed_by : (key : Level → ℕ → ℕ) (keys : ℕ → ℕ) → ((c r : ℕ) (w : Gives g number t (begins b FaceByVertex) c r) → c < b.corners → r ≡ key (decoded w.table.now b) c) → ((c : ℕ) → c < m.corners → key (decoded t b) c ≡ keys c)
          → (c r : ℕ) → c < b.corners → Gives g number t (begins b FaceByVertex) c r → r ≡ keys c
      keyed_by key keys says same c r l w = level_given b (λ d. key d c) (clears_faces b _ _ (omega arith) (omega arith)) w (says c r w l) ∙ same c (omega (arith, shows.counts.corners))

      pub keyed_vertex : ((c r : ℕ) (w : Gives g number t (begins b FaceByVertex) c r) → c < b.corners → r ≡ (decoded w.table.now b).vertex c) → Keyed g number t b m.vertex b.vertices
      keyed_vertex says = let n = shows.counts in record { same = keyed_by (λ d. d.vertex) m.vertex says shown_vertex; small = λ c l. omega (arith, n.vertices, sound.placed c (omega (arith, n.corners))) }

      pub keyed_side : ((c r : ℕ) (w : Gives g number t (begins b FaceByVertex) c r) → c < b.corners → r ≡ (decoded w.table.now b).side c) → Keyed g number t b m.side b.edges
      keyed_side says = let n = shows.counts in record { same = keyed_by (λ d. d.side) m.side says shown_side; small = λ c l. omega (arith, n.edges, sound.sided c (omega (arith, n.corners))) }

    -- the corners in an array, sorted by a key
    pub lined_by : (order : Array) (key : ℕ → ℕ) (n : ℕ) → ((c : ℕ) → c < m.corners → key c < n)
        → ((i : ℕ) → i < length (sorted key n (range_with_len 0 m.corners)) → reads t b order i ≡ get_or (sorted key n (range_with_len 0 m.corners)) i 0)
        → Lined t b order m.face (sorted key n (range_with_len 0 m.corners))
    lined_by order key n small listed =
        let k = shows.counts in
        let many = length_sorted key n (range_with_len 0 m.corners) (λ i h. let l : i < m.corners = omega (arith, length-range_with_len 0 m.corners) in rw (counting_at m.corners i l) (small i l)) ∙ length-range_with_len 0 m.corners in
        record {
          many = omega (arith, many, k.corners);
          listed = listed;
          below = λ i h. omega (arith, All-get_or (λ x. x < m.corners) (sorted key n (range_with_len 0 m.corners)) i 0 h (sorted_all (λ x. x < m.corners) key n (range_with_len 0 m.corners) (counting_below m.corners)), k.corners);
          keyed = λ c l. shows.faces c (omega (arith, k.corners));
          small = λ c l. omega (arith, sound.faced c (omega (arith, k.corners)), k.faces);
        }

-- a block goes on standing for its level while its lists are written
pub shows_kept : (t u : List ℕ) (b : Block) (m : Level) → Keeps t u (begins b VertexHalfEnds) (begins b Curves) → Shows t b m → Shows u b m
shows_kept t u b m k s =
    let low = begins b VertexHalfEnds in
    let high = begins b Curves in
    record {
      counts = s.counts;
      ends = λ h l. ap (λ f. f h) (reads_kept t u b Ends low high (inl (omega arith)) k) ∙ s.ends h l;
      halves = λ c l. ap (λ f. f c) (reads_kept t u b Halves low high (inl (omega arith)) k) ∙ s.halves c l;
      faces = λ c l. ap (λ f. f c) (reads_kept t u b Faces low high (inl (omega arith)) k) ∙ s.faces c l;
      curves = λ e l. ap (λ f. f e) (reads_kept t u b Curves low high (inr (omega arith)) k) ∙ s.curves e l;
      dimensions = λ v l. ap (λ f. f v) (reads_kept t u b Dimensions low high (inr (omega arith)) k) ∙ s.dimensions v l;
    }

pub grouped_kept : (t u : List ℕ) (b : Block) (ends out : Array) (low high : ℕ) (key : ℕ → ℕ) (n : ℕ) (xs : List ℕ) → Clear b ends low high → Clear b out low high → Keeps t u low high
    → Grouped (reads t b ends) (reads t b out) key n xs → Grouped (reads u b ends) (reads u b out) key n xs
grouped_kept t u b ends out low high key n xs c d k g = record {
  ended = λ j l. ap (λ f. f j) (reads_kept t u b ends low high c k) ∙ g.ended j l;
  listed = λ i l. ap (λ f. f i) (reads_kept t u b out low high d k) ∙ g.listed i l;
}

-- the half edges and their vertices, as a sort finds them
pub halves_queued : (t u : List ℕ) (b : Block) (m : Level) (s : Sort) → Ended t b m → Sound m → s.keys ≡ begins b Ends → s.order ≡ begins b VertexCornerEnds → s.items ≡ 2 * b.edges → s.count ≡ b.vertices
    → Keeps t u s.order (s.order + s.items) → ((i : ℕ) → i < s.items → get_or u (s.order + i) 0 ≡ i) → Queued u s (end_at m) (range_with_len 0 (2 * m.edges))
halves_queued t u b m s shows sound keys order items count k written =
    let n = shows.counts in
    let long = length-range_with_len 0 (2 * m.edges) in
    let at : (i : ℕ) → i < length (range_with_len 0 (2 * m.edges)) → (get_or (range_with_len 0 (2 * m.edges)) i 0 ≡ i) × (i < 2 * m.edges) = λ i h. let l : i < 2 * m.edges = omega arith in (counting_at (2 * m.edges) i l, l) in
    record {
      many = omega (arith, n.edges);
      listed = λ i h. written i (omega (arith, n.edges)) ∙ sym (at i h).0;
      below = λ i h. omega (arith, (at i h).0, (at i h).1, n.edges);
      keyed = λ i h. ap (λ x. get_or u (s.keys + x) 0) (at i h).0 ∙ k.below (s.keys + i) (omega (arith, (at i h).1, n.edge_room, n.corners)) ∙ ap (λ p. get_or t (p + i) 0) keys
          ∙ sym (reads_in t b Ends i (omega (arith, (at i h).1, n.edge_room, n.corners))) ∙ shows.ends i (at i h).1 ∙ sym (ap (end_at m) (at i h).0);
      small = λ i h. subst (λ x. end_at m x < s.count) (sym (at i h).0) (omega (arith, end_below m sound i (at i h).1, n.vertices));
    }

-- the corners and their keys, as a sort finds them
pub corners_queued : (u v : List ℕ) (b : Block) (key : ℕ → ℕ) (s : Sort) → s.keys ≡ begins b FaceByVertex → s.order ≡ begins b FaceByEdge → s.items ≡ b.corners
    → ((c : ℕ) → c < b.corners → get_or u (s.keys + c) 0 ≡ key c) → ((c : ℕ) → c < b.corners → key c < s.count)
    → Keeps u v s.order (s.order + s.items) → ((i : ℕ) → i < s.items → get_or v (s.order + i) 0 ≡ i)
    → Queued v s key (range_with_len 0 b.corners)
corners_queued u v b key s keys order items keyed small k counted =
    let long = length-range_with_len 0 b.corners in
    let at : (i : ℕ) → i < length (range_with_len 0 b.corners) → (get_or (range_with_len 0 b.corners) i 0 ≡ i) × (i < b.corners) = λ i h. let g : i < b.corners = omega arith in (counting_at b.corners i g, g) in
    record {
      many = omega arith;
      listed = λ i h. counted i (omega (arith, (at i h).1)) ∙ sym (at i h).0;
      below = λ i h. omega (arith, (at i h).0, (at i h).1);
      keyed = λ i h. ap (λ x. get_or v (s.keys + x) 0) (at i h).0 ∙ k.below (s.keys + i) (omega (arith, (at i h).1)) ∙ keyed i (at i h).1 ∙ sym (ap key (at i h).0);
      small = λ i h. subst (λ x. key x < s.count) (sym (at i h).0) (small i (at i h).1);
    }

-- corners in an array with their faces, as a sort finds them
pub lined_queued : (t : List ℕ) (b : Block) (order : Array) (key : ℕ → ℕ) (xs : List ℕ) (s : Sort) → b.corners ≤ rooms b order → s.keys ≡ begins b Faces → s.order ≡ begins b order → s.items ≡ b.corners → s.count ≡ b.faces
    → Lined t b order key xs → Queued t s key xs
lined_queued t b order key xs s room keys at items count l = record {
  many = omega (arith, l.many);
  listed = λ i h. ap (λ p. get_or t (p + i) 0) at ∙ sym (reads_in t b order i (omega (arith, l.many))) ∙ l.listed i h;
  below = λ i h. omega (arith, l.below i h);
  keyed = λ i h. ap (λ p. get_or t (p + get_or xs i 0) 0) keys ∙ sym (reads_in t b Faces (get_or xs i 0) (l.below i h)) ∙ l.keyed (get_or xs i 0) (l.below i h);
  small = λ i h. omega (arith, l.small (get_or xs i 0) (l.below i h));
}

pub ended_from : (t : List ℕ) (b : Block) (m : Level) → Shows t b m → Ended t b m
ended_from t b m s = record { counts = s.counts; ends = s.ends }
