-- What refinement works out from a block's arrays is the next finer level. Assumes nothing.
use Rattle.std.proofs.Common.{◌≡◌, ℕ, ◌+◌, ◌-◌, ◌*◌, ◌/◌, ◌%◌, ◌^◌, ◌<◌, ◌≤◌, Bool, true, false, cond, eqb, ltb, List, get_or, sym, refl, ap, ◌∙◌, subst, ap₂, inl, ⊎_elim, arith}
use Rattle.std.specs.List.{range_with_len, AllByRecursion}
use Rattle.std.proofs.ByRecursion.{All-weaker}
use Rattle.std.proofs.lemmas.Bool.{cases_lt, cond-true, cond-false, cond_both, lt-ltb, le-ltb, eqb-true, eq-eqb, ne_eqb}
use Rattle.plan.specs.Sorting.{Keeps}
use Rattle.levels.specs.Level.{Level}
use Rattle.levels.specs.Finer.{finer, half_at}
use Rattle.levels.specs.Sound.{Sound, Covered, count}
use Rattle.levels.proofs.Counting.{count_onto, count_found}
use Rattle.levels.proofs.FinerSound.{finer_sound, finer_covered}
use Rattle.levels.proofs.Places.{by_quarters, by_halves, tail_first, tail_second, tail_inner, head_first, head_second, head_inner, vertex_0, vertex_1, vertex_2, vertex_3, side_0, side_1, side_2, side_3}
use Rattle.plan.specs.declared.block.Block.{Block}
use Rattle.plan.specs.declared.block.Array.TheVariants.{Ends, Halves, Faces, FaceEnds, FaceByVertex, Curves, Dimensions}
use Rattle.plan.specs.Decoded.{decoded, end_at, corner_half, mark, start_of}
use Rattle.plan.specs.Layout.{begins, reads}
use Rattle.plan.specs.Written.{Clears, Counts, Shows, Standing, next, corners_by_vertex}
use Rattle.plan.proofs.Crossing.{group_start}
use Rattle.plan.proofs.Reading.{reads_in, decoded_kept}
use Rattle.plan.proofs.Grouping.{counting_below, length_resorted}
use Rattle.plan.proofs.Plains.{count_all}
use Rattle.plan.proofs.Showing.{end_below, half_in, shown_vertex, shown_side}

-- the counts of one level, and what another says
abbrev remade : Level → Level → Level
remade m d = record {
  vertices = m.vertices;
  edges = m.edges;
  faces = m.faces;
  corners = m.corners;
  tail = d.tail;
  head = d.head;
  face = d.face;
  vertex = d.vertex;
  side = d.side;
  back = d.back;
  forth = d.forth;
  curve = d.curve;
  dimension = d.dimension;
}

-- below the counts they say the same
record Alike (d m : Level) : Type 0 where
  tails : (e : ℕ) → e < m.edges → d.tail e ≡ m.tail e
  heads : (e : ℕ) → e < m.edges → d.head e ≡ m.head e
  faces : (c : ℕ) → c < m.corners → d.face c ≡ m.face c
  vertices : (c : ℕ) → c < m.corners → d.vertex c ≡ m.vertex c
  sides : (c : ℕ) → c < m.corners → d.side c ≡ m.side c
  backs : (c : ℕ) → c < m.corners → d.back c ≡ m.back c
  curves : (e : ℕ) → e < m.edges → d.curve e ≡ m.curve e
  dimensions : (v : ℕ) → v < m.vertices → d.dimension v ≡ m.dimension v

half_alike : (d m : Level) (e e' v v' : ℕ) → e ≡ e' → v ≡ v' → d.tail e' ≡ m.tail e' → half_at d e v ≡ half_at m e' v'
half_alike d m e e' v v' p q r = ap₂ (half_at d) p q ∙ ap (λ t. 2 * e' + cond (eqb t v') 0 1) r

module _ (d m : Level) (sound : Sound m) (a : Alike d m) where
  abbrev r : Level
  r = remade m d

  fine_tails : (e : ℕ) → e < (finer m).edges → (finer r).tail e ≡ (finer m).tail e
  fine_tails = by_halves (λ e. (finer r).tail e ≡ (finer m).tail e) m.edges m.corners
      (λ e l. tail_first r e l ∙ a.tails e l ∙ sym (tail_first m e l)) (λ e l. tail_second r e l ∙ sym (tail_second m e l))
      (λ c l. tail_inner r c ∙ ap (λ s. m.vertices + s) (a.sides c l) ∙ sym (tail_inner m c))

  fine_heads : (e : ℕ) → e < (finer m).edges → (finer r).head e ≡ (finer m).head e
  fine_heads = by_halves (λ e. (finer r).head e ≡ (finer m).head e) m.edges m.corners
      (λ e l. head_first r e l ∙ sym (head_first m e l)) (λ e l. head_second r e l ∙ a.heads e l ∙ sym (head_second m e l))
      (λ c l. head_inner r c ∙ ap (λ f. m.vertices + m.edges + f) (a.faces c l) ∙ sym (head_inner m c))

  back_sides : (c : ℕ) → c < m.corners → d.side (d.back c) ≡ m.side (m.back c)
  back_sides c l = ap d.side (a.backs c l) ∙ a.sides (m.back c) (sound.backs c l).0

  fine_vertices : (c : ℕ) → c < (finer m).corners → (finer r).vertex c ≡ (finer m).vertex c
  fine_vertices = by_quarters (λ c. (finer r).vertex c ≡ (finer m).vertex c) m.corners
      (λ c l. vertex_0 r c ∙ a.vertices c l ∙ sym (vertex_0 m c)) (λ c l. vertex_1 r c ∙ ap (λ s. m.vertices + s) (a.sides c l) ∙ sym (vertex_1 m c))
      (λ c l. vertex_2 r c ∙ ap (λ f. m.vertices + m.edges + f) (a.faces c l) ∙ sym (vertex_2 m c)) (λ c l. vertex_3 r c ∙ ap (λ s. m.vertices + s) (back_sides c l) ∙ sym (vertex_3 m c))

  fine_sides : (c : ℕ) → c < (finer m).corners → (finer r).side c ≡ (finer m).side c
  fine_sides = by_quarters (λ c. (finer r).side c ≡ (finer m).side c) m.corners
      (λ c l. side_0 r c ∙ half_alike r m (d.side c) (m.side c) (d.vertex c) (m.vertex c) (a.sides c l) (a.vertices c l) (a.tails (m.side c) (sound.sided c l)) ∙ sym (side_0 m c))
      (λ c l. side_1 r c ∙ sym (side_1 m c)) (λ c l. side_2 r c ∙ ap (λ x. 2 * m.edges + x) (a.backs c l) ∙ sym (side_2 m c))
      (λ c l. side_3 r c ∙ half_alike r m (d.side (d.back c)) (m.side (m.back c)) (d.vertex c) (m.vertex c) (back_sides c l) (a.vertices c l) (a.tails (m.side (m.back c)) (sound.sided (m.back c) (sound.backs c l).0)) ∙ sym (side_3 m c))

  fine_ends : (h : ℕ) → h < 2 * (finer m).edges → end_at (finer r) h ≡ end_at (finer m) h
  fine_ends h l = ap₂ (cond (eqb (h % 2) 0)) (fine_tails (h / 2) (omega arith)) (fine_heads (h / 2) (omega arith))

  fine_halves : (c : ℕ) → c < (finer m).corners → corner_half (finer r) c ≡ corner_half (finer m) c
  fine_halves c l = half_alike (finer r) (finer m) _ _ _ _ (fine_sides c l) (fine_vertices c l) (fine_tails ((finer m).side c) ((finer_sound m sound).sided c l))

  fine_marks : (e : ℕ) → e < (finer m).edges → mark (finer r) e ≡ mark (finer m) e
  fine_marks e l =
      ⊎_elim
      (λ (low : e < 2 * m.edges). let t = lt-ltb e (2 * m.edges) low in ap (λ b. cond (cond b (d.curve (e / 2)) false) 1 0) t ∙ ap (λ b. cond b 1 0) (a.curves (e / 2) (omega arith)) ∙ sym (ap (λ b. cond (cond b (m.curve (e / 2)) false) 1 0) t))
      (λ (high : 2 * m.edges ≤ e). let t = le-ltb e (2 * m.edges) high in ap (λ b. cond (cond b (d.curve (e / 2)) false) 1 0) t ∙ sym (ap (λ b. cond (cond b (m.curve (e / 2)) false) 1 0) t))
      (cases_lt e (2 * m.edges))

  fine_dims : (v : ℕ) → v < (finer m).vertices → (finer r).dimension v ≡ (finer m).dimension v
  fine_dims v l =
      ⊎_elim
      (λ (low : v < m.vertices). let t = lt-ltb v m.vertices low in cond-true (ltb v m.vertices) _ _ t ∙ a.dimensions v low ∙ sym (cond-true (ltb v m.vertices) _ _ t))
      (λ (high : m.vertices ≤ v). ap (cond (ltb v m.vertices) (d.dimension v)) (rest high) ∙ cond-false (ltb v m.vertices) _ _ (le-ltb v m.vertices high) ∙ sym (cond-false (ltb v m.vertices) _ _ (le-ltb v m.vertices high)))
      (cases_lt v m.vertices)
    where
      rest : m.vertices ≤ v → ◌≡◌ {A = ℕ} (cond (ltb v (m.vertices + m.edges)) (cond (d.curve (v - m.vertices)) 1 2) 2) (cond (ltb v (m.vertices + m.edges)) (cond (m.curve (v - m.vertices)) 1 2) 2)
      rest high =
          ⊎_elim
          (λ (in' : v < m.vertices + m.edges). ap (λ b. cond (ltb v (m.vertices + m.edges)) (cond b 1 2) 2) (a.curves (v - m.vertices) (omega arith)))
          (λ (out : m.vertices + m.edges ≤ v). let t = le-ltb v (m.vertices + m.edges) out in cond-false (ltb v (m.vertices + m.edges)) _ _ t ∙ sym (cond-false (ltb v (m.vertices + m.edges)) _ _ t))
          (cases_lt v (m.vertices + m.edges))

-- a level whose edges, vertices and faces all have corners has no more of them than corners
pub covered_rooms : (m : Level) → Covered m → (m.vertices ≤ m.corners) × (m.edges ≤ m.corners) × (m.faces ≤ m.corners)
covered_rooms m covered =
    let all : (n : ℕ) → count (λ _. true) n ≡ n = λ n. count_all (λ _. true) n (λ _ _. refl) in
    let room : (g : ℕ → ℕ) (n : ℕ) → ((i : ℕ) → i < n → 1 ≤ count (λ c. eqb (g c) i) m.corners) → n ≤ m.corners = λ g n used.
    omega (arith, count_onto g (λ _. true) (λ _. true) m.corners n (λ i l t. let it = count_found (λ c. eqb (g c) i) m.corners (used i l) in (it.0, it.1, refl, eqb-true (g it.0) i it.2)), all n, all m.corners) in
    (room m.vertex m.vertices covered.used_vertices, room m.side m.edges covered.used_edges, room m.face m.faces covered.used_faces)

-- the next block has the next level's counts
pub next_counted : (b : Block) (m : Level) → Counts b m → Sound m → Covered m → Counts (next b) (finer m)
next_counted b m n sound covered =
    let c = covered_rooms (finer m) (finer_covered m sound covered) in
    record {
      vertices = omega (arith, n.vertices, n.edges, n.faces);
      edges = omega (arith, n.edges, n.corners);
      faces = n.corners;
      corners = omega (arith, n.corners);
      vertex_room = c.0;
      edge_room = c.1;
      face_room = c.2;
    }

module _ (t : List ℕ) (b : Block) (m : Level) (s : Standing t b m) where
  abbrev d : Level
  d = decoded t b

  abbrev n : Counts b m
  n = s.shows.counts

  small_vertices : AllByRecursion (λ c. m.vertex c < m.vertices) (range_with_len 0 m.corners)
  small_vertices = All-weaker (λ c. c < m.corners) (λ c. m.vertex c < m.vertices) s.sound.placed (range_with_len 0 m.corners) (counting_below m.corners)

  shown_back : (c : ℕ) → c < m.corners → d.back c ≡ m.back c
  shown_back c l =
      let f = m.face c in
      let face = s.shows.faces c l in
      let in' = s.sound.faced c l in
      let ends = reads t b FaceEnds in
      let start = ap (start_of ends) face ∙ group_start ends (reads t b FaceByVertex) m.face m.faces (corners_by_vertex m) s.lists.by_vertex f (omega arith) ∙ length_resorted m.vertex m.face m.vertices f (range_with_len 0 m.corners) small_vertices in
      let end = ap ends face ∙ s.lists.by_vertex.ended f in' ∙ length_resorted m.vertex m.face m.vertices (f + 1) (range_with_len 0 m.corners) small_vertices in
      ap₂ (λ x y. cond (eqb c x) (y - 1) (c - 1)) start end ∙ sym (s.plain.backs c l)

  alike : Alike d m
  alike = record {
    tails = λ e l. s.shows.ends (2 * e) (omega arith) ∙ cond-true (eqb (2 * e % 2) 0) _ _ (eq-eqb _ 0 (omega arith)) ∙ ap m.tail (omega arith);
    heads = λ e l. s.shows.ends (2 * e + 1) (omega arith) ∙ cond-false (eqb ((2 * e + 1) % 2) 0) _ _ (ne_eqb _ 0 (omega arith)) ∙ ap m.head (omega arith);
    faces = s.shows.faces;
    vertices = shown_vertex m s.sound t b s.shows;
    sides = shown_side m s.sound t b s.shows;
    backs = shown_back;
    curves = λ e l. ap (λ x. eqb x 1) (s.shows.curves e l) ∙ marks (m.curve e);
    dimensions = s.shows.dimensions;
  }
    where
      marks : (x : Bool) → eqb (cond x 1 0) 1 ≡ x
      marks true = refl
      marks false = refl

  counted : decoded t b ≡ remade m (decoded t b)
  counted = λ i. record {
    vertices = n.vertices i;
    edges = n.edges i;
    faces = n.faces i;
    corners = n.corners i;
    tail = d.tail;
    head = d.head;
    face = d.face;
    vertex = d.vertex;
    side = d.side;
    back = d.back;
    forth = d.forth;
    curve = d.curve;
    dimension = d.dimension;
  }

  pub worked_ends : (h : ℕ) → h < 2 * (finer m).edges → end_at (finer (decoded t b)) h ≡ end_at (finer m) h
  worked_ends h l = ap (λ x. end_at (finer x) h) counted ∙ fine_ends d m s.sound alike h l

  pub worked_halves : (c : ℕ) → c < (finer m).corners → corner_half (finer (decoded t b)) c ≡ corner_half (finer m) c
  worked_halves c l = ap (λ x. corner_half (finer x) c) counted ∙ fine_halves d m s.sound alike c l

  pub worked_marks : (e : ℕ) → e < (finer m).edges → mark (finer (decoded t b)) e ≡ mark (finer m) e
  worked_marks e l = ap (λ x. mark (finer x) e) counted ∙ fine_marks d m s.sound alike e l

  pub worked_dimensions : (v : ℕ) → v < (finer m).vertices → (finer (decoded t b)).dimension v ≡ (finer m).dimension v
  worked_dimensions v l = ap (λ x. (finer x).dimension v) counted ∙ fine_dims d m s.sound alike v l

  pub next_counts : Counts (next b) (finer m)
  next_counts = next_counted b m n s.sound s.covered

-- what is written behind a block leaves its level
pub clears_beyond : (b : Block) (low high : ℕ) → b.at + 16 * b.corners ≤ low → Clears b low high
clears_beyond b low high l = record { ends = inl (omega arith); halves = inl (omega arith); faces = inl (omega arith); face_ends = inl (omega arith); curves = inl (omega arith); dimensions = inl (omega arith) }

abbrev Beyond : List ℕ → List ℕ → Block → Type 0
Beyond t u b = Keeps t u (b.at + 16 * b.corners) (b.at + 80 * b.corners)

module _ (t : List ℕ) (b : Block) (m : Level) (s : Standing t b m) (u : List ℕ) (k : Beyond t u b) where
  same : decoded u b ≡ decoded t b
  same = decoded_kept t u b _ _ (clears_beyond b _ _ (omega arith)) k

  sound' : Sound (finer m)
  sound' = finer_sound m s.sound

  counts' : Counts (next b) (finer m)
  counts' = next_counts t b m s

  module _ (small : b.at + 80 * b.corners ≤ 2 ^ 30) where
    pub small_ends : (h : ℕ) → h < 2 * (next b).edges → end_at (finer (decoded u b)) h < 2 ^ 32
    small_ends h l = let n = counts' in let l' : h < 2 * (finer m).edges = omega (arith, n.edges) in omega (arith, ap (λ d. end_at (finer d) h) same ∙ worked_ends t b m s h l', end_below (finer m) sound' h l', n.vertex_room, n.corners)

    pub small_halves : (c : ℕ) → c < (next b).corners → corner_half (finer (decoded u b)) c < 2 ^ 32
    small_halves c l = let n = counts' in let l' : c < (finer m).corners = omega (arith, n.corners) in omega (arith, ap (λ d. corner_half (finer d) c) same ∙ worked_halves t b m s c l', half_in (finer m) sound' c l', n.edge_room, n.corners)

    pub small_marks : (e : ℕ) → mark (finer (decoded u b)) e < 2 ^ 32
    small_marks e = cond_both ((finer (decoded u b)).curve e) 1 0 (λ x. x < 2 ^ 32) (λ _. omega arith) (λ _. omega arith)

    pub small_dimensions : (v : ℕ) → v < (next b).vertices → (finer (decoded u b)).dimension v < 2 ^ 32
    small_dimensions v l = let n = counts' in let l' : v < (finer m).vertices = omega (arith, n.vertices) in omega (arith, ap (λ d. (finer d).dimension v) same ∙ worked_dimensions t b m s v l', sound'.dimensions v l')

-- the block behind stands for the next finer level once its arrays are written
pub finer_shown : (t u1 u2 u3 u4 u5 : List ℕ) (b to : Block) (m : Level) (s : Standing t b m) → to ≡ next b → (p1 p2 p3 p4 p5 : ℕ)
    → p1 ≡ begins to Ends → p2 ≡ begins to Halves → p3 ≡ begins to Faces → p4 ≡ begins to Curves → p5 ≡ begins to Dimensions
    → Beyond t u1 b → Beyond t u3 b → Beyond t u4 b
    → Keeps u1 u2 p2 (p2 + to.corners) → Keeps u2 u3 p3 (p3 + to.corners) → Keeps u3 u4 p4 (p4 + to.edges) → Keeps u4 u5 p5 (p5 + to.vertices)
    → ((i : ℕ) → i < 2 * to.edges → get_or u1 (p1 + i) 0 ≡ end_at (finer (decoded t b)) i)
    → ((i : ℕ) → i < to.corners → get_or u2 (p2 + i) 0 ≡ corner_half (finer (decoded u1 b)) i)
    → ((i : ℕ) → i < to.corners → get_or u3 (p3 + i) 0 ≡ i / 4)
    → ((i : ℕ) → i < to.edges → get_or u4 (p4 + i) 0 ≡ mark (finer (decoded u3 b)) i)
    → ((i : ℕ) → i < to.vertices → get_or u5 (p5 + i) 0 ≡ (finer (decoded u4 b)).dimension i)
    → Shows u5 to (finer m)
finer_shown t u1 u2 u3 u4 u5 b to m s e p1 p2 p3 p4 p5 q1 q2 q3 q4 q5 y1 y3 y4 k2 k3 k4 k5 w1 w2 w3 w4 w5 =
    let n : Counts to (finer m) = subst (λ x. Counts x (finer m)) (sym e) (next_counts t b m s) in
    record {
      counts = n;
      ends = λ h l.
          reads_in u5 to Ends h (omega (arith, n.edge_room, n.corners)) ∙ ap (λ p. get_or u5 (p + h) 0) (sym q1)
          ∙ k5.below (p1 + h) (omega (arith, n.edge_room, n.corners)) ∙ k4.below (p1 + h) (omega (arith, n.edge_room, n.corners)) ∙ k3.below (p1 + h) (omega (arith, n.edge_room, n.corners)) ∙ k2.below (p1 + h) (omega (arith, n.edge_room, n.corners))
          ∙ w1 h (omega (arith, n.edges)) ∙ worked_ends t b m s h l;
      halves = λ c l.
          reads_in u5 to Halves c (omega (arith, n.corners)) ∙ ap (λ p. get_or u5 (p + c) 0) (sym q2)
          ∙ k5.below (p2 + c) (omega (arith, n.corners)) ∙ k4.below (p2 + c) (omega (arith, n.corners)) ∙ k3.below (p2 + c) (omega (arith, n.corners))
          ∙ w2 c (omega (arith, n.corners)) ∙ ap (λ d. corner_half (finer d) c) (same t b m s u1 y1) ∙ worked_halves t b m s c l;
      faces = λ c l.
          reads_in u5 to Faces c (omega (arith, n.corners)) ∙ ap (λ p. get_or u5 (p + c) 0) (sym q3)
          ∙ k5.below (p3 + c) (omega (arith, n.corners)) ∙ k4.below (p3 + c) (omega (arith, n.corners)) ∙ w3 c (omega (arith, n.corners));
      curves = λ i l.
          reads_in u5 to Curves i (omega (arith, n.edge_room, n.corners)) ∙ ap (λ p. get_or u5 (p + i) 0) (sym q4)
          ∙ k5.below (p4 + i) (omega (arith, n.edge_room, n.corners)) ∙ w4 i (omega (arith, n.edges)) ∙ ap (λ d. mark (finer d) i) (same t b m s u3 y3) ∙ worked_marks t b m s i l;
      dimensions = λ v l.
          reads_in u5 to Dimensions v (omega (arith, n.vertex_room, n.corners)) ∙ ap (λ p. get_or u5 (p + v) 0) (sym q5)
          ∙ w5 v (omega (arith, n.vertices)) ∙ ap (λ d. (finer d).dimension v) (same t b m s u4 y4) ∙ worked_dimensions t b m s v l;
    }
