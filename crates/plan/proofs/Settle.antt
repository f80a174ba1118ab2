-- A settled block tells the level's incidence. Assumes nothing.
use Rattle.std.proofs.Common.{◌≡◌, ℕ, ◌+◌, ◌-◌, ◌*◌, ◌/◌, ◌<◌, ◌≤◌, min, max, Bool, true, false, cond, ◌&&◌, eqb, ltb, ◌⊎◌, List, [], ◌∷◌, map, length, get_or, sym, refl, ap, ◌∙◌, ap₂, ⊎_elim, add-zero, add_assoc, arith}
use Rattle.std.specs.Borrow.{Bor}
use Rattle.std.specs.Fn.{Shared}
use Rattle.std.specs.List.{range_with_len}
use Rattle.std.proofs.lemmas.List.FromFn.{length-range_with_len}
use Rattle.std.proofs.ByRecursion.{All-weaker}
use Rattle.std.proofs.lemmas.Simd.{map-map}
use Rattle.std.proofs.lemmas.List.Sums.{length-filter, count_by-le-length}
use Rattle.std.proofs.lemmas.Bool.{cases_lt, cond-true, cond-false, lt-ltb, le-ltb, ltb-true}
use Rattle.hierarchy.specs.declared.link.Link.{Link}
use Rattle.hierarchy.specs.declared.link.Link.TheVariants.{EdgeEnds, EdgeFaces, FaceVertices, FaceEdges, VertexEdges, VertexFaces}
use Rattle.levels.specs.Incidence.{incident, those}
use Rattle.levels.specs.Level.{Level}
use Rattle.levels.specs.Sound.{Sound}
use Rattle.levels.proofs.Lists.{sources_at, targets_at, relates, incident_in, incident_past}
use Rattle.plan.specs.declared.block.Block.{Block}
use Rattle.plan.specs.declared.block.Array.{Array}
use Rattle.plan.specs.declared.block.Array.TheVariants.{Ends, Halves, Faces, VertexHalfEnds, VertexHalves, VertexCornerEnds, VertexCorners, EdgeCornerEnds, EdgeCorners, FaceEnds, FaceByVertex, FaceByEdge, Curves, Dimensions}
use Rattle.plan.specs.Decoded.{decoded, start_of}
use Rattle.plan.specs.Giving.{Gives}
use Rattle.plan.specs.Layout.{begins, rooms, reads}
use Rattle.plan.specs.Plain.{Plain}
use Rattle.plan.specs.Settled.{Turned, Same, Ascending, Settled}
use Rattle.plan.specs.Sorting.{Keeps, having, sorted}
use Rattle.plan.specs.Told.{run}
use Rattle.plan.specs.Loaded.{at, Part, numbers, nothing, span_in, loaded, loaded_curve, loaded_dimension}
use Rattle.plan.specs.Written.{Clears, Counts, Shows, Grouped, Lists, Standing}
use Rattle.plan.proofs.Crossing.{map_alike, group_run, ascending_those}
use Rattle.plan.proofs.Grouping.{counting_below}
use Rattle.plan.proofs.Places.{keeps_then, keeps_wider}
use Rattle.plan.proofs.Reading.{reads_in, decoded_kept}
use Rattle.plan.proofs.Showing.{shown_vertex, shown_side, clears_lists, clears_faces}
use Rattle.plan.proofs.Plains.{length_sorted_below}
use Rattle.plan.proofs.Telling.{faces_at, round_face, halves_at, edge_tail, edge_head}

-- a list that was turned, number by number, is what its numbers turn into
turned_run : (t : List ℕ) (e l n : ℕ) (f ends list : ℕ → ℕ) (i : ℕ) → start_of (at t e) i ≡ start_of ends i → at t e i ≡ ends i → ends i ≤ n → ((j : ℕ) → j < n → at t l j ≡ f (list j))
    → numbers t (span_in t e l i) ≡ map f (run ends list i)
turned_run t e l n f ends list i first last few each =
    ap₂ (λ s c. map (λ k. get_or t (l + s + k) 0) (range_with_len 0 (c - s))) first last
    ∙ map_alike _ _ (range_with_len 0 (ends i - start_of ends i)) (All-weaker (λ k. k < ends i - start_of ends i) _ (λ k h. ap (λ p. get_or t p 0) (add_assoc l (start_of ends i) k) ∙ each (start_of ends i + k) (omega arith)) _ (counting_below (ends i - start_of ends i)))
    ∙ sym (map-map f (λ k. list (start_of ends i + k)) (range_with_len 0 (ends i - start_of ends i)))

sorted_few : (key : ℕ → ℕ) (n : ℕ) (xs : List ℕ) → length (sorted key n xs) ≤ length xs
sorted_few key n xs = omega (arith, length_sorted_below key n xs, length-filter (λ x. ltb (key x) n) xs, count_by-le-length (λ x. ltb (key x) n) xs)

ended_few : {ends list key : ℕ → ℕ} {n : ℕ} {xs : List ℕ} → Grouped ends list key n xs → (i : ℕ) → i < n → ends i ≤ length xs
ended_few {key = key} {xs = xs} g i l = omega (arith, g.ended i l, sorted_few key (i + 1) xs)

start_same : (f g : ℕ → ℕ) (n i : ℕ) → i < n → ((j : ℕ) → j < n → f j ≡ g j) → start_of f i ≡ start_of g i
start_same f g n i l h = ap (cond (eqb i 0) 0) (h (i - 1) (omega arith))

and_where : (x p q : Bool) → (x ≡ true → p ≡ q) → (x && p) ≡ (x && q)
and_where true p q h = h refl
and_where false p q h = refl

number_where : (x : Bool) (p q : ℕ) → (x ≡ true → p ≡ q) → cond x p 0 ≡ cond x q 0
number_where true p q h = h refl
number_where false p q h = refl

module _ (t : List ℕ) (b : Block) (m : Level) (settled : Settled t b m) where
  abbrev s : List ℕ
  s = settled.before

  abbrev shows : Shows s b m
  shows = settled.standing.shows

  abbrev lists : Lists s b m
  lists = settled.standing.lists

  abbrev sound : Sound m
  sound = settled.standing.sound

  abbrev plain : Plain m
  plain = settled.standing.plain

  abbrev n : Counts b m
  n = shows.counts

  -- an array that stays, as it was read
  kept : (a : Array) → Same s t b a → (i : ℕ) → i < rooms b a → at t (begins b a) i ≡ reads s b a i
  kept a same i l = same i l ∙ sym (reads_in s b a i l)

  turned_list : (e a : Array) (turn : ℕ → ℕ) (count : ℕ) {key : ℕ → ℕ} {k : ℕ} {xs : List ℕ} → Same s t b e → Turned turn s t b a count → Grouped (reads s b e) (reads s b a) key k xs → length xs ≤ count → k ≤ rooms b e → count ≤ rooms b a
      → (i : ℕ) → i < k → numbers t (span_in t (begins b e) (begins b a) i) ≡ map turn (having key i xs)
  turned_list e a turn count {key = key} {k = k} {xs = xs} same each grouped few ends-room room i l =
      turned_run t (begins b e) (begins b a) count turn (reads s b e) (reads s b a) i
      (start_same (at t (begins b e)) (reads s b e) k i l (λ j h. kept e same j (omega arith))) (kept e same i (omega arith)) (omega (arith, ended_few grouped i l))
      (λ j h. each j h ∙ ap turn (sym (reads_in s b a j (omega arith))))
      ∙ ap (map turn) (group_run (reads s b e) (reads s b a) key k xs grouped i l)

  counted : (k : ℕ) → length (range_with_len 0 k) ≡ k
  counted k = length-range_with_len 0 k

  within : (i n k : ℕ) (p : Part) → n ≡ k → i < k → numbers t (cond (ltb i n) p nothing) ≡ numbers t p
  within i n k p e l = ap (numbers t) (cond-true (ltb i n) p nothing (lt-ltb i n (omega arith)))

  past : (i n k : ℕ) (p : Part) → n ≡ k → k ≤ i → numbers t (cond (ltb i n) p nothing) ≡ []
  past i n k p e l = ap (numbers t) (cond-false (ltb i n) p nothing (le-ltb i n (omega arith)))

  loaded_in : (l : Link) (i : ℕ) → i < sources_at m l → loaded t b l i ≡ those (relates m l i) (targets_at m l)
  loaded_in EdgeEnds e l =
      let lb : e < b.edges = omega (arith, n.edges) in
      let room : 2 * e + 1 < 2 * b.corners = omega (arith, n.edges, n.edge_room, n.corners) in
      let tail = edge_tail s b m shows lists sound plain e l in
      let head = edge_head s b m shows lists sound plain e l in
      let first = ap (λ p. get_or t p 0) (add-zero (begins b Ends + 2 * e)) ∙ settled.ends.lower e lb in
      let second = ap (λ p. get_or t p 0) (add_assoc (begins b Ends) (2 * e) 1) ∙ settled.ends.higher e lb in
      within e b.edges m.edges _ n.edges l
      ∙ ap₂ (λ x y. x ∷ y ∷ []) first second ∙ ap₂ (λ x y. min x y ∷ max x y ∷ []) (sym (reads_in s b Ends (2 * e) (omega arith)) ∙ tail) (sym (reads_in s b Ends (2 * e + 1) room) ∙ head)
      ∙ ascending_those (m.tail e) (m.head e) m.vertices (sound.apart e l) (sound.tails e l) (sound.heads e l)
  loaded_in EdgeFaces e l =
      within e b.edges m.edges _ n.edges l
      ∙ turned_list EdgeCornerEnds EdgeCorners (decoded s b).face b.corners settled.edge_corner_ends settled.edge_faces lists.edge_corners (omega (arith, counted m.corners, n.corners)) (omega (arith, n.edge_room, n.corners)) (omega arith) e l
      ∙ faces_at s b m shows lists sound plain m.side plain.sides_once e
  loaded_in FaceVertices f l =
      within f b.faces m.faces _ n.faces l
      ∙ turned_list FaceEnds FaceByVertex (decoded s b).vertex b.corners settled.face_ends settled.face_vertices lists.by_vertex (omega (arith, sorted_few m.vertex m.vertices (range_with_len 0 m.corners), counted m.corners, n.corners)) (omega (arith, n.face_room, n.corners)) (omega arith) f l
      ∙ round_face s b m shows lists sound plain (decoded s b).vertex m.vertex m.vertices (shown_vertex m sound s b shows) plain.vertices_once f
  loaded_in FaceEdges f l =
      within f b.faces m.faces _ n.faces l
      ∙ turned_list FaceEnds FaceByEdge (decoded s b).side b.corners settled.face_ends settled.face_edges lists.by_edge (omega (arith, sorted_few m.side m.edges (range_with_len 0 m.corners), counted m.corners, n.corners)) (omega (arith, n.face_room, n.corners)) (omega arith) f l
      ∙ round_face s b m shows lists sound plain (decoded s b).side m.side m.edges (shown_side m sound s b shows) plain.sides_once f
  loaded_in VertexEdges v l =
      within v b.vertices m.vertices _ n.vertices l
      ∙ turned_list VertexHalfEnds VertexHalves (λ h. h / 2) (2 * b.edges) settled.vertex_half_ends settled.vertex_edges lists.vertex_halves (omega (arith, counted (2 * m.edges), n.edges)) (omega (arith, n.vertex_room, n.corners)) (omega (arith, n.edges, n.edge_room, n.corners)) v l
      ∙ halves_at s b m shows lists sound plain v
  loaded_in VertexFaces v l =
      within v b.vertices m.vertices _ n.vertices l
      ∙ turned_list VertexCornerEnds VertexCorners (decoded s b).face b.corners settled.vertex_corner_ends settled.vertex_faces lists.vertex_corners (omega (arith, counted m.corners, n.corners)) (omega (arith, n.vertex_room, n.corners)) (omega arith) v l
      ∙ faces_at s b m shows lists sound plain m.vertex plain.vertices_once v

  loaded_past : (l : Link) (i : ℕ) → sources_at m l ≤ i → loaded t b l i ≡ []
  loaded_past EdgeEnds i h = past i b.edges m.edges _ n.edges h
  loaded_past EdgeFaces i h = past i b.edges m.edges _ n.edges h
  loaded_past FaceVertices i h = past i b.faces m.faces _ n.faces h
  loaded_past FaceEdges i h = past i b.faces m.faces _ n.faces h
  loaded_past VertexEdges i h = past i b.vertices m.vertices _ n.vertices h
  loaded_past VertexFaces i h = past i b.vertices m.vertices _ n.vertices h

  pub loaded_incident : (l : Link) (i : ℕ) → loaded t b l i ≡ incident m l i
  loaded_incident l i = ⊎_elim (λ (h : i < sources_at m l). loaded_in l i h ∙ sym (incident_in m l i h)) (λ (h : sources_at m l ≤ i). loaded_past l i h ∙ sym (incident_past m sound l i h)) (cases_lt i (sources_at m l))

  pub loaded_curves : (e : ℕ) → loaded_curve t b e ≡ (ltb e m.edges && m.curve e)
  loaded_curves e =
      and_where (ltb e b.edges) _ _ (λ h.
      let l = ltb-true e b.edges h in
      ap (λ x. eqb x 1) (kept Curves settled.curves e (omega (arith, n.edges, n.edge_room, n.corners)) ∙ settled.standing.shows.curves e (omega (arith, n.edges))) ∙ marks (m.curve e))
      ∙ ap (λ k. ltb e k && m.curve e) n.edges
    where
      marks : (x : Bool) → eqb (cond x 1 0) 1 ≡ x
      marks true = refl
      marks false = refl

  pub loaded_dimensions : (v : ℕ) → loaded_dimension t b v ≡ cond (ltb v m.vertices) (m.dimension v) 0
  loaded_dimensions v =
      number_where (ltb v b.vertices) _ _ (λ h.
      let l = ltb-true v b.vertices h in
      kept Dimensions settled.dimensions v (omega (arith, n.vertices, n.vertex_room, n.corners)) ∙ settled.standing.shows.dimensions v (omega (arith, n.vertices)))
      ∙ ap (λ k. cond (ltb v k) (m.dimension v) 0) n.vertices

pub block_first : (b : Block) (a : Array) → b.at ≤ begins b a
block_first b Ends = omega arith
block_first b Halves = omega arith
block_first b Faces = omega arith
block_first b VertexHalfEnds = omega arith
block_first b VertexHalves = omega arith
block_first b VertexCornerEnds = omega arith
block_first b VertexCorners = omega arith
block_first b EdgeCornerEnds = omega arith
block_first b EdgeCorners = omega arith
block_first b FaceEnds = omega arith
block_first b FaceByVertex = omega arith
block_first b FaceByEdge = omega arith
block_first b Curves = omega arith
block_first b Dimensions = omega arith

pub block_last : (b : Block) (a : Array) → begins b a + rooms b a ≤ b.at + 16 * b.corners
block_last b Ends = omega arith
block_last b Halves = omega arith
block_last b Faces = omega arith
block_last b VertexHalfEnds = omega arith
block_last b VertexHalves = omega arith
block_last b VertexCornerEnds = omega arith
block_last b VertexCorners = omega arith
block_last b EdgeCornerEnds = omega arith
block_last b EdgeCorners = omega arith
block_last b FaceEnds = omega arith
block_last b FaceByVertex = omega arith
block_last b FaceByEdge = omega arith
block_last b Curves = omega arith
block_last b Dimensions = omega arith

-- what is written before or behind a settled block leaves it
pub settled_kept : (t u : List ℕ) (b : Block) (m : Level) (low high : ℕ) → (b.at + 16 * b.corners ≤ low) ⊎ (high ≤ b.at) → Keeps t u low high → Settled t b m → Settled u b m
settled_kept t u b m low high away k q =
    let n = q.standing.shows.counts in
    let e : b.edges ≤ b.corners = omega (arith, n.edges, n.edge_room, n.corners) in
    record {
      before = q.before;
      standing = q.standing;
      ends = record { lower = λ i l. stays Ends (2 * i) (omega arith) ∙ q.ends.lower i l; higher = λ i l. stays Ends (2 * i + 1) (omega arith) ∙ q.ends.higher i l };
      vertex_edges = λ i l. stays VertexHalves i (omega arith) ∙ q.vertex_edges i l;
      vertex_faces = λ i l. stays VertexCorners i (omega arith) ∙ q.vertex_faces i l;
      edge_faces = λ i l. stays EdgeCorners i (omega arith) ∙ q.edge_faces i l;
      face_vertices = λ i l. stays FaceByVertex i (omega arith) ∙ q.face_vertices i l;
      face_edges = λ i l. stays FaceByEdge i (omega arith) ∙ q.face_edges i l;
      vertex_half_ends = λ i l. stays VertexHalfEnds i (omega arith) ∙ q.vertex_half_ends i l;
      vertex_corner_ends = λ i l. stays VertexCornerEnds i (omega arith) ∙ q.vertex_corner_ends i l;
      edge_corner_ends = λ i l. stays EdgeCornerEnds i (omega arith) ∙ q.edge_corner_ends i l;
      face_ends = λ i l. stays FaceEnds i (omega arith) ∙ q.face_ends i l;
      curves = λ i l. stays Curves i (omega arith) ∙ q.curves i l;
      dimensions = λ i l. stays Dimensions i (omega arith) ∙ q.dimensions i l;
    }
  where
    stays : (a : Array) (i : ℕ) → begins b a + i < b.at + 16 * b.corners → at u (begins b a) i ≡ at t (begins b a) i
    stays a i l = ⊎_elim (λ (behind : b.at + 16 * b.corners ≤ low). k.below _ (omega arith)) (λ (ahead : high ≤ b.at). k.above _ (let first = block_first b a in omega arith)) away

-- an array each of whose numbers was written anew from the number itself
pub turned_by : {F : Type 0} {g : Shared F (Bor (List ℕ) × (ℕ × Unit {0})) ℕ} {number : F} {t : List ℕ} (u : List ℕ) {p : ℕ} (b : Block) (a : Array) (count : ℕ) (turn : Level → ℕ → ℕ) → p ≡ begins b a → count ≤ rooms b a → Clears b (begins b a) (begins b a + count)
    → ((i r : ℕ) (w : Gives g number t p i r) → i < count → r ≡ turn (decoded w.table.now b) (reads w.table.now b a i)) → ((i : ℕ) → i < count → Gives g number t p i (get_or u (p + i) 0)) → Turned (turn (decoded t b)) t u b a count
turned_by {t = t} u {p = p} b a count turn e room clear says written i l =
    let w = written i l in
    let k = keeps_wider (begins b a) (begins b a + count) (omega (arith, e)) (omega (arith, e)) w.kept in
    let before = reads_in w.table.now b a i (omega arith) ∙ w.kept.above (begins b a + i) (omega (arith, e)) in
    ap (λ q. get_or u (q + i) 0) (sym e) ∙ says i _ w l ∙ ap₂ (λ (d : Level) (x : ℕ). turn d x) (decoded_kept t w.table.now b (begins b a) (begins b a + count) clear k) before

-- one array after the other is turned, and last the ends of edges are sorted
module _ (b : Block) (m : Level) (s0 s1 s2 s3 s4 s5 s6 : List ℕ) (standing : Standing s0 b m)
    (w1 : Turned (λ h. h / 2) s0 s1 b VertexHalves (2 * b.edges)) (k1 : Keeps s0 s1 (begins b VertexHalves) (begins b VertexHalves + 2 * b.edges))
    (w2 : Turned (decoded s1 b).face s1 s2 b VertexCorners b.corners) (k2 : Keeps s1 s2 (begins b VertexCorners) (begins b VertexCorners + b.corners))
    (w3 : Turned (decoded s2 b).face s2 s3 b EdgeCorners b.corners) (k3 : Keeps s2 s3 (begins b EdgeCorners) (begins b EdgeCorners + b.corners))
    (w4 : Turned (decoded s3 b).vertex s3 s4 b FaceByVertex b.corners) (k4 : Keeps s3 s4 (begins b FaceByVertex) (begins b FaceByVertex + b.corners))
    (w5 : Turned (decoded s4 b).side s4 s5 b FaceByEdge b.corners) (k5 : Keeps s4 s5 (begins b FaceByEdge) (begins b FaceByEdge + b.corners))
    (w6 : Ascending s5 s6 b) (k6 : Keeps s5 s6 (begins b Ends) (begins b Ends + 2 * b.edges)) where
  few : b.edges ≤ b.corners
  few = let n = standing.shows.counts in omega (arith, n.edges, n.edge_room, n.corners)

  d1 : decoded s1 b ≡ decoded s0 b
  d1 = let e = few in decoded_kept s0 s1 b _ _ (clears_lists b _ _ (omega arith) (omega arith)) k1

  d2 : decoded s2 b ≡ decoded s0 b
  d2 = decoded_kept s1 s2 b _ _ (clears_lists b _ _ (omega arith) (omega arith)) k2 ∙ d1

  d3 : decoded s3 b ≡ decoded s0 b
  d3 = decoded_kept s2 s3 b _ _ (clears_lists b _ _ (omega arith) (omega arith)) k3 ∙ d2

  d4 : decoded s4 b ≡ decoded s0 b
  d4 = decoded_kept s3 s4 b _ _ (clears_faces b _ _ (omega arith) (omega arith)) k4 ∙ d3

  pub settled_from : Settled s6 b m
  settled_from = let e = few in record {
    before = s0;
    standing = standing;
    ends = record { lower = λ i l. w6.lower i l ∙ ap₂ min (ends_before (2 * i) (omega arith)) (ends_before (2 * i + 1) (omega arith)); higher = λ i l. w6.higher i l ∙ ap₂ max (ends_before (2 * i) (omega arith)) (ends_before (2 * i + 1) (omega arith)) };
    vertex_edges = λ i l. k6.above _ (omega arith) ∙ k5.below _ (omega arith) ∙ k4.below _ (omega arith) ∙ k3.below _ (omega arith) ∙ k2.below _ (omega arith) ∙ w1 i l;
    vertex_faces = λ i l. k6.above _ (omega arith) ∙ k5.below _ (omega arith) ∙ k4.below _ (omega arith) ∙ k3.below _ (omega arith) ∙ w2 i l ∙ ap₂ (λ (n : Level) (x : ℕ). n.face x) d1 (k1.above _ (omega arith));
    edge_faces = λ i l. k6.above _ (omega arith) ∙ k5.below _ (omega arith) ∙ k4.below _ (omega arith) ∙ w3 i l ∙ ap₂ (λ (n : Level) (x : ℕ). n.face x) d2 (k2.above _ (omega arith) ∙ k1.above _ (omega arith));
    face_vertices = λ i l. k6.above _ (omega arith) ∙ k5.below _ (omega arith) ∙ w4 i l ∙ ap₂ (λ (n : Level) (x : ℕ). n.vertex x) d3 (k3.above _ (omega arith) ∙ k2.above _ (omega arith) ∙ k1.above _ (omega arith));
    face_edges = λ i l. k6.above _ (omega arith) ∙ w5 i l ∙ ap₂ (λ (n : Level) (x : ℕ). n.side x) d4 (k4.above _ (omega arith) ∙ k3.above _ (omega arith) ∙ k2.above _ (omega arith) ∙ k1.above _ (omega arith));
    vertex_half_ends = λ i l. k6.above _ (omega arith) ∙ k5.below _ (omega arith) ∙ k4.below _ (omega arith) ∙ k3.below _ (omega arith) ∙ k2.below _ (omega arith) ∙ k1.below _ (omega arith);
    vertex_corner_ends = λ i l. k6.above _ (omega arith) ∙ k5.below _ (omega arith) ∙ k4.below _ (omega arith) ∙ k3.below _ (omega arith) ∙ k2.below _ (omega arith) ∙ k1.above _ (omega arith);
    edge_corner_ends = λ i l. k6.above _ (omega arith) ∙ k5.below _ (omega arith) ∙ k4.below _ (omega arith) ∙ k3.below _ (omega arith) ∙ k2.above _ (omega arith) ∙ k1.above _ (omega arith);
    face_ends = λ i l. k6.above _ (omega arith) ∙ k5.below _ (omega arith) ∙ k4.below _ (omega arith) ∙ k3.above _ (omega arith) ∙ k2.above _ (omega arith) ∙ k1.above _ (omega arith);
    curves = λ i l. k6.above _ (omega arith) ∙ k5.above _ (omega arith) ∙ k4.above _ (omega arith) ∙ k3.above _ (omega arith) ∙ k2.above _ (omega arith) ∙ k1.above _ (omega arith);
    dimensions = λ i l. k6.above _ (omega arith) ∙ k5.above _ (omega arith) ∙ k4.above _ (omega arith) ∙ k3.above _ (omega arith) ∙ k2.above _ (omega arith) ∙ k1.above _ (omega arith);
  }
    where
      ends_before : (h : ℕ) → h < 2 * b.edges → at s5 (begins b Ends) h ≡ at s0 (begins b Ends) h
      ends_before h l = let e = few in k5.below _ (omega arith) ∙ k4.below _ (omega arith) ∙ k3.below _ (omega arith) ∙ k2.below _ (omega arith) ∙ k1.below _ (omega arith)

  pub settled_keeps : Keeps s0 s6 b.at (b.at + 16 * b.corners)
  settled_keeps = let e = few in keeps_then (keeps_wider _ _ (omega arith) (omega arith) k1) (keeps_then (keeps_wider _ _ (omega arith) (omega arith) k2) (keeps_then (keeps_wider _ _ (omega arith) (omega arith) k3) (keeps_then (keeps_wider _ _ (omega arith) (omega arith) k4) (keeps_then (keeps_wider _ _ (omega arith) (omega arith) k5) (keeps_wider _ _ (omega arith) (omega arith) k6)))))
