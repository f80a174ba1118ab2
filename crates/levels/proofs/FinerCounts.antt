-- How many edges and corners a finer level has at a vertex, an edge and a face. Assumes nothing.
use Rattle.std.proofs.Common.{◌≡◌, ℕ, ◌+◌, ◌*◌, ◌<◌, Bool, false, ◌||◌, eqb, sym, refl, ap, ◌∙◌, ap₂, arith}
use mathlib.Core.Bool.{or-false}
use Rattle.std.proofs.lemmas.Bool.{lt-ltb, ne_eqb, eqb-true}
use Rattle.std.proofs.lemmas.Bool.Decides.{nat_tests}
use Rattle.levels.specs.Level.{Level}
use Rattle.levels.specs.Finer.{edge_vertex, face_vertex, inner_edge, half_at, finer}
use Rattle.levels.specs.Incidence.{touches}
use Rattle.levels.specs.Sound.{Sound, count}
use Rattle.levels.proofs.Counting.{weight, count_alike, count_none, count_or, count_only, count_plus, count_double, count_four, count_permuted}
use Rattle.levels.proofs.Places.{tail_first, head_first, tail_second, head_second, tail_inner, head_inner, vertex_0, vertex_1, vertex_2, vertex_3, side_0, side_1, side_2, side_3}

pub eqb_plus : (a x y : ℕ) → eqb (a + x) (a + y) ≡ eqb x y
eqb_plus a x y = grind (arith, nat_tests)

or_first : (x y z : Bool) → x ≡ z → y ≡ false → (x || y) ≡ z
or_first x y z e f = ap₂ ◌||◌ e f ∙ or-false z

or_second : (x y z : Bool) → x ≡ false → y ≡ z → (x || y) ≡ z
or_second x y z f e = ap₂ ◌||◌ f e

-- a count over 4k numbers, where f is known at each of four
module _ (t : ℕ → Bool) (f : ℕ → ℕ) (a0 a1 a2 a3 : ℕ → ℕ) (k : ℕ) where
  count_quarters : ((c : ℕ) → f (4 * c) ≡ a0 c) → ((c : ℕ) → f (4 * c + 1) ≡ a1 c) → ((c : ℕ) → f (4 * c + 2) ≡ a2 c) → ((c : ℕ) → f (4 * c + 3) ≡ a3 c) → count (λ d. t (f d)) (4 * k) ≡ count (λ c. t (a0 c)) k + count (λ c. t (a1 c)) k + count (λ c. t (a2 c)) k + count (λ c. t (a3 c)) k
  count_quarters h0 h1 h2 h3 =
      let same : (g a : ℕ → ℕ) → ((c : ℕ) → f (g c) ≡ a c) → count (λ c. t (f (g c))) k ≡ count (λ c. t (a c)) k = λ g a h. count_alike (λ c. t (f (g c))) (λ c. t (a c)) k (λ c l. ap t (h c)) in
      omega (arith, count_four (λ d. t (f d)) k, same (λ c. 4 * c) a0 h0, same (λ c. 4 * c + 1) a1 h1, same (λ c. 4 * c + 2) a2 h2, same (λ c. 4 * c + 3) a3 h3)

module _ (m : Level) where
  -- edges by a test of their ends
  count_ends : (t : ℕ → ℕ → Bool) → count (λ e. t ((finer m).tail e) ((finer m).head e)) (finer m).edges ≡ count (λ e. t (m.tail e) (m.vertices + e)) m.edges + count (λ e. t (m.vertices + e) (m.head e)) m.edges + count (λ c. t (m.vertices + m.side c) (m.vertices + m.edges + m.face c)) m.corners
  count_ends t =
      let p : ℕ → Bool = λ e. t ((finer m).tail e) ((finer m).head e) in
      omega (
        arith,
        count_plus p (2 * m.edges) m.corners (finer m).edges refl,
        count_double p m.edges (2 * m.edges) refl,
        count_alike (λ e. p (2 * e)) (λ e. t (m.tail e) (m.vertices + e)) m.edges (λ e l. ap₂ t (tail_first m e l) (head_first m e l)),
        count_alike (λ e. p (2 * e + 1)) (λ e. t (m.vertices + e) (m.head e)) m.edges (λ e l. ap₂ t (tail_second m e l) (head_second m e l)),
        count_alike (λ c. p (2 * m.edges + c)) (λ c. t (m.vertices + m.side c) (m.vertices + m.edges + m.face c)) m.corners (λ c l. ap₂ t (tail_inner m c) (head_inner m c)),
      )

  -- corners by a test of their vertex, and of their side
  count_vertices : (t : ℕ → Bool) → count (λ d. t ((finer m).vertex d)) (4 * m.corners) ≡ count (λ c. t (m.vertex c)) m.corners + count (λ c. t (edge_vertex m (m.side c))) m.corners + count (λ c. t (face_vertex m (m.face c))) m.corners + count (λ c. t (edge_vertex m (m.side (m.back c)))) m.corners
  count_vertices t = count_quarters t (finer m).vertex _ _ _ _ m.corners (vertex_0 m) (vertex_1 m) (vertex_2 m) (vertex_3 m)

  pub count_sides : (t : ℕ → Bool) → count (λ d. t ((finer m).side d)) (4 * m.corners) ≡ count (λ c. t (half_at m (m.side c) (m.vertex c))) m.corners + count (λ c. t (inner_edge m c)) m.corners + count (λ c. t (inner_edge m (m.back c))) m.corners + count (λ c. t (half_at m (m.side (m.back c)) (m.vertex c))) m.corners
  count_sides t = count_quarters t (finer m).side _ _ _ _ m.corners (side_0 m) (side_1 m) (side_2 m) (side_3 m)

  -- a refined face has four corners
  pub face_quad : (f : ℕ) → f < m.corners → count (λ d. eqb ((finer m).face d) f) (finer m).corners ≡ 4
  face_quad f l = omega (arith, count_quarters (λ c. eqb c f) (finer m).face (λ c. c) (λ c. c) (λ c. c) (λ c. c) m.corners (λ c. omega arith) (λ c. omega arith) (λ c. omega arith) (λ c. omega arith), count_only f m.corners, ap weight (lt-ltb f m.corners l))

module _ (m : Level) (sound : Sound m) where
  -- going back round the faces meets each corner once
  pub count_back : (p : ℕ → Bool) → count (λ c. p (m.back c)) m.corners ≡ count p m.corners
  count_back p = count_permuted m.back m.forth p m.corners (λ c l. ((sound.backs c l).0, (sound.backs c l).1)) (λ c l. ((sound.forths c l).0, (sound.forths c l).1))

  pub corners_at_kept : (v : ℕ) → v < m.vertices → count (λ d. eqb ((finer m).vertex d) v) (finer m).corners ≡ count (λ c. eqb (m.vertex c) v) m.corners
  corners_at_kept v l =
      omega (
        arith,
        count_vertices m (λ w. eqb w v),
        count_none (λ c. eqb (edge_vertex m (m.side c)) v) m.corners (λ c k. ne_eqb (edge_vertex m (m.side c)) v (omega arith)),
        count_none (λ c. eqb (face_vertex m (m.face c)) v) m.corners (λ c k. ne_eqb (face_vertex m (m.face c)) v (omega arith)),
        count_none (λ c. eqb (edge_vertex m (m.side (m.back c))) v) m.corners (λ c k. ne_eqb (edge_vertex m (m.side (m.back c))) v (omega arith)),
      )

  pub corners_at_edge : (e : ℕ) → e < m.edges → count (λ d. eqb ((finer m).vertex d) (edge_vertex m e)) (finer m).corners ≡ 2 * count (λ c. eqb (m.side c) e) m.corners
  corners_at_edge e l =
      let w = edge_vertex m e in
      omega (
        arith,
        count_vertices m (λ v. eqb v w),
        count_none (λ c. eqb (m.vertex c) w) m.corners (λ c k. ne_eqb (m.vertex c) w (omega (arith, sound.placed c k))),
        count_alike (λ c. eqb (edge_vertex m (m.side c)) w) (λ c. eqb (m.side c) e) m.corners (λ c k. eqb_plus m.vertices (m.side c) e),
        count_none (λ c. eqb (face_vertex m (m.face c)) w) m.corners (λ c k. ne_eqb (face_vertex m (m.face c)) w (omega arith)),
        count_alike (λ c. eqb (edge_vertex m (m.side (m.back c))) w) (λ c. eqb (m.side (m.back c)) e) m.corners (λ c k. eqb_plus m.vertices (m.side (m.back c)) e),
        count_back (λ c. eqb (m.side c) e),
      )

  pub corners_at_face : (f : ℕ) → count (λ d. eqb ((finer m).vertex d) (face_vertex m f)) (finer m).corners ≡ count (λ c. eqb (m.face c) f) m.corners
  corners_at_face f =
      let w = face_vertex m f in
      omega (
        arith,
        count_vertices m (λ v. eqb v w),
        count_none (λ c. eqb (m.vertex c) w) m.corners (λ c k. ne_eqb (m.vertex c) w (omega (arith, sound.placed c k))),
        count_none (λ c. eqb (edge_vertex m (m.side c)) w) m.corners (λ c k. ne_eqb (edge_vertex m (m.side c)) w (omega (arith, sound.sided c k))),
        count_alike (λ c. eqb (face_vertex m (m.face c)) w) (λ c. eqb (m.face c) f) m.corners (λ c k. eqb_plus (m.vertices + m.edges) (m.face c) f),
        count_none (λ c. eqb (edge_vertex m (m.side (m.back c))) w) m.corners (λ c k. ne_eqb (edge_vertex m (m.side (m.back c))) w (omega (arith, sound.sided (m.back c) (sound.backs c k).0))),
      )

  pub edges_at_kept : (v : ℕ) → v < m.vertices → count (λ e. touches (finer m) e v) (finer m).edges ≡ count (λ e. touches m e v) m.edges
  edges_at_kept v l =
      let past : (i : ℕ) → eqb (m.vertices + i) v ≡ false = λ i. ne_eqb (m.vertices + i) v (omega arith) in
      omega (
        arith,
        count_ends m (λ a b. eqb a v || eqb b v),
        count_alike (λ e. eqb (m.tail e) v || eqb (m.vertices + e) v) (λ e. eqb (m.tail e) v) m.edges (λ e k. or_first _ _ _ refl (past e)),
        count_alike (λ e. eqb (m.vertices + e) v || eqb (m.head e) v) (λ e. eqb (m.head e) v) m.edges (λ e k. or_second _ _ _ (past e) refl),
        count_none (λ c. eqb (edge_vertex m (m.side c)) v || eqb (face_vertex m (m.face c)) v) m.corners (λ c k. or_second _ _ _ (past (m.side c)) (ne_eqb (face_vertex m (m.face c)) v (omega arith))),
        count_or (λ e. eqb (m.tail e) v) (λ e. eqb (m.head e) v) m.edges (λ e k t. ne_eqb (m.head e) v (λ h. sound.apart e k (eqb-true (m.tail e) v t ∙ sym h))),
      )

  pub edges_at_edge : (e : ℕ) → e < m.edges → count (λ d. touches (finer m) d (edge_vertex m e)) (finer m).edges ≡ 2 + count (λ c. eqb (m.side c) e) m.corners
  edges_at_edge e l =
      let w = edge_vertex m e in
      let same : (i : ℕ) → eqb (m.vertices + i) w ≡ eqb i e = λ i. eqb_plus m.vertices i e in
      omega (
        arith,
        count_ends m (λ a b. eqb a w || eqb b w),
        count_only e m.edges,
        ap weight (lt-ltb e m.edges l),
        count_alike (λ d. eqb (m.tail d) w || eqb (m.vertices + d) w) (λ d. eqb d e) m.edges (λ d k. or_second _ _ _ (ne_eqb (m.tail d) w (omega (arith, sound.tails d k))) (same d)),
        count_alike (λ d. eqb (m.vertices + d) w || eqb (m.head d) w) (λ d. eqb d e) m.edges (λ d k. or_first _ _ _ (same d) (ne_eqb (m.head d) w (omega (arith, sound.heads d k)))),
        count_alike (λ c. eqb (edge_vertex m (m.side c)) w || eqb (face_vertex m (m.face c)) w) (λ c. eqb (m.side c) e) m.corners (λ c k. or_first _ _ _ (same (m.side c)) (ne_eqb (face_vertex m (m.face c)) w (omega arith))),
      )

  pub edges_at_face : (f : ℕ) → count (λ d. touches (finer m) d (face_vertex m f)) (finer m).edges ≡ count (λ c. eqb (m.face c) f) m.corners
  edges_at_face f =
      let w = face_vertex m f in
      let low : (i : ℕ) → i < m.edges → eqb (m.vertices + i) w ≡ false = λ i k. ne_eqb (m.vertices + i) w (omega arith) in
      omega (
        arith,
        count_ends m (λ a b. eqb a w || eqb b w),
        count_none (λ d. eqb (m.tail d) w || eqb (m.vertices + d) w) m.edges (λ d k. or_second _ _ _ (ne_eqb (m.tail d) w (omega (arith, sound.tails d k))) (low d k)),
        count_none (λ d. eqb (m.vertices + d) w || eqb (m.head d) w) m.edges (λ d k. or_second _ _ _ (low d k) (ne_eqb (m.head d) w (omega (arith, sound.heads d k)))),
        count_alike (λ c. eqb (edge_vertex m (m.side c)) w || eqb (face_vertex m (m.face c)) w) (λ c. eqb (m.face c) f) m.corners (λ c k. or_second _ _ _ (low (m.side c) (sound.sided c k)) (eqb_plus (m.vertices + m.edges) (m.face c) f)),
      )
