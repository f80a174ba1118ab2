-- What the corners and half edges that a block lists are at: the level's incidence. Assumes nothing.
use Rattle.std.proofs.Common.{◌≡◌, ℕ, ◌+◌, ◌*◌, ◌/◌, ◌%◌, ◌<◌, Bool, true, ◌&&◌, ◌||◌, eqb, List, map, filter, sym, ap, ◌∙◌, ap₂, ⊎_elim, arith}
use mathlib.Core.Bool.{and_comm}
use mathlib.Core.Path.{fun_ext}
use Rattle.std.specs.List.{range_with_len, AllByRecursion}
use Rattle.std.proofs.ByRecursion.{all_kept_by, All-weaker}
use Rattle.std.proofs.lemmas.Bool.{cases_eq, cond-true, cond-false, eq-eqb, ne_eqb, eqb-true, and_parts, and_from, or_left, or_right}
use Rattle.plan.specs.Sorting.{having, sorted}
use Rattle.mesh.specs.Shape.{any}
use Rattle.levels.specs.Level.{Level}
use Rattle.levels.specs.Incidence.{those, touches}
use Rattle.levels.specs.Sound.{Sound}
use Rattle.levels.proofs.Counting.{fails}
use Rattle.levels.proofs.Corners.{any_yes, any_no}
use Rattle.levels.proofs.Rising.{those_alike}
use Rattle.plan.specs.declared.block.Block.{Block}
use Rattle.plan.specs.declared.block.Array.TheVariants.{Ends, Faces}
use Rattle.plan.specs.Decoded.{end_at}
use Rattle.plan.specs.Layout.{reads}
use Rattle.plan.specs.Plain.{Plain}
use Rattle.plan.specs.Written.{Counts, Shows, Lists}
use Rattle.plan.proofs.Crossing.{crossed, in_order, map_alike}
use Rattle.plan.proofs.Grouping.{counting_below, sorted_all}

-- a half edge of an edge ends at a vertex just if the edge touches it
half_touches : (m : Level) → Sound m → (v e : ℕ) → e < m.edges → any (λ h. eqb (h / 2) e && eqb (end_at m h) v) (range_with_len 0 (2 * m.edges)) ≡ touches m e v
half_touches m sound v e l =
    let q : ℕ → Bool = λ h. eqb (h / 2) e && eqb (end_at m h) v in
    let tail_at : end_at m (2 * e) ≡ m.tail e = cond-true (eqb (2 * e % 2) 0) _ _ (eq-eqb _ 0 (omega arith)) ∙ ap m.tail (omega arith) in
    let head_at : end_at m (2 * e + 1) ≡ m.head e = cond-false (eqb ((2 * e + 1) % 2) 0) _ _ (ne_eqb _ 0 (omega arith)) ∙ ap m.head (omega arith) in
    ⊎_elim
    (λ (t : m.tail e ≡ v). any_yes q (2 * m.edges) (2 * e) (omega arith) (and_from _ _ (eq-eqb _ e (omega arith)) (eq-eqb _ v (tail_at ∙ t))) ∙ sym (or_left _ _ (eq-eqb (m.tail e) v t)))
    (λ (nt : m.tail e ≡ v → ⊥). ⊎_elim
    (λ (t : m.head e ≡ v). any_yes q (2 * m.edges) (2 * e + 1) (omega arith) (and_from _ _ (eq-eqb _ e (omega arith)) (eq-eqb _ v (head_at ∙ t))) ∙ sym (or_right _ _ (eq-eqb (m.head e) v t)))
    (λ (nh : m.head e ≡ v → ⊥).
    any_no q (2 * m.edges) (λ h k. fails (q h) (λ t.
    let a = and_parts (eqb (h / 2) e) (eqb (end_at m h) v) t in
    let at = eqb-true (h / 2) e a.0 in
    let to = eqb-true (end_at m h) v a.1 in
    ⊎_elim (λ (z : h % 2 ≡ 0). nt (sym tail_at ∙ ap (end_at m) (omega arith) ∙ to)) (λ (z : h % 2 ≡ 0 → ⊥). nh (sym head_at ∙ ap (end_at m) (let w = z in omega arith) ∙ to)) (cases_eq (h % 2) 0)))
    ∙ sym (ap₂ ◌||◌ (ne_eqb (m.tail e) v nt) (ne_eqb (m.head e) v nh)))
    (cases_eq (m.head e) v))
    (cases_eq (m.tail e) v)

-- an edge's two half edges end at two vertices
half_once : (m : Level) → Sound m → (v h k : ℕ) → h < 2 * m.edges → k < 2 * m.edges → eqb (end_at m h) v ≡ true → eqb (end_at m k) v ≡ true → h / 2 ≡ k / 2 → h ≡ k
half_once m sound v h k lh lk th tk e =
    let a = eqb-true (end_at m h) v th in
    let b = eqb-true (end_at m k) v tk in
    let apart = sound.apart (h / 2) (omega arith) in
    let tail_of : (i : ℕ) → i % 2 ≡ 0 → end_at m i ≡ m.tail (i / 2) = λ i z. cond-true (eqb (i % 2) 0) _ _ (eq-eqb _ 0 z) in
    let head_of : (i : ℕ) → (i % 2 ≡ 0 → ⊥) → end_at m i ≡ m.head (i / 2) = λ i z. cond-false (eqb (i % 2) 0) _ _ (ne_eqb _ 0 z) in
    ⊎_elim
    (λ (zh : h % 2 ≡ 0). ⊎_elim (λ (zk : k % 2 ≡ 0). omega arith) (λ (zk : k % 2 ≡ 0 → ⊥). absurd (apart (sym (tail_of h zh) ∙ a ∙ sym b ∙ head_of k zk ∙ ap m.head (sym e)))) (cases_eq (k % 2) 0))
    (λ (zh : h % 2 ≡ 0 → ⊥). ⊎_elim (λ (zk : k % 2 ≡ 0). absurd (apart (ap m.tail e ∙ sym (tail_of k zk) ∙ b ∙ sym a ∙ head_of h zh))) (λ (zk : k % 2 ≡ 0 → ⊥). let x = zh in let y = zk in omega arith) (cases_eq (k % 2) 0))
    (cases_eq (h % 2) 0)

swapped : (f g : ℕ → Bool) (xs : List ℕ) → any (λ c. f c && g c) xs ≡ any (λ c. g c && f c) xs
swapped f g xs = ap (λ q. any q xs) (fun_ext (λ c. and_comm (f c) (g c)))

module _ (t : List ℕ) (b : Block) (m : Level) (shows : Shows t b m) (lists : Lists t b m) (sound : Sound m) (plain : Plain m) where
  abbrev n : Counts b m
  n = shows.counts

  picked : (p : ℕ → Bool) (key : ℕ → ℕ) (x : ℕ) → AllByRecursion (λ c. c < m.corners) (filter p (sorted key x (range_with_len 0 m.corners)))
  picked p key x = all_kept_by p (λ c. c < m.corners) _ (sorted_all (λ c. c < m.corners) key x (range_with_len 0 m.corners) (counting_below m.corners))

  -- faces at what corners have
  pub faces_at : (key : ℕ → ℕ) → ((c d : ℕ) → c < m.corners → d < m.corners → m.face c ≡ m.face d → key c ≡ key d → c ≡ d) → (x : ℕ)
      → map (reads t b Faces) (having key x (range_with_len 0 m.corners)) ≡ those (λ f. any (λ c. eqb (m.face c) f && eqb (key c) x) (range_with_len 0 m.corners)) m.faces
  faces_at key once x =
      let p : ℕ → Bool = λ c. eqb (key c) x in
      map_alike (reads t b Faces) m.face (having key x (range_with_len 0 m.corners)) (All-weaker (λ c. c < m.corners) (λ c. reads t b Faces c ≡ m.face c) (λ c l. shows.faces c l) _ (all_kept_by p (λ c. c < m.corners) _ (counting_below m.corners)))
      ∙ ap (λ l. map m.face (filter p l)) (sym (in_order m.face m.faces m.corners sound.faced plain.ordered))
      ∙ crossed m.face p m.corners (λ i j l k u v e. once i j l k e (eqb-true (key i) x u ∙ sym (eqb-true (key j) x v))) m.faces

  -- what the corners of a face have
  pub round_face : (read key : ℕ → ℕ) (k : ℕ) → ((c : ℕ) → c < m.corners → read c ≡ key c) → ((c d : ℕ) → c < m.corners → d < m.corners → m.face c ≡ m.face d → key c ≡ key d → c ≡ d) → (f : ℕ)
      → map read (having m.face f (sorted key k (range_with_len 0 m.corners))) ≡ those (λ x. any (λ c. eqb (m.face c) f && eqb (key c) x) (range_with_len 0 m.corners)) k
  round_face read key k reading once f =
      let p : ℕ → Bool = λ c. eqb (m.face c) f in
      map_alike read key _ (All-weaker (λ c. c < m.corners) (λ c. read c ≡ key c) reading _ (picked p key k))
      ∙ crossed key p m.corners (λ i j l k u v e. once i j l k (eqb-true (m.face i) f u ∙ sym (eqb-true (m.face j) f v)) e) k
      ∙ ap (λ q. those q k) (fun_ext (λ x. swapped (λ c. eqb (key c) x) p (range_with_len 0 m.corners)))

  pub halves_at : (v : ℕ) → map (λ h. h / 2) (having (end_at m) v (range_with_len 0 (2 * m.edges))) ≡ those (λ e. touches m e v) m.edges
  halves_at v =
      let p : ℕ → Bool = λ h. eqb (end_at m h) v in
      ap (λ l. map (λ h. h / 2) (filter p l)) (sym (in_order (λ h. h / 2) m.edges (2 * m.edges) (λ h l. omega arith) (λ h l. omega arith)))
      ∙ crossed (λ h. h / 2) p (2 * m.edges) (λ i j l k u w e. half_once m sound v i j l k u w e) m.edges
      ∙ those_alike _ _ m.edges (λ e l. half_touches m sound v e l)

  pub edge_tail : (e : ℕ) → e < m.edges → reads t b Ends (2 * e) ≡ m.tail e
  edge_tail e l = shows.ends (2 * e) (omega arith) ∙ cond-true (eqb (2 * e % 2) 0) _ _ (eq-eqb _ 0 (omega arith)) ∙ ap m.tail (omega arith)

  pub edge_head : (e : ℕ) → e < m.edges → reads t b Ends (2 * e + 1) ≡ m.head e
  edge_head e l = shows.ends (2 * e + 1) (omega arith) ∙ cond-false (eqb ((2 * e + 1) % 2) 0) _ _ (ne_eqb _ 0 (omega arith)) ∙ ap m.head (omega arith)
