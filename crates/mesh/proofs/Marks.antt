-- The marks of edges: the edges that are marked, and the numbers that these have. Assumes nothing.
use Rattle.std.proofs.Common.{◌≡◌, ℕ, zero, suc, ◌+◌, ◌<◌, Bool, true, false, eqb, List, [], ◌∷◌, map, length, get_or, drop, unwrap_or, sym, refl, ap, ap₂, arith}
use Rattle.std.proofs.lemmas.List.FromFn.{fill_by_all}
use Rattle.std.proofs.lemmas.List.{drop_all, drop_more}
use Rattle.std.proofs.lemmas.Bool.{true≢false, or_from, or_left, eq-eqb, ne_eqb}
use Rattle.std.specs.List.{range_with_len, AllByRecursion}
use Rattle.mesh.specs.declared.Side.{Side}
use Rattle.mesh.specs.Shape.{nowhere, sides, edges, marked, occurs}
use Rattle.mesh.proofs.Edges.{number, firsts_itself}

-- what holds of each edge whose mark is set holds of the marked edges
pub all_marked : (P : Side → Type 0) (es : List Side) (ms : List Bool) → ((k : ℕ) → k < length es → get_or ms k false ≡ true → P (get_or es k nowhere)) → AllByRecursion P (marked es ms)
all_marked P [] ms h = tt
all_marked P (e ∷ es) [] h = tt
all_marked P (e ∷ es) (true ∷ ms) h = (h 0 (omega arith) refl, all_marked P es ms (λ k l t. h (suc k) (omega arith) t))
all_marked P (e ∷ es) (false ∷ ms) h = all_marked P es ms (λ k l t. h (suc k) (omega arith) t)

-- an edge whose mark is set is one of the marked edges
pub marked_at : (es : List Side) (ms : List Bool) (k : ℕ) → k < length es → get_or ms k false ≡ true → (j : ℕ) × (j < length (marked es ms)) × (get_or (marked es ms) j nowhere ≡ get_or es k nowhere)
marked_at [] ms k l t = absurd (omega arith)
marked_at (e ∷ es) [] k l t = absurd (true≢false (sym t))
marked_at (e ∷ es) (true ∷ ms) zero l t = (0, omega arith, refl)
marked_at (e ∷ es) (true ∷ ms) (suc k) l t = let at = marked_at es ms k (omega arith) t in (suc at.0, omega arith, at.2)
marked_at (e ∷ es) (false ∷ ms) zero l t = absurd (true≢false (sym t))
marked_at (e ∷ es) (false ∷ ms) (suc k) l t = marked_at es ms k (omega arith) t

-- the numbers of the marks that are set, the first mark's being k
abbrev pub numbered : ℕ → List Bool → List ℕ
numbered k [] = []
numbered k (true ∷ ms) = k ∷ numbered (k + 1) ms
numbered k (false ∷ ms) = numbered (k + 1) ms

occurs_below : (k e : ℕ) (ms : List Bool) → e < k → occurs e (numbered k ms) ≡ false
occurs_below k e [] l = refl
occurs_below k e (true ∷ ms) l = or_from (eqb k e) (occurs e (numbered (k + 1) ms)) (ne_eqb k e (omega arith)) (occurs_below (k + 1) e ms (omega arith))
occurs_below k e (false ∷ ms) l = occurs_below (k + 1) e ms (omega arith)

-- a number is among them where its mark is set
pub occurs_numbered : (k e : ℕ) (ms : List Bool) (j : ℕ) → k + j ≡ e → occurs e (numbered k ms) ≡ get_or ms j false
occurs_numbered k e [] j p = refl
occurs_numbered k e (true ∷ ms) zero p = or_left (eqb k e) (occurs e (numbered (k + 1) ms)) (eq-eqb k e (omega arith))
occurs_numbered k e (false ∷ ms) zero p = occurs_below (k + 1) e ms (omega arith)
occurs_numbered k e (true ∷ ms) (suc j) p = rw (ne_eqb k e (omega arith)) (occurs_numbered (k + 1) e ms j (omega arith))
occurs_numbered k e (false ∷ ms) (suc j) p = occurs_numbered (k + 1) e ms j (omega arith)

module _ (faces : List (List ℕ)) where
  -- marks for the edges from k on
  pub number_marked : (ms : List Bool) (k : ℕ) → k + length ms ≡ length (edges faces) → map (number (edges faces)) (marked (drop k (edges faces)) ms) ≡ numbered k ms
  number_marked [] k p = rw (drop_all k (edges faces) (omega arith))
  number_marked (true ∷ ms) k p = rw (drop_more (edges faces) k nowhere (omega arith)) (ap₂ ◌∷◌ (ap (λ o. unwrap_or o 0) (firsts_itself (sides faces) k (omega arith))) (number_marked ms (k + 1) (omega arith)))
  number_marked (false ∷ ms) k p = rw (drop_more (edges faces) k nowhere (omega arith)) (number_marked ms (k + 1) (omega arith))

  pub marks_again : (ms : List Bool) → length ms ≡ length (edges faces) → map (λ e. occurs e (map (number (edges faces)) (marked (edges faces) ms))) (range_with_len 0 (length (edges faces))) ≡ ms
  marks_again ms p = rw (number_marked ms 0 (omega arith)) (sym (fill_by_all (λ e. occurs e (numbered 0 ms)) ms (length (edges faces)) false p (λ j l. sym (occurs_numbered 0 j ms j (omega arith)))))
