-- What a block's arrays say while other parts of the table are written. Assumes nothing.
use Rattle.std.proofs.Common.{◌≡◌, ℕ, ◌+◌, ◌*◌, ◌<◌, Bool, true, false, cond, eqb, ltb, List, get_or, sym, refl, ap, ◌∙◌, arith}
use mathlib.Core.Path.{fun_ext}
use mir.Val.{bool_byte}
use Rattle.std.specs.Borrow.{Bor}
use Rattle.std.specs.Fn.{Shared}
use Rattle.std.proofs.lemmas.Bool.{cond-true, cond-false, lt-ltb, ltb-true, eq-eqb, ne_eqb}
use Rattle.plan.specs.Sorting.{Keeps}
use Rattle.plan.proofs.Places.{kept_part}
use Rattle.levels.specs.Level.{Level}
use Rattle.levels.specs.Finer.{half_at}
use Rattle.plan.specs.declared.block.Block.{Block}
use Rattle.plan.specs.declared.block.Array.{Array}
use Rattle.plan.specs.declared.block.Array.TheVariants.{Ends, Halves, Faces, FaceEnds, Curves, Dimensions}
use Rattle.plan.specs.Decoded.{decoded, of_arrays}
use Rattle.plan.specs.Giving.{Gives}
use Rattle.plan.specs.Layout.{begins, rooms, reads}
use Rattle.plan.specs.Written.{Clear, Clears}

-- within an array
pub reads_in : (t : List ℕ) (b : Block) (a : Array) (i : ℕ) → i < rooms b a → reads t b a i ≡ get_or t (begins b a + i) 0
reads_in t b a i h = cond-true (ltb i (rooms b a)) (get_or t (begins b a + i) 0) 0 (lt-ltb i (rooms b a) h)

cond_alike : (x : Bool) (m n : ℕ) → (x ≡ true → m ≡ n) → cond x m 0 ≡ cond x n 0
cond_alike true m n h = h refl
cond_alike false m n h = refl

pub reads_kept : (t u : List ℕ) (b : Block) (a : Array) (low high : ℕ) → Clear b a low high → Keeps t u low high → reads u b a ≡ reads t b a
reads_kept t u b a low high c k = fun_ext (λ i. cond_alike (ltb i (rooms b a)) _ _ (λ e. kept_part k (begins b a) (rooms b a) c i (ltb-true i (rooms b a) e)))

pub decoded_kept : (t u : List ℕ) (b : Block) (low high : ℕ) → Clears b low high → Keeps t u low high → decoded u b ≡ decoded t b
decoded_kept t u b low high c k =
    let e = reads_kept t u b Ends low high c.ends k in
    let h = reads_kept t u b Halves low high c.halves k in
    let f = reads_kept t u b Faces low high c.faces k in
    let g = reads_kept t u b FaceEnds low high c.face_ends k in
    let m = reads_kept t u b Curves low high c.curves k in
    let d = reads_kept t u b Dimensions low high c.dimensions k in
    λ i. of_arrays b (e i) (h i) (f i) (g i) (m i) (d i)

pub half_then : (m : Level) (e s v t x : ℕ) → s ≡ e → t ≡ m.tail s → x ≡ v → t ≡ x → 2 * s ≡ half_at m e v
half_then m e s v t x p q r h = omega (arith, cond-true {A = ℕ} (eqb (m.tail e) v) 0 1 (eq-eqb (m.tail e) v (sym (q ∙ ap m.tail p) ∙ h ∙ r)), p)

pub half_else : (m : Level) (e s v t x : ℕ) → s ≡ e → t ≡ m.tail s → x ≡ v → (t ≡ x → ⊥) → 2 * s + 1 ≡ half_at m e v
half_else m e s v t x p q r h = omega (arith, cond-false {A = ℕ} (eqb (m.tail e) v) 0 1 (ne_eqb (m.tail e) v (λ z. h (q ∙ ap m.tail p ∙ z ∙ sym r))), p)

-- a mark as a number
pub byte : (x : Bool) → bool_byte x ≡ cond x 1 0
byte true = refl
byte false = refl

-- what a closure gives from the level of a block that is written outside the level's arrays
pub level_given : {F : Type 0} {g : Shared F (Bor (List ℕ) × (ℕ × Unit {0})) ℕ} {number : F} {t : List ℕ} {p i r : ℕ} (b : Block) (f : Level → ℕ) → Clears b p (p + i) → (w : Gives g number t p i r) → r ≡ f (decoded w.table.now b) → r ≡ f (decoded t b)
level_given {t = t} {p = p} {i = i} b f clear w e = e ∙ ap f (decoded_kept t w.table.now b p (p + i) clear w.kept)
