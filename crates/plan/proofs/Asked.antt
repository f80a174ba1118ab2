-- What a list of a block has as its length and as its members. Assumes nothing.
use Rattle.std.proofs.Common.{◌≡◌, ℕ, ◌+◌, ◌-◌, ◌<◌, Bool, true, false, cond, ltb, [], map, length, get_or, sym, ap, ◌∙◌, arith}
use Rattle.std.proofs.lemmas.List.FromFn.{length-map-range_with_len, get_or-map-range_with_len}
use Rattle.std.proofs.lemmas.List.{length-map, get_or-map}
use Rattle.std.proofs.lemmas.Bool.{cond-true, lt-ltb}
use Rattle.plan.specs.Decoded.{start_of}
use Rattle.plan.specs.Told.{run}

pub length_run : (ends list : ℕ → ℕ) (k : ℕ) → length (run ends list k) ≡ ends k - start_of ends k
length_run ends list k = length-map-range_with_len (λ i. list (start_of ends k + i)) 0 (ends k - start_of ends k)

pub length_told : (f ends list : ℕ → ℕ) (i n r : ℕ) → i < n → r ≡ length (run ends list i) → r ≡ length (cond (ltb i n) (map f (run ends list i)) [])
length_told f ends list i n r l e = e ∙ sym (ap length (cond-true (ltb i n) (map f (run ends list i)) [] (lt-ltb i n l)) ∙ length-map (run ends list i) f)

pub member_told : (f ends list : ℕ → ℕ) (i : ℕ) (b : Bool) (k : ℕ) → k < length (cond b (map f (run ends list i)) []) → get_or (cond b (map f (run ends list i)) []) k 0 ≡ f (list (start_of ends i + k))
member_told f ends list i false k h = absurd (omega arith)
member_told f ends list i true k h =
    let l = length-map (run ends list i) f in
    let r = length_run ends list i in
    get_or-map f (run ends list i) k 0 0 (omega arith) ∙ ap f (get_or-map-range_with_len (λ j. list (start_of ends i + j)) 0 (ends i - start_of ends i) k k 0 (omega arith) (omega arith))
