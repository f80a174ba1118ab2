-- The sum of pairs, part by part.
use Rattle.kinds.specs.Groups.{Group}
use Rattle.kinds.specs.declared.pair.Pair.{Pair}

abbrev pub pair : {A B : Type 0} → A → B → Pair A B
pair a b = record { first = a; second = b }

-- two pairs put together by a sum of each part
abbrev pub both : {A B : Type 0} → (A → A → A) → (B → B → B) → Pair A B → Pair A B → Pair A B
both f g p q = pair (f p.first q.first) (g p.second q.second)

-- a pair with each part changed by itself
abbrev pub each : {A B : Type 0} → (A → A) → (B → B) → Pair A B → Pair A B
each f g p = pair (f p.first) (g p.second)

module _ {A B : Type 0} {f : A → A → A} {a : A} {m : A → A} {g : B → B → B} {b : B} {n : B → B} where
  pub pair_laws : Group f a m → Group g b n → Group (both f g) (pair a b) (each m n)
  pair_laws v w = record {
    associative = λ x y z. λ i. pair (v.associative x.first y.first z.first i) (w.associative x.second y.second z.second i);
    zero_left = λ x. λ i. pair (v.zero_left x.first i) (w.zero_left x.second i);
    zero_right = λ x. λ i. pair (v.zero_right x.first i) (w.zero_right x.second i);
    opposite_left = λ x. λ i. pair (v.opposite_left x.first i) (w.opposite_left x.second i);
    opposite_right = λ x. λ i. pair (v.opposite_right x.first i) (w.opposite_right x.second i);
  }
