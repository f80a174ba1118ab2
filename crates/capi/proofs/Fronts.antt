-- The front of a list, overwritten element by element.
use Rattle.std.proofs.Common.{◌≡◌, ℕ, ◌+◌, ◌<◌, List, [], ◌∷◌, ◌++◌, map, length, get_or, take, drop, set, sym, refl, ap, ◌∙◌, append_assoc, append-nil, arith}
use Rattle.std.proofs.lemmas.List.{set_at, drop_more, drop_all, map_more, length-map, length-take-le}

module _ {X Y : Type 0} (f : X → Y) where
  pub front_more : (xs : List X) (rs now : List Y) (i : ℕ) (x : X) → i < length xs → i < length rs → x ≡ get_or xs i x → now ≡ map f (take i xs) ++ drop i rs → set now i (f x) ≡ map f (take (i + 1) xs) ++ drop (i + 1) rs
  front_more xs rs now i x here room is before =
      let long : length (map f (take i xs)) ≡ i = length-map (take i xs) f ∙ length-take-le i xs (omega arith) in
      let rest = drop_more rs i (f x) room in
      let one = set_at (map f (take i xs)) (get_or rs i (f x)) (drop (i + 1) rs) (f x) i long in
      let more = map_more f xs i x here in
      let same : f (get_or xs i x) ≡ f x = ap f (sym is) in
      let joined = append_assoc (map f (take i xs)) (f x ∷ []) (drop (i + 1) rs) in
      ap (λ l. set l i (f x)) (before ∙ ap (λ l. map f (take i xs) ++ l) rest) ∙ one ∙ sym joined ∙ ap (λ l. l ++ drop (i + 1) rs) (ap (λ y. map f (take i xs) ++ y ∷ []) (sym same) ∙ sym more)

  -- every element, where the lists are as long
  pub front_whole : (xs : List X) (rs : List Y) → length xs ≡ length rs → map f xs ++ drop (length xs) rs ≡ map f xs
  front_whole xs rs same = ap (λ l. map f xs ++ l) (drop_all (length xs) rs (omega arith)) ∙ append-nil (map f xs)

-- what is made there and back again is as it was
pub there_and_back : {X Y : Type 0} (f : X → Y) (g : Y → X) → ((y : Y) → f (g y) ≡ y) → (ys : List Y) → map f (map g ys) ≡ ys
there_and_back f g same [] = refl
there_and_back f g same (y ∷ ys) = λ i. same y i ∷ there_and_back f g same ys i
