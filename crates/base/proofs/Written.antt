-- The tables of a base as records. Assumes nothing.
use Rattle.std.proofs.Common.{◌≡◌, ℕ, ◌+◌, ◌<◌, ◌≤◌, List, [], ◌∷◌, ◌++◌, map, length, get_or, take, drop, sum, sym, ap, ◌∙◌, arith}
use Rattle.std.specs.List.{flat_map, AllByRecursion}
use Rattle.std.proofs.lemmas.List.{append_assoc, at_drop_more, length-drop, length-map, length-take-le}
use Rattle.std.proofs.lemmas.List.Sums.{sum_by-cons}
use Rattle.mesh.specs.declared.Side.{Side}
use Rattle.mesh.specs.Records.{bytes_of, face, two_bytes}
use Rattle.mesh.specs.Rules.{Polygon}
use Rattle.base.specs.Faces.{parts}

length_part : (k : ℕ) (ss : List Side) → k ≤ length ss → length (map (λ (s : Side). s.tail) (take k ss)) ≡ k
length_part k ss l = length-map (take k ss) (λ (s : Side). s.tail) ∙ length-take-le k ss l

-- one face more, whose sides stand in front
pub face_front : (ks : List ℕ) (i : ℕ) (ss front back : List Side) → i < length ks → get_or ks i 0 ≤ length ss → front ≡ take (get_or ks i 0) ss → back ≡ drop (get_or ks i 0) ss → flat_map (λ f. bytes_of (face f)) (parts (drop i ks) ss) ≡ (get_or ks i 0 ∷ flat_map two_bytes (map (λ s. s.tail) front)) ++ flat_map (λ f. bytes_of (face f)) (parts (drop (i + 1) ks) back)
face_front ks i ss front back l inside f b =
    let k = get_or ks i 0 in
    at_drop_more (λ js. flat_map (λ f. bytes_of (face f)) (parts js ss)) ks i 0 l
    ∙ (λ j. (length_part k ss inside j ∷ flat_map two_bytes (map (λ (s : Side). s.tail) (sym f j))) ++ flat_map (λ f. bytes_of (face f)) (parts (drop (i + 1) ks) (sym b j)))

pub sizes_short : (n : ℕ) (ks : List ℕ) (ss : List Side) → sum ks ≡ length ss → AllByRecursion (Polygon n) (parts ks ss) → AllByRecursion (λ k. k ≤ 8) ks
sizes_short n [] ss e all = tt
sizes_short n (k ∷ ks) ss e all =
    let total = sum_by-cons (λ (x : ℕ). x) k ks in
    let long = length_part k ss (omega arith) in
    let left = length-drop k ss in
    (omega (arith, all.0.most), sizes_short n ks (drop k ss) (omega arith) all.1)

-- vertices, faces, curves and end, one after the other
pub one_by_one : (none a b c d vs fs cs : List ℕ) → none ≡ [] → a ≡ none ++ vs → b ≡ a ++ fs → c ≡ b ++ cs → d ≡ c ++ 0 ∷ [] → d ≡ vs ++ (fs ++ (cs ++ 0 ∷ []))
one_by_one none a b c d vs fs cs n e f g h =
    let start : a ≡ vs = e ∙ ap (λ l. l ++ vs) n in
    h ∙ ap (λ l. l ++ 0 ∷ []) (g ∙ ap (λ l. l ++ cs) (f ∙ ap (λ l. l ++ fs) start)) ∙ append_assoc (vs ++ fs) cs (0 ∷ []) ∙ append_assoc vs fs (cs ++ 0 ∷ [])
