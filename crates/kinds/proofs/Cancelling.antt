-- An amount and its opposite, added one after the other on the right, leave the value as it was.
use Rattle.std.proofs.Common.{◌≡◌, ap, ◌∙◌}
use Rattle.kinds.specs.Groups.{Group}

module _ {V : Type 0} {plus : V → V → V} {zero : V} {opposite : V → V} (laws : Group plus zero opposite) (x a : V) where
  pub then_opposite : plus (plus x a) (opposite a) ≡ x
  then_opposite = laws.associative x a (opposite a) ∙ ap (plus x) (laws.opposite_right a) ∙ laws.zero_right x

  pub opposite_then : plus (plus x (opposite a)) a ≡ x
  opposite_then = laws.associative x (opposite a) a ∙ ap (plus x) (laws.opposite_left a) ∙ laws.zero_right x
