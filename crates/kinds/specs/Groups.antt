-- What the sum, the zero and the opposite of a value kind keep. The sum need not commute.
use Rattle.std.specs.Prelude.{◌≡◌}

pub record Group {V : Type 0} (plus : V → V → V) (zero : V) (opposite : V → V) : Type 0 where
  pub associative : (x y z : V) → plus (plus x y) z ≡ plus x (plus y z)
  pub zero_left : (x : V) → plus zero x ≡ x
  pub zero_right : (x : V) → plus x zero ≡ x
  pub opposite_left : (x : V) → plus (opposite x) x ≡ zero
  pub opposite_right : (x : V) → plus x (opposite x) ≡ zero
