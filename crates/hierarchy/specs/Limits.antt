-- How many levels of subdivision a hierarchy may have.
use Rattle.std.specs.Prelude.{ℕ, Bool, ◌&&◌, nat_le}

abbrev pub has_levels : ℕ → Bool
has_levels levels = nat_le 1 levels && nat_le levels 5
