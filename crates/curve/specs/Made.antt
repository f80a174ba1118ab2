-- What a curve means, and when one is made.
use Rattle.std.specs.Prelude.{◌≡◌, ℕ, Bool, cond, ◌&&◌, Some, None, Ok, Err, Option, Result, nat_le}
use Rattle.refusal.specs.declared.Refusal.{Refusal}
use Rattle.refusal.specs.declared.Refusal.TheVariants.{CurveSize, LevelCount}
use Rattle.hierarchy.specs.Meaning.{Meaning}
use Rattle.levels.specs.Level.{Level}
use Rattle.hierarchy.specs.Limits.{has_levels}
use Rattle.levels.specs.Curves.{curve_level}
use Rattle.levels.specs.Finer.{level}
use Rattle.levels.specs.Incidence.{hierarchy}
use Rattle.curve.specs.declared.curve.Curve.{Curve}
use Rattle.curve.specs.declared.level.CurveLevel.{CurveLevel}

-- its coarsest level, and the hierarchy over it
abbrev pub coarsest : Curve → Level
coarsest c = curve_level c.closed c.points

abbrev pub means : Curve → Meaning
means c = hierarchy (coarsest c) c.levels

-- a level as it follows from the coarsest
abbrev pub level_at : CurveLevel → Level
level_at l = level (coarsest l.curve.now) l.level

-- that it is the level j of a curve
pub record LevelOf (c : Curve) (j : ℕ) (l : CurveLevel) : Type 0 where
  pub same_curve : l.curve.now ≡ c
  pub same_level : l.level ≡ j

-- a closed curve has 3 to 1024 points, an open one 2 to 1024, and either has 1 to 5 levels
abbrev pub has_size : Bool → ℕ → Bool
has_size closed points = nat_le (cond closed 3 2) points && nat_le points 1024

-- why no curve is made; the number of points is judged first
abbrev pub refused : Bool → ℕ → ℕ → Option Refusal
refused closed points levels = cond (has_size closed points) (cond (has_levels levels) None (Some (LevelCount levels))) (Some (CurveSize points))

-- the curve of so many points and levels
pub record Described (closed : Bool) (points levels : ℕ) (c : Curve) : Type 0 where
  pub accepted : refused closed points levels ≡ None
  pub same_closed : c.closed ≡ closed
  pub same_points : c.points ≡ points
  pub same_levels : c.levels ≡ levels
  pub meaning : means c ≡ hierarchy (curve_level closed points) levels

-- the answer to a making: that curve, or the refusal
abbrev pub Making : Bool → ℕ → ℕ → Result Curve Refusal → Type 0
Making closed points levels (Ok c) = Described closed points levels c
Making closed points levels (Err e) = refused closed points levels ≡ Some e
