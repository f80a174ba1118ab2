-- The tables of factors by name.
use Rattle.std.specs.Prelude.{Bool, true, false}
use Rattle.schemes.specs.Equations.{linear, cubic}
use Rattle.schemes.specs.Fractions.{Fraction}
use Rattle.schemes.specs.declared.steps.Step.{Step}
use Rattle.lifting.specs.declared.points.Spline.{Spline}
use Rattle.lifting.specs.declared.points.Spline.TheVariants.{Linear, Cubic}

abbrev pub factors : Spline → Step → Fraction
factors Linear = linear
factors Cubic = cubic

-- which of them ask for a uniform hierarchy
abbrev pub uniform_only : Spline → Bool
uniform_only Linear = false
uniform_only Cubic = true
