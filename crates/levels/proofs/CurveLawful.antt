-- The hierarchy of a curve is lawful. Assumes nothing.
use Rattle.std.proofs.Common.{ℕ, ◌≤◌, Bool, cond, arith}
use Rattle.hierarchy.specs.Lawful.{Lawful}
use Rattle.levels.specs.Curves.{curve_level}
use Rattle.levels.specs.Incidence.{hierarchy}
use Rattle.levels.proofs.CurveCounts.{vertices_few}
use Rattle.levels.proofs.CurveSound.{curve_sound}
use Rattle.levels.proofs.Hierarchies.{hierarchy_lawful}

pub curve_lawful : (closed : Bool) (n levels : ℕ) → cond closed 3 2 ≤ n → n ≤ 1024 → 1 ≤ levels → levels ≤ 5 → Lawful (hierarchy (curve_level closed n) levels)
curve_lawful closed n levels enough bounded some few = hierarchy_lawful (curve_level closed n) levels (curve_sound closed n enough) some few (omega (arith, vertices_few closed n levels enough bounded few))
