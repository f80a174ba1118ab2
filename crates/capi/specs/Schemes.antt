-- The schemes for points, by their codes.
use Rattle.std.specs.Prelude.{ℕ, Bool, true, false, cond, Some, None, Option, ◌==◌}
use Rattle.kinds.specs.MarkSums.{differing, unmarked}
use Rattle.kinds.specs.PairSums.{pair, both, each}
use Rattle.kinds.specs.PointSums.{added, origin, opposed}
use Rattle.kinds.specs.declared.marks.Marks.{Marks}
use Rattle.kinds.specs.declared.pair.Pair.{Pair}
use Rattle.kinds.specs.declared.point.Point.{Point}
use Rattle.kinds.specs.declared.kind.ValueKind as ValueKind
use Rattle.lifting.specs.HalfSteps.{Rule, rule}
use Rattle.schemes.specs.declared.scheme.Scheme as Scheme
use Rattle.schemes.specs.Equations.{linear, cubic}
use Rattle.schemes.specs.MarkAmounts.{marks_amount}
use Rattle.schemes.specs.PairAmounts.{both_amounts}
use Rattle.schemes.specs.PointAmounts.{point_amount}
use Rattle.capi.specs.declared.point_scheme.PointScheme.{PointScheme}
use Rattle.capi.specs.declared.point_scheme.PointScheme.TheVariants.{Linear, Cubic}

abbrev pub scheme_of : ℕ → Option PointScheme
scheme_of code = cond (code == 1) (Some Linear) (cond (code == 2) (Some Cubic) None)

-- how values are added and how much a step adds, and whether the scheme needs a uniform hierarchy
pub record Law (V : Type 0) : Type 0 where
  pub rule : Rule V
  pub uniform : Bool

-- that of a scheme, over its value kind
abbrev pub law_of : {S V U : Type 0} → Scheme.Ghosts S V U → ValueKind.Ghosts V → S → Law V
law_of scheme kind s = record { rule = rule scheme kind s; uniform = scheme.uniform s }

abbrev pub points_by : PointScheme → Law Point
points_by Linear = record { rule = record { plus = added; zero = origin; opposite = opposed; amount = point_amount linear }; uniform = false }
points_by Cubic = record { rule = record { plus = added; zero = origin; opposite = opposed; amount = point_amount cubic }; uniform = true }

abbrev pub marks_law : Law Marks
marks_law = record { rule = record { plus = differing; zero = unmarked; opposite = λ m. m; amount = λ step class dimension q. marks_amount step q }; uniform = false }

-- points by their scheme beside marks, part by part
abbrev pub beside_marks : Law Point → Law (Pair Point Marks)
beside_marks l = record {
  rule = record {
    plus = both l.rule.plus differing;
    zero = pair l.rule.zero unmarked;
    opposite = each l.rule.opposite (λ m. m);
    amount = λ step class dimension. both_amounts (l.rule.amount step class dimension) (marks_amount step);
  };
  uniform = l.uniform;
}
