-- What the ghost fields of a curve and of a level of it say of the counts there. Assumes nothing.
use Rattle.std.proofs.Common.{◌≡◌, ◌+◌, ◌*◌, ◌%◌, ◌^◌, ◌≤◌, cond, arith}
use Rattle.levels.proofs.CurveCounts.{two_points, vertices_edges, vertices_few, edges_few, edges_positive, edges_shifted}
use Rattle.curve.specs.declared.curve.Curve.{Curve}
use Rattle.curve.specs.declared.level.CurveLevel.{CurveLevel}
use Rattle.curve.specs.Made.{coarsest, level_at}
use Rattle.curve.specs.Positions.{Positioned}
use Rattle.curve.proofs.AtLevels.{along}

pub two : (c : Curve) → 2 ≤ c.points
two c = two_points c.closed c.points c.enough

pub positioned : (c : Curve) → Positioned c
positioned c = let some = two c in λ j. along c.closed c.points (omega arith) j

module _ (l : CurveLevel) where
  abbrev it : Curve
  it = l.curve.now

  pub some_edges : 1 ≤ (level_at l).edges
  some_edges = edges_positive it.closed it.points l.level it.enough

  pub few_edges : (level_at l).edges ≤ 32768
  few_edges = edges_few it.closed it.points l.level it.enough it.bounded (omega arith)

  pub shifted_edges : (coarsest l.curve.now).edges * 2 ^ l.level % 2 ^ 64 ≡ (level_at l).edges
  shifted_edges = edges_shifted it.closed it.points l.level it.bounded (omega arith)

  pub few_vertices : (level_at l).vertices ≤ 32768
  few_vertices = vertices_few it.closed it.points l.level it.enough it.bounded (omega arith)

  pub more_vertices : (level_at l).vertices ≡ (level_at l).edges + cond l.curve.now.closed 0 1
  more_vertices = let some = two it in vertices_edges it.closed it.points l.level (omega arith)
