-- The amounts for points: the lifting equation of each coordinate, rounded once, modulo 2^32.
use Rattle.std.specs.Prelude.{◌≡◌, ℕ, List, map, length, ℤ}
use Rattle.kinds.specs.PointSums.{modulo}
use Rattle.kinds.specs.declared.point.Point.{Point}
use Rattle.schemes.specs.declared.mean.Centroid.{Centroid}
use Rattle.schemes.specs.declared.mean.Mean.{Mean}
use Rattle.schemes.specs.declared.point_sum.PointSum.{PointSum}
use Rattle.schemes.specs.declared.steps.Class.{Class}
use Rattle.schemes.specs.declared.steps.Step.{Step}
use Rattle.schemes.specs.declared.tally.Tally.{Tally}
use Rattle.schemes.specs.Equations.{lift, means}
use Rattle.schemes.specs.Fractions.{Fraction, Worth, total, mean}
use Rattle.schemes.specs.Readings.{Reads, parts}
use Rattle.schemes.specs.Rounding.{rounded}

-- an equation for each coordinate by itself, rounded once, modulo 2^32
abbrev pub each_rounded : ((Point → ℤ) → Fraction) → Point
each_rounded equation = modulo (rounded (equation (λ p. p.x))) (rounded (equation (λ p. p.y))) (rounded (equation (λ p. p.z)))

abbrev pub by_coordinate : (Reads ℤ → Fraction) → Reads Point → Point
by_coordinate equation q = each_rounded (λ coordinate. equation (parts coordinate q))

unfoldable pub point_amount : (Step → Fraction) → Step → Class → ℕ → Reads Point → Point
point_amount factor step class dimension q = by_coordinate (λ ns. lift factor step class dimension (means ns)) q

-- the tally is of these points
pub record Tallied (t : Tally) (ps : List Point) : Type 0 where
  pub counted : t.count ≡ length ps
  pub by_x : t.x ≡ total (map (λ p. p.x) ps)
  pub by_y : t.y ≡ total (map (λ p. p.y) ps)
  pub by_z : t.z ≡ total (map (λ p. p.z) ps)

-- the mean is that of these numbers
abbrev Averages : Mean → List ℤ → Type 0
Averages m ns = Worth (mean ns) m.sum m.count

-- the centroid is that of these points
pub record Centred (c : Centroid) (ps : List Point) : Type 0 where
  pub by_x : Averages c.x (map (λ p. p.x) ps)
  pub by_y : Averages c.y (map (λ p. p.y) ps)
  pub by_z : Averages c.z (map (λ p. p.z) ps)

-- the sum is of these points
pub record Summed (s : PointSum) (q : Reads Point) : Type 0 where
  pub vertices : Tallied s.vertices q.vertices
  pub edges : Tallied s.edges q.edges
  pub faces : Tallied s.faces q.faces
