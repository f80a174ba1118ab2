-- Positions along a curve, and the numbers of the vertices that stand there.
use Rattle.std.specs.Prelude.{◌≡◌, ℕ, zero, suc, ◌+◌, ◌-◌, ◌*◌, ◌/◌, ◌%◌, ◌<◌, ◌≤◌, Bool, cond, ◌&&◌, ◌==◌, nat_le, nat_lt}
use Rattle.std.specs.Int.Count.{count_trailing_zeros}
use Rattle.levels.specs.Level.{Level}
use Rattle.levels.specs.Finer.{level, edge_vertex}
use Rattle.curve.specs.declared.curve.Curve.{Curve}
use Rattle.curve.specs.Made.{coarsest}

-- the vertex at a position along level j: an even position has one of the level before, an odd one the vertex of an edge there
abbrev pub number_at : Level → ℕ → ℕ → ℕ
number_at m zero p = p
number_at m (suc j) p = cond (p % 2 == 0) (number_at m j (p / 2)) (edge_vertex (level m j) (p / 2))

-- the position of a vertex along level j: one of the level before stands at twice its position there, the vertex of edge e at 2e + 1
abbrev pub position_of : Level → ℕ → ℕ → ℕ
position_of m zero v = v
position_of m (suc j) v = cond (nat_lt v (level m j).vertices) (2 * position_of m j v) (2 * (v - (level m j).vertices) + 1)

-- the position after p, where there are so many edges: a closed curve goes on at 0 after its last edge
abbrev pub after : Bool → ℕ → ℕ → ℕ
after closed edges p = cond (closed && p + 1 == edges) 0 (p + 1)

-- the level at which the vertex at a position along level j was born: the zeros at the end of the position, j at most, say how long ago
abbrev pub born : ℕ → ℕ → ℕ
born j p = j - count_trailing_zeros j p

-- At level j: position and number determine each other, the zeros of a position say when its vertex was born,
-- and edge e runs from position e to the one after it.
pub record Along (closed : Bool) (m : Level) (j : ℕ) : Type 0 where
  -- numbers are below the count, and so are positions; there and back changes nothing, either way
  pub numbers : (p : ℕ) → p < (level m j).vertices → number_at m j p < (level m j).vertices
  pub positions : (v : ℕ) → v < (level m j).vertices → position_of m j v < (level m j).vertices
  pub back : (p : ℕ) → p < (level m j).vertices → position_of m j (number_at m j p) ≡ p
  pub forth : (v : ℕ) → v < (level m j).vertices → number_at m j (position_of m j v) ≡ v
  -- a vertex is one of the level at which it was born, and none of the level before that
  pub known : (p : ℕ) → p < (level m j).vertices → number_at m j p < (level m (born j p)).vertices
  pub new : (p : ℕ) → 0 < born j p → (level m (born j p - 1)).vertices ≤ number_at m j p
  -- where an edge runs from, and to
  pub tails : (e : ℕ) → e < (level m j).edges → (level m j).tail e ≡ number_at m j e
  pub heads : (e : ℕ) → e < (level m j).edges → (level m j).head e ≡ number_at m j (after closed (level m j).edges e)

-- so at every level of a curve
abbrev pub Positioned : Curve → Type 0
Positioned c = (j : ℕ) → Along c.closed (coarsest c) j

-- whether the level is one of the curve's, and has a vertex of this number, or a position of this number
abbrev pub within : Curve → ℕ → ℕ → Bool
within c j i = nat_le j c.levels && nat_lt i (level (coarsest c) j).vertices
