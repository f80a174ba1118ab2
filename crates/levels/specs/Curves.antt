-- The coarsest level of a curve: no faces, every edge a curve, dimension 1 but 0 at open ends.
use Rattle.std.specs.Prelude.{ℕ, ◌+◌, ◌-◌, Bool, true, cond, not, ◌&&◌, ◌||◌, ◌==◌}
use Rattle.levels.specs.Level.{Level}

-- edge i runs from point i to point i + 1; where the curve is closed the last runs to point 0
abbrev pub curve_level : Bool → ℕ → Level
curve_level closed n = record {
  vertices = n;
  edges = cond closed n (n - 1);
  faces = 0;
  corners = 0;
  tail = λ e. e;
  head = λ e. cond (closed && e + 1 == n) 0 (e + 1);
  face = λ c. 0;
  vertex = λ c. 0;
  side = λ c. 0;
  back = λ c. 0;
  forth = λ c. 0;
  curve = λ e. true;
  dimension = λ v. cond (not closed && (v == 0 || v + 1 == n)) 0 1;
}
