-- A hierarchy is uniform if each level below the finest has no curve edge and only vertices of dimension 2,
-- or no face and only vertices of dimension 1.
use Rattle.std.specs.Prelude.{ℕ, Bool, not, ◌&&◌, ◌||◌, ◌==◌, nat_eq}
use Rattle.std.specs.List.{list_all, range_with_len}
use Rattle.hierarchy.specs.Meaning.{Meaning}

-- each number below n passes
abbrev pub every : (ℕ → Bool) → ℕ → Bool
every p n = list_all p (range_with_len 0 n)

abbrev pub smooth_edges : Meaning → ℕ → Bool
smooth_edges m j = every (λ e. not (m.curve j e)) (m.edges j)

abbrev pub all_of_dimension : Meaning → ℕ → ℕ → Bool
all_of_dimension m j d = every (λ v. nat_eq (m.dimension j v) d) (m.vertices j)

abbrev pub uniform_level : Meaning → ℕ → Bool
uniform_level m j = (smooth_edges m j && all_of_dimension m j 2) || (m.faces j == 0 && all_of_dimension m j 1)

abbrev pub uniform : Meaning → Bool
uniform m = every (uniform_level m) m.levels
