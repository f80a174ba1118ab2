-- What makes a meaning that of a hierarchy.
use Rattle.std.specs.Prelude.{◌≡◌, ℕ, ◌+◌, ◌<◌, ◌≤◌, false, List, [], ◌∷◌, length}
use Rattle.std.specs.List.{AllByRecursion}
use Rattle.hierarchy.specs.declared.link.Link.{Link}
use Rattle.hierarchy.specs.Meaning.{Meaning, sources, targets}

-- each number is below the next: ascending, without repeats
abbrev pub Rises : List ℕ → Type 0
Rises [] = Unit {0}
Rises (x ∷ []) = Unit {0}
Rises (x ∷ y ∷ xs) = (x < y) × Rises (y ∷ xs)

pub record Lawful (m : Meaning) : Type 0 where
  -- one to five levels of subdivision
  pub some_level : 1 ≤ m.levels
  pub few_levels : m.levels ≤ 5
  -- a level has a vertex for each vertex, edge and face of the coarser one
  pub next_vertices : (j : ℕ) → j < m.levels → m.vertices (j + 1) ≡ m.vertices j + m.edges j + m.faces j
  pub few_vertices : m.vertices m.levels ≤ 65536
  -- lists ascend without repeats, have at most 8 members, and each member is below its count
  pub rising : (j : ℕ) (l : Link) (i : ℕ) → Rises (m.list j l i)
  pub short : (j : ℕ) (l : Link) (i : ℕ) → length (m.list j l i) ≤ 8
  pub below : (j : ℕ) (l : Link) (i : ℕ) → AllByRecursion (λ k. k < targets m j l) (m.list j l i)
  pub dimensions : (j v : ℕ) → m.dimension j v ≤ 2
  -- past the finest level there are no counts; at it and past it, and past a count, there is nothing
  pub no_counts : (j : ℕ) → m.levels < j → (m.vertices j ≡ 0) × (m.edges j ≡ 0) × (m.faces j ≡ 0)
  pub no_level : (j : ℕ) → m.levels ≤ j → (i : ℕ) → ((l : Link) → m.list j l i ≡ []) × (m.curve j i ≡ false) × (m.dimension j i ≡ 0)
  pub no_list : (j : ℕ) (l : Link) (i : ℕ) → sources m j l ≤ i → m.list j l i ≡ []
  pub no_edge : (j e : ℕ) → m.edges j ≤ e → m.curve j e ≡ false
  pub no_vertex : (j v : ℕ) → m.vertices j ≤ v → m.dimension j v ≡ 0
