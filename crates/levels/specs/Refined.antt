-- What holds of every level of a base, whatever the base: how the counts grow, and how few faces and edges meet.
use Rattle.std.specs.Prelude.{◌≡◌, ℕ, ◌+◌, ◌*◌, ◌<◌, ◌≤◌, length}
use Rattle.hierarchy.specs.declared.link.Link.TheVariants.{EdgeFaces, VertexEdges}
use Rattle.levels.specs.Level.{Level}
use Rattle.levels.specs.Finer.{level}
use Rattle.levels.specs.Incidence.{incident}

pub record Refined (m : Level) : Type 0 where
  pub vertices : (j : ℕ) → (level m (j + 1)).vertices ≡ (level m j).vertices + (level m j).edges + (level m j).faces
  pub edges : (j : ℕ) → (level m (j + 1)).edges ≡ 2 * (level m j).edges + (level m j).corners
  pub faces : (j : ℕ) → (level m (j + 1)).faces ≡ (level m j).corners
  pub corners : (j : ℕ) → (level m (j + 1)).corners ≡ 4 * (level m j).corners
  -- an edge lies in one or two faces
  pub shared : (j e : ℕ) → e < (level m j).edges → (1 ≤ length (incident (level m j) EdgeFaces e)) × (length (incident (level m j) EdgeFaces e) ≤ 2)
  -- a vertex has at most 8 edges
  pub valence : (j v : ℕ) → length (incident (level m j) VertexEdges v) ≤ 8
