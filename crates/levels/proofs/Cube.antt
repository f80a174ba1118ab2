-- The levels of a cube, as a check of the definitions by figures. Assumes nothing.
use Rattle.std.proofs.Common.{◌≡◌, ℕ, false, List, [], ◌∷◌, refl}
use Rattle.mesh.specs.Lowest.{lowest}
use Rattle.mesh.specs.Shape.{Shape, firsts}
use Rattle.hierarchy.specs.declared.link.Link.TheVariants.{FaceVertices, VertexEdges}
use Rattle.levels.specs.Level.{Level}
use Rattle.levels.specs.Finer.{level}
use Rattle.levels.specs.Surfaces.{surface}
use Rattle.levels.specs.Incidence.{incident}

abbrev cube : Shape
cube = record { dims = 2 ∷ 2 ∷ 2 ∷ 2 ∷ 2 ∷ 2 ∷ 2 ∷ 2 ∷ []; faces = (0 ∷ 1 ∷ 3 ∷ 2 ∷ []) ∷ (4 ∷ 6 ∷ 7 ∷ 5 ∷ []) ∷ (0 ∷ 4 ∷ 5 ∷ 1 ∷ []) ∷ (1 ∷ 5 ∷ 7 ∷ 3 ∷ []) ∷ (3 ∷ 7 ∷ 6 ∷ 2 ∷ []) ∷ (2 ∷ 6 ∷ 4 ∷ 0 ∷ []) ∷ []; curves = false ∷ false ∷ false ∷ false ∷ false ∷ false ∷ false ∷ false ∷ false ∷ false ∷ false ∷ false ∷ [] }

abbrev counts : Level → List ℕ
counts m = m.vertices ∷ m.edges ∷ m.faces ∷ m.corners ∷ []

cube_0 : counts (level (surface cube) 0) ≡ 8 ∷ 12 ∷ 6 ∷ 24 ∷ []
unfolding level firsts lowest
cube_0 = refl

cube_1 : counts (level (surface cube) 1) ≡ 26 ∷ 48 ∷ 24 ∷ 96 ∷ []
unfolding level firsts lowest
cube_1 = refl

cube_2 : counts (level (surface cube) 2) ≡ 98 ∷ 192 ∷ 96 ∷ 384 ∷ []
unfolding level firsts lowest
cube_2 = refl

-- round the first refined face, and at the vertices of the first edge and of the first face
first_face : incident (level (surface cube) 1) FaceVertices 0 ≡ 0 ∷ 8 ∷ 11 ∷ 20 ∷ []
unfolding level firsts lowest
first_face = refl

at_edge : incident (level (surface cube) 1) VertexEdges 8 ≡ 0 ∷ 1 ∷ 24 ∷ 35 ∷ []
unfolding level firsts lowest
at_edge = refl

at_face : incident (level (surface cube) 1) VertexEdges 20 ≡ 24 ∷ 25 ∷ 26 ∷ 27 ∷ []
unfolding level firsts lowest
at_face = refl
