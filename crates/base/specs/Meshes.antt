-- What the tables of a mesh stand for.
use Rattle.std.specs.Prelude.{ℕ, Bool, List, vec_items}
use Rattle.mesh.specs.Shape.{Shape}
use Rattle.base.specs.declared.meshes.Mesh.{Mesh}
use Rattle.base.specs.Faces.{parts}

abbrev pub faces : Mesh → List (List ℕ)
faces m = parts (vec_items m.sizes) (vec_items m.sides)

-- the mesh, with these marks of its edges
abbrev pub with_marks : Mesh → List Bool → Shape
with_marks m marks = record { dims = vec_items m.dims; faces = faces m; curves = marks }
