-- A base as a mesh of polygons: its vertices' dimensions, its faces' corners, and which of its edges are curves.
-- Edges are not given but follow from the faces.
use Rattle.std.specs.Prelude.{ℕ, Bool, true, cond, ◌&&◌, ◌||◌, List, [], ◌∷◌, ◌++◌, length, is_some, fold, count_by, Option, ◌==◌, nat_eq, slice_index_or}
use Rattle.std.specs.List.{flat_map, list_any}
use Rattle.mesh.specs.declared.Side.{Side}
use Rattle.mesh.specs.Lowest.{lowest}

abbrev pub side : ℕ → ℕ → Side
side a b = record { tail = a; head = b }

-- what stands past the end of a list of sides
abbrev pub nowhere : Side
nowhere = side 0 0

-- the two run between the same two vertices, in one direction or in both
abbrev pub joins : Side → Side → Bool
joins s t = (s.tail == t.tail && s.head == t.head) || (s.tail == t.head && s.head == t.tail)

-- the side ends at vertex v
abbrev pub touches : ℕ → Side → Bool
touches v s = s.tail == v || s.head == v

-- the sides from corner c on through the corners that follow, and back to the first
abbrev pub onward : ℕ → ℕ → List ℕ → List Side
onward first c [] = side c first ∷ []
onward first c (d ∷ ds) = side c d ∷ onward first d ds

-- side i of a face joins its corners i and i + 1, the last joining corner 0
abbrev pub around : List ℕ → List Side
around [] = []
around (c ∷ cs) = onward c c cs

-- the sides of all faces, face after face
abbrev pub sides : List (List ℕ) → List Side
sides faces = flat_map around faces

-- the number of the edge, among these, that joins the ends of a side
abbrev pub edge_of : List Side → Side → Option ℕ
edge_of es s = lowest (λ i. joins (slice_index_or es i nowhere) s) (length es)

abbrev pub with_side : List Side → Side → List Side
with_side es s = cond (is_some (edge_of es s)) es (es ++ s ∷ [])

-- each side where it first appears, in the direction that it has there
unfoldable pub firsts : List Side → List Side
firsts ss = fold with_side [] ss

-- edges are numbered by first appearance, and keep their first direction
abbrev pub edges : List (List ℕ) → List Side
edges faces = firsts (sides faces)

-- how many faces have this edge: a face has it once at most, since its corners differ
abbrev pub uses : List (List ℕ) → Side → ℕ
uses faces e = count_by (joins e) (sides faces)

-- how many of these edges end at vertex v
abbrev pub degree : List Side → ℕ → ℕ
degree es v = count_by (touches v) es

-- the edges whose mark is set
abbrev pub marked : List Side → List Bool → List Side
marked [] ms = []
marked (e ∷ es) [] = []
marked (e ∷ es) (m ∷ ms) = cond m (e ∷ marked es ms) (marked es ms)

-- the library's test on some element, under the name that the definitions here use
abbrev pub any : {A : Type 0} → (A → Bool) → List A → Bool
any p xs = list_any p xs

abbrev pub occurs : ℕ → List ℕ → Bool
occurs v xs = any (λ x. nat_eq x v) xs

-- the vertices at the corners of all faces, face after face
abbrev pub corners : List (List ℕ) → List ℕ
corners faces = flat_map (λ (f : List ℕ). f) faces

pub record Shape : Type 0 where
  -- of each vertex: 2 smooth, 1 on a curve, 0 corner
  pub dims : List ℕ
  -- of each face, the vertices round it
  pub faces : List (List ℕ)
  -- of each edge, whether it is a curve
  pub curves : List Bool

-- the curve edges of a shape
abbrev pub curve_edges : Shape → List Side
curve_edges s = marked (edges s.faces) s.curves

-- one triangle with three curve edges, and dimension 0 throughout
abbrev pub starting : Shape
starting = record { dims = 0 ∷ 0 ∷ 0 ∷ []; faces = (0 ∷ 1 ∷ 2 ∷ []) ∷ []; curves = true ∷ true ∷ true ∷ [] }
