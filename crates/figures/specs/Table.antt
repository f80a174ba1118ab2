-- The worked figures, all of them in one table, and the one statement over it.
use Rattle.std.specs.Prelude.{ℕ, ◌+◌, ◌*◌, ◌%◌, true, false, List, [], ◌∷◌, ◌++◌, map, replicate, ℤ, pos, neg_ℤ, Ok, Err, nat_eq}
use Rattle.std.proofs.Common.{lit<}
use Rattle.std.specs.List.{range_with_len, AllByRecursion}
use Rattle.refusal.specs.declared.Refusal.TheVariants.{BadValence, LevelCount, ListFull}
use Rattle.mesh.specs.Shape.{Shape}
use Rattle.hierarchy.specs.Meaning.{Meaning}
use Rattle.hierarchy.specs.declared.link.Link.TheVariants.{FaceVertices, VertexEdges}
use Rattle.levels.specs.Curves.{curve_level}
use Rattle.levels.specs.Incidence.{hierarchy}
use Rattle.levels.specs.Surfaces.{surface}
use Rattle.kinds.specs.declared.point.Point.{Point}
use Rattle.schemes.specs.Fractions.{quotient}
use Rattle.history.specs.Histories.{Opening}
use Rattle.history.specs.declared.answer.Reply.TheVariants.{Depth, Count}
use Rattle.history.specs.declared.call.Request.{Request}
use Rattle.history.specs.declared.call.Request.TheVariants.{Analyse, Synthesise, Move, TakeBack}
use Rattle.figures.specs.Rows.{Row, point, by_linear, by_cubic, Holds}
use Rattle.figures.specs.Rows.Row.{Read, Counts, Listed, Need, Rounding, Along, Points, Flags, Stored, Answered, Reached}

abbrev minus : ℕ → ℤ
minus n = neg_ℤ (pos n)

-- all smooth
abbrev pub cube : Shape
cube = record {
  dims = replicate 8 2;
  faces = (3 ∷ 2 ∷ 1 ∷ 0 ∷ []) ∷ (4 ∷ 5 ∷ 6 ∷ 7 ∷ []) ∷ (0 ∷ 1 ∷ 5 ∷ 4 ∷ []) ∷ (1 ∷ 2 ∷ 6 ∷ 5 ∷ []) ∷ (2 ∷ 3 ∷ 7 ∷ 6 ∷ []) ∷ (3 ∷ 0 ∷ 4 ∷ 7 ∷ []) ∷ [];
  curves = replicate 12 false;
}

-- every edge a curve, every vertex a corner
abbrev pub quadrilateral : Shape
quadrilateral = record { dims = replicate 4 0; faces = (0 ∷ 1 ∷ 2 ∷ 3 ∷ []) ∷ []; curves = replicate 4 true }

-- so many triangles round a smooth vertex, their outer sides a closed curve
abbrev pub fan : ℕ → Shape
fan n = record {
  dims = 2 ∷ replicate n 1;
  faces = map (λ i. 0 ∷ (i + 1) ∷ ((i + 1) % n + 1) ∷ []) (range_with_len 0 n);
  curves = map (λ e. nat_eq (e % 2) 1) (range_with_len 0 (2 * n));
}

abbrev pub planned : Shape → ℕ → Meaning
planned base levels = hierarchy (surface base) levels

abbrev pub closed_curve : ℕ → ℕ → Meaning
closed_curve n levels = hierarchy (curve_level true n) levels

abbrev pub open_curve : ℕ → ℕ → Meaning
open_curve n levels = hierarchy (curve_level false n) levels

-- values at the six places of the closed curve of 3 refined once, and what analysis makes of them
abbrev pub six : List ℤ
six = map pos (0 ∷ 8 ∷ 3 ∷ 5 ∷ 6 ∷ 1 ∷ [])

abbrev pub six_analysed : List ℤ
six_analysed = map pos (0 ∷ 9 ∷ 3 ∷ 1 ∷ 1 ∷ 0 ∷ [])

-- the same of the quadrilateral refined once
abbrev pub nine : List ℤ
nine = map pos (0 ∷ 10 ∷ 20 ∷ 30 ∷ 6 ∷ 15 ∷ 25 ∷ 14 ∷ 16 ∷ [])

abbrev pub nine_analysed : List ℤ
nine_analysed = pos 0 ∷ pos 10 ∷ pos 20 ∷ pos 30 ∷ pos 1 ∷ pos 0 ∷ pos 0 ∷ minus 1 ∷ pos 1 ∷ []

-- nine values of which the face reads two means that come to 1/2 each
abbrev pub two_halves : List ℤ
two_halves = map pos (1 ∷ 1 ∷ 0 ∷ 0 ∷ []) ++ minus 1 ∷ replicate 4 (pos 0)

-- opened with points at a depth, and with a move list of one slot
abbrev pub opened : ℕ → List ℤ → Opening Point
opened depth ns = record { values = map point ns; depth = depth; slots = 1 }

-- place 0 is moved by 4 at depth 0, from depth 1 and back
abbrev pub moved : List (Request Point)
moved = Analyse ∷ Move 0 (point (pos 4)) ∷ Synthesise ∷ []

abbrev pub taken_back : List (Request Point)
taken_back = Analyse ∷ Move 0 (point (pos 4)) ∷ Synthesise ∷ TakeBack ∷ []

abbrev pub table : List Row
table =
    Read cube (Ok cube)
    ∷ Counts (planned cube 2) 0 8 12 6
    ∷ Counts (planned cube 2) 1 26 48 24
    ∷ Counts (planned cube 2) 2 98 192 96
    ∷ Listed (planned cube 2) 1 FaceVertices 0 (3 ∷ 8 ∷ 11 ∷ 20 ∷ [])
    ∷ Listed (planned cube 2) 1 VertexEdges 8 (0 ∷ 1 ∷ 24 ∷ 40 ∷ [])
    ∷ Listed (planned cube 2) 1 VertexEdges 20 (24 ∷ 25 ∷ 26 ∷ 27 ∷ [])
    ∷ Need cube 2 (Ok 1920)
    ∷ Read quadrilateral (Ok quadrilateral)
    ∷ Counts (planned quadrilateral 2) 0 4 4 1
    ∷ Counts (planned quadrilateral 2) 1 9 12 4
    ∷ Counts (planned quadrilateral 2) 2 25 40 16
    ∷ Rounding (quotient (pos 1) 2 (lit< tt)) (pos 1)
    ∷ Rounding (quotient (minus 1) 2 (lit< tt)) (pos 0)
    ∷ Rounding (quotient (minus 11) 2 (lit< tt)) (minus 5)
    ∷ Along false 2 2 (0 ∷ 3 ∷ 2 ∷ 4 ∷ 1 ∷ [])
    ∷ Points (closed_curve 3 1) by_linear 1 0 six six_analysed
    ∷ Points (closed_curve 3 1) by_linear 0 1 six_analysed six
    ∷ Points (closed_curve 3 1) by_cubic 1 0 (replicate 6 (pos 8)) (replicate 3 (pos 4) ++ replicate 3 (pos 0))
    ∷ Points (planned cube 1) by_cubic 1 0 (replicate 26 (pos 64)) (replicate 8 (pos 16) ++ replicate 18 (pos 0))
    ∷ Points (planned quadrilateral 1) by_linear 1 0 nine nine_analysed
    ∷ Points (planned quadrilateral 1) by_linear 0 1 nine_analysed nine
    ∷ Points (planned quadrilateral 1) by_linear 1 0 two_halves (map pos (1 ∷ 1 ∷ 0 ∷ 0 ∷ []) ++ minus 2 ∷ map pos (0 ∷ 0 ∷ 0 ∷ 1 ∷ []))
    ∷ Stored (planned quadrilateral 1) by_linear (opened 1 nine) moved (map pos (4 ∷ 10 ∷ 20 ∷ 30 ∷ 8 ∷ 15 ∷ 25 ∷ 16 ∷ 17 ∷ []))
    ∷ Reached (planned quadrilateral 1) (opened 1 nine) moved 0 (0 ∷ 4 ∷ 7 ∷ 8 ∷ [])
    ∷ Stored (planned quadrilateral 1) by_linear (opened 1 nine) taken_back nine
    ∷ Answered (planned quadrilateral 1) by_linear (opened 1 nine) taken_back (Ok (Depth 0) ∷ Ok (Count 1) ∷ Ok (Depth 1) ∷ Ok (Count 0) ∷ [])
    ∷ Flags (open_curve 2 1) 1 0 (5 ∷ 4 ∷ 6 ∷ []) (5 ∷ 4 ∷ 2 ∷ [])
    ∷ Stored (open_curve 2 1) by_linear (opened 1 (pos 2147483647 ∷ pos 0 ∷ pos 0 ∷ [])) (Move 0 (point (pos 1)) ∷ []) (minus 2147483648 ∷ pos 0 ∷ pos 0 ∷ [])
    ∷ Need cube 5 (Ok 130944)
    ∷ Need cube 6 (Err (LevelCount 6))
    ∷ Read (fan 8) (Ok (fan 8))
    ∷ Read (fan 9) (Err (BadValence 0))
    ∷ Answered (open_curve 2 1) by_linear (opened 1 (replicate 3 (pos 0))) (Move 0 (point (pos 1)) ∷ Move 1 (point (pos 1)) ∷ []) (Ok (Count 1) ∷ Err (ListFull 1) ∷ [])
    ∷ []

unfoldable pub EveryRowHolds : Type 0
EveryRowHolds = AllByRecursion Holds table
