-- The points of every level below the finest have places among the finest vertices.
use Rattle.std.proofs.Common.{◌≡◌, ℕ, zero, suc, ◌+◌, ◌-◌, ◌<◌, ◌≤◌, arith}
use Rattle.hierarchy.specs.Meaning.{Meaning}
use Rattle.hierarchy.specs.Lawful.{Lawful}
use Rattle.schemes.specs.declared.steps.Class.{Class}
use Rattle.schemes.specs.declared.steps.Class.TheVariants.{Vertex, Edge, Face}
use Rattle.lifting.specs.Places.{places, count_of, first_place}

module _ {m : Meaning} (lawful : Lawful m) where
  rises_by : (n j : ℕ) → j + n ≤ m.levels → m.vertices j ≤ m.vertices (j + n)
  rises_by zero j l =
      let same : j + 0 ≡ j = omega arith in
      rw same (omega arith)
  rises_by (suc n) j l =
      let step : j + suc n ≡ (j + n) + 1 = omega arith in
      rw step (omega (arith, rises_by n j (omega arith), lawful.next_vertices (j + n) (omega arith)))

  pub room : (j : ℕ) → j < m.levels → places m j ≤ m.vertices m.levels
  room j l =
      let on : (j + 1) + (m.levels - (j + 1)) ≡ m.levels = omega arith in
      let up = rises_by (m.levels - (j + 1)) (j + 1) (omega arith) in
      let up' : m.vertices (j + 1) ≤ m.vertices m.levels = rw on at up in
      omega (arith, lawful.next_vertices j l)

  -- so has each point of a class
  pub point_inside : (j : ℕ) (c : Class) (i : ℕ) → j < m.levels → i < count_of m j c → first_place m j c + i < m.vertices m.levels
  point_inside j Vertex i l h = omega (arith, room j l)
  point_inside j Edge i l h = omega (arith, room j l)
  point_inside j Face i l h = omega (arith, room j l)
