-- The levels over a sound and covered coarsest one grow as they should, and few faces and edges meet there. Assumes nothing.
use Rattle.std.proofs.Common.{ℕ, ◌<◌, ◌≤◌, eqb, length, refl, ap, arith}
use Rattle.std.proofs.lemmas.Bool.{eqb-true}
use Rattle.hierarchy.specs.declared.link.Link.TheVariants.{EdgeFaces, VertexEdges}
use Rattle.levels.specs.Level.{Level}
use Rattle.levels.specs.Finer.{level}
use Rattle.levels.specs.Incidence.{incident, has_edge}
use Rattle.levels.specs.Refined.{Refined}
use Rattle.levels.specs.Sound.{Sound, Covered}
use Rattle.levels.proofs.Counting.{count_yes, count_found}
use Rattle.levels.proofs.Corners.{has_at, count_faces}
use Rattle.levels.proofs.FinerSound.{level_sound, level_covered}
use Rattle.levels.proofs.Hierarchies.{level_more}
use Rattle.levels.proofs.Lists.{relates, incident_in, incident_short}
use Rattle.levels.proofs.Rising.{length_those}

faces_of_edge : (m : Level) → Sound m → Covered m → (e : ℕ) → e < m.edges → (1 ≤ length (incident m EdgeFaces e)) × (length (incident m EdgeFaces e) ≤ 2)
faces_of_edge m sound covered e l =
    let it = count_found (λ c. eqb (m.side c) e) m.corners (covered.used_edges e l) in
    let some = count_yes (λ f. has_edge m f e) m.faces (m.face it.0) (sound.faced it.0 it.1) (has_at m m.side it.0 (m.face it.0) e it.1 refl (eqb-true (m.side it.0) e it.2)) in
    let few = count_faces m m.side e m.faces in
    let long = ap length (incident_in m EdgeFaces e l) in
    let counted = length_those (relates m EdgeFaces e) m.faces in
    (omega arith, omega (arith, sound.edge_corners e l))

pub levels_refined : (m : Level) → Sound m → Covered m → Refined m
levels_refined m sound covered = record {
  vertices = λ j. ap (λ n. n.vertices) (level_more m j);
  edges = λ j. ap (λ n. n.edges) (level_more m j);
  faces = λ j. ap (λ n. n.faces) (level_more m j);
  corners = λ j. ap (λ n. n.corners) (level_more m j);
  shared = λ j e l. faces_of_edge (level m j) (level_sound m sound j) (level_covered m sound covered j) e l;
  valence = λ j v. incident_short (level m j) (level_sound m sound j) VertexEdges v;
}
