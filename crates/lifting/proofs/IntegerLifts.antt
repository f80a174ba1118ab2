-- Each half step over points is the integer lifting operation on its class.
use Rattle.std.proofs.Common.{◌≡◌, ℕ, ◌+◌, ◌-◌, ◌^◌, ◌<◌, true, List, length, get_or, ℤ, pos, ◌+ℤ◌, ◌-ℤ◌, neg_ℤ, sym, ap, ◌∙◌, subst, arith}
use lib.Signed.{mag}
use Rattle.std.proofs.lemmas.Int.{ints}
use Rattle.std.proofs.lemmas.Bool.{cond-true}
use Rattle.std.proofs.lemmas.Bool.Decides.{nat_tests}
use Rattle.hierarchy.specs.Meaning.{Meaning}
use Rattle.hierarchy.specs.Lawful.{Lawful}
use Rattle.kinds.specs.PointSums.{added, origin, opposed, same_point}
use Rattle.kinds.specs.Residues.{residue, residue_is}
use Rattle.kinds.specs.declared.point.Point.{Point}
use Rattle.schemes.specs.Equations.{s_lift, lift, means}
use Rattle.schemes.specs.Fractions.{Fraction, whole}
use Rattle.schemes.specs.PointAmounts.{each_rounded, point_amount}
use Rattle.schemes.specs.Readings.{parts}
use Rattle.schemes.specs.Rounding.{rounded}
use Rattle.schemes.specs.declared.steps.Class.{Class}
use Rattle.schemes.specs.declared.steps.Class.TheVariants.{Vertex, Edge, Face}
use Rattle.schemes.specs.declared.steps.Step.{Step}
use Rattle.schemes.specs.declared.steps.Step.TheVariants.{First, Second, Third}
use Rattle.schemes.proofs.Roundings.{rounded_rounds, rounds_alone, rounded_whole}
use Rattle.lifting.specs.declared.way.Way.{Way}
use Rattle.lifting.specs.declared.way.Way.TheVariants.{Down, Up}
use Rattle.lifting.specs.Places.{first_place, count_of, has_place, dimension_of}
use Rattle.lifting.specs.Reading.{s_lift_reads, read_by, values_read}
use Rattle.lifting.specs.HalfSteps.{on_the_way, amount_at, half, analysed, synthesised}
use Rattle.lifting.specs.IntegerLifting.{Axis, X, Y, Z, along, standing, Moved, Only, SLiftOfVertices, SLiftOfEdges, WLiftOfFaces, WLiftOfEdges, Analysis, Synthesis, spline, LiftingEquations}
use Rattle.lifting.proofs.Changing.{length_half, half_at, half_is, partly_outside}
use Rattle.lifting.proofs.Room.{point_inside}

down : (old : ℤ) (q : Fraction) → Moved Down old q (residue (old +ℤ residue (rounded q)))
down old q =
    let a = residue_is (rounded q) in
    let n = residue_is (old +ℤ residue (rounded q)) in
    record { amount = rounded q; rounds = rounded_rounds q; residue = record { least = n.least; most = n.most; turns = a.turns +ℤ n.turns; differs = omega (arith, ints) } }

up : (old : ℤ) (q : Fraction) → Moved Up old q (residue (old +ℤ residue (neg_ℤ (residue (rounded q)))))
up old q =
    let a = residue_is (rounded q) in
    let o = residue_is (neg_ℤ (residue (rounded q))) in
    let n = residue_is (old +ℤ residue (neg_ℤ (residue (rounded q)))) in
    record { amount = rounded q; rounds = rounded_rounds q; residue = record { least = n.least; most = n.most; turns = n.turns +ℤ o.turns -ℤ a.turns; differs = omega (arith, ints) } }

lifted : (way : Way) (old : Point) (equation : (Point → ℤ) → Fraction) (k : Axis) → Moved way (along k old) (equation (along k)) (along k (added old (on_the_way opposed way (each_rounded equation))))
lifted Down old equation X = down old.x (equation (λ p. p.x))
lifted Down old equation Y = down old.y (equation (λ p. p.y))
lifted Down old equation Z = down old.z (equation (λ p. p.z))
lifted Up old equation X = up old.x (equation (λ p. p.x))
lifted Up old equation Y = up old.y (equation (λ p. p.y))
lifted Up old equation Z = up old.z (equation (λ p. p.z))

-- by nothing
still : (way : Way) (x y : ℤ) → mag x < 2 ^ 31 → Moved way x (whole (pos 0)) y → y ≡ x
still Down x y fits moved =
    let none : moved.amount ≡ pos 0 = rounds_alone (whole (pos 0)) moved.amount (rounded (whole (pos 0))) moved.rounds (rounded_rounds (whole (pos 0))) ∙ rounded_whole (pos 0) in
    let r = moved.residue in
    omega (arith, ints)
still Up x y fits moved =
    let none : moved.amount ≡ pos 0 = rounds_alone (whole (pos 0)) moved.amount (rounded (whole (pos 0))) moved.rounds (rounded_rounds (whole (pos 0))) ∙ rounded_whole (pos 0) in
    let r = moved.residue in
    omega (arith, ints)

unmoved_point : (way : Way) (p q : Point) → ((k : Axis) → Moved way (along k p) (whole (pos 0)) (along k q)) → q ≡ p
unmoved_point way p q moved = same_point (still way p.x q.x p.fits.0 (moved X)) (still way p.y q.y p.fits.1 (moved Y)) (still way p.z q.z p.fits.2 (moved Z))

module _ {m : Meaning} (lawful : Lawful m) (j : ℕ) (below : j < m.levels) (factor : Step → Fraction) (way : Way) (vs : List Point) (whole-surface : length vs ≡ m.vertices m.levels) where
  at_point : (step : Step) (c : Class) (i : ℕ) → i < count_of m j c → standing m j (half m (spline factor) way j (step, c) vs) c i ≡ added (standing m j vs c i) (on_the_way opposed way (amount_at m (spline factor) step j c i vs))
  at_point step c i l =
      let place = first_place m j c + i in
      let inside : place < length vs = omega (arith, point_inside lawful j c i below l) in
      let run : has_place m j c place ≡ true = grind (arith, nat_tests) in
      let number : place - first_place m j c ≡ i = omega arith in
      half_at m (spline factor) way j (step, c) vs place origin inside
      ∙ cond-true (has_place m j c place) _ _ run
      ∙ ap (λ n. added (get_or vs place origin) (on_the_way opposed way (amount_at m (spline factor) step j c n vs))) number

  moves : (step : Step) (c : Class) (i : ℕ) → i < count_of m j c → (k : Axis) → Moved way (along k (standing m j vs c i)) (lift factor step c (dimension_of m j c i) (means (parts (along k) (values_read m origin vs j (read_by m step j c i))))) (along k (standing m j (half m (spline factor) way j (step, c) vs) c i))
  unfolding point_amount
  moves step c i l k =
      let equation : (Point → ℤ) → Fraction = λ f. lift factor step c (dimension_of m j c i) (means (parts f (values_read m origin vs j (read_by m step j c i)))) in
      subst (λ p. Moved way (along k (standing m j vs c i)) (equation (along k)) (along k p)) (sym (at_point step c i l)) (lifted way (standing m j vs c i) equation k)

  only_class : (step : Step) (c : Class) → Only m j c vs (half m (spline factor) way j (step, c) vs)
  only_class step c = record {
    as_long = length_half m (spline factor) way j (step, c) vs;
    elsewhere = λ p out. ap (λ xs. get_or xs p origin) (half_is m (spline factor) way step j c vs) ∙ partly_outside m (spline factor) way step j c (count_of m j c) vs p out;
  }

  s_vertices : (step : Step) → ((i : ℕ) → i < m.vertices j → (k : Axis) → Moved way (along k (standing m j vs Vertex i)) (s_lift (factor step) Vertex (m.dimension j i) (means (parts (along k) (values_read m origin vs j (s_lift_reads m j Vertex i))))) (along k (standing m j (half m (spline factor) way j (step, Vertex) vs) Vertex i))) → SLiftOfVertices m j way (factor step) vs (half m (spline factor) way j (step, Vertex) vs)
  s_vertices step moved = record {
    smooth = λ v l e k. rw e at (moved v l k);
    on_curve = λ v l e k. rw e at (moved v l k);
    corner = λ v l e. unmoved_point way _ _ (λ k. rw e at (moved v l k));
    only = only_class step Vertex;
  }

  s_edges : (step : Step) → ((i : ℕ) → i < m.edges j → (k : Axis) → Moved way (along k (standing m j vs Edge i)) (s_lift (factor step) Edge (dimension_of m j Edge i) (means (parts (along k) (values_read m origin vs j (s_lift_reads m j Edge i))))) (along k (standing m j (half m (spline factor) way j (step, Edge) vs) Edge i))) → SLiftOfEdges m j way (factor step) vs (half m (spline factor) way j (step, Edge) vs)
  s_edges step moved = record {
    smooth = λ e l c k. rw c at (moved e l k);
    on_curve = λ e l c. unmoved_point way _ _ (λ k. rw c at (moved e l k));
    only = only_class step Edge;
  }

  pub first_vertices : SLiftOfVertices m j way (factor First) vs (half m (spline factor) way j (First, Vertex) vs)
  first_vertices = s_vertices First (moves First Vertex)

  pub third_vertices : SLiftOfVertices m j way (factor Third) vs (half m (spline factor) way j (Third, Vertex) vs)
  third_vertices = s_vertices Third (moves Third Vertex)

  pub first_edges : SLiftOfEdges m j way (factor First) vs (half m (spline factor) way j (First, Edge) vs)
  first_edges = s_edges First (moves First Edge)

  pub third_edges : SLiftOfEdges m j way (factor Third) vs (half m (spline factor) way j (Third, Edge) vs)
  third_edges = s_edges Third (moves Third Edge)

  pub second_faces : WLiftOfFaces m j way (factor Second) vs (half m (spline factor) way j (Second, Face) vs)
  second_faces = record { each = moves Second Face; only = only_class Second Face }

  pub second_edges : WLiftOfEdges m j way (factor Second) vs (half m (spline factor) way j (Second, Edge) vs)
  second_edges = record { each = moves Second Edge; only = only_class Second Edge }

-- the half steps one after the other, each as long as the one before
module _ {m : Meaning} (lawful : Lawful m) (j : ℕ) (below : j < m.levels) (factor : Step → Fraction) (vs : List Point) (whole-surface : length vs ≡ m.vertices m.levels) where
  by_halves : (way : Way) (s : Step × Class) (xs : List Point) → length xs ≡ m.vertices m.levels → length (half m (spline factor) way j s xs) ≡ m.vertices m.levels
  by_halves way s xs e = length_half m (spline factor) way j s xs ∙ e

  pub analysed_by : Analysis m j factor vs (analysed m (spline factor) j vs)
  unfolding analysed
  analysed_by =
      let step : Step × Class → List Point → List Point = half m (spline factor) Down j in
      let v1 = step (First, Vertex) vs in
      let e1 = step (First, Edge) v1 in
      let f2 = step (Second, Face) e1 in
      let e2 = step (Second, Edge) f2 in
      let v3 = step (Third, Vertex) e2 in
      let l1 : length v1 ≡ m.vertices m.levels = by_halves Down (First, Vertex) vs whole-surface in
      let l2 : length e1 ≡ m.vertices m.levels = by_halves Down (First, Edge) v1 l1 in
      let l3 : length f2 ≡ m.vertices m.levels = by_halves Down (Second, Face) e1 l2 in
      let l4 : length e2 ≡ m.vertices m.levels = by_halves Down (Second, Edge) f2 l3 in
      let l5 : length v3 ≡ m.vertices m.levels = by_halves Down (Third, Vertex) e2 l4 in
      record {
        one = e1;
        two = e2;
        first = record { between = v1; vertices = first_vertices lawful j below factor Down vs whole-surface; edges = first_edges lawful j below factor Down v1 l1 };
        second = record { between = f2; faces = second_faces lawful j below factor Down e1 l2; edges = second_edges lawful j below factor Down f2 l3 };
        third = record { between = v3; vertices = third_vertices lawful j below factor Down e2 l4; edges = third_edges lawful j below factor Down v3 l5 };
      }

  pub synthesised_by : Synthesis m j factor vs (synthesised m (spline factor) j vs)
  unfolding synthesised
  synthesised_by =
      let step : Step × Class → List Point → List Point = half m (spline factor) Up j in
      let e3 = step (Third, Edge) vs in
      let v3 = step (Third, Vertex) e3 in
      let e2 = step (Second, Edge) v3 in
      let f2 = step (Second, Face) e2 in
      let e1 = step (First, Edge) f2 in
      let l1 : length e3 ≡ m.vertices m.levels = by_halves Up (Third, Edge) vs whole-surface in
      let l2 : length v3 ≡ m.vertices m.levels = by_halves Up (Third, Vertex) e3 l1 in
      let l3 : length e2 ≡ m.vertices m.levels = by_halves Up (Second, Edge) v3 l2 in
      let l4 : length f2 ≡ m.vertices m.levels = by_halves Up (Second, Face) e2 l3 in
      let l5 : length e1 ≡ m.vertices m.levels = by_halves Up (First, Edge) f2 l4 in
      record {
        two = v3;
        one = f2;
        third = record { between = e3; edges = third_edges lawful j below factor Up vs whole-surface; vertices = third_vertices lawful j below factor Up e3 l1 };
        second = record { between = e2; edges = second_edges lawful j below factor Up v3 l2; faces = second_faces lawful j below factor Up e2 l3 };
        first = record { between = e1; edges = first_edges lawful j below factor Up f2 l4; vertices = first_vertices lawful j below factor Up e1 l5 };
      }

pub lifting_equations : {m : Meaning} → Lawful m → (j : ℕ) → LiftingEquations m j
lifting_equations lawful j = record { analysis = λ factor vs below long. analysed_by lawful j below factor vs long; synthesis = λ factor vs below long. synthesised_by lawful j below factor vs long }
