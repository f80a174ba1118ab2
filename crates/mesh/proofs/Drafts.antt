-- Records that no row refuses, read one after the other, and the draft that they give. Assumes nothing.
use Rattle.std.proofs.Common.{◌≡◌, ℕ, zero, suc, ◌+◌, ◌<◌, ◌≤◌, Bool, false, cond, List, [], ◌∷◌, ◌++◌, map, length, Some, None, Ok, fold, Option, Result, ap, ◌∙◌, arith}
use Rattle.std.proofs.lemmas.List.{append-nil, append_assoc, length-append}
use Rattle.std.specs.List.{flat_map}
use Rattle.refusal.specs.declared.Refusal.{Refusal}
use Rattle.refusal.specs.declared.Refusal.TheVariants.{OutOfOrder, BadVertex, BadCurve, ThirdFace, TooMany}
use Rattle.mesh.specs.declared.Side.{Side}
use Rattle.mesh.specs.Shape.{edges}
use Rattle.mesh.specs.Records.{Record, vertex, face, curve, end, bytes_of, written_with}
use Rattle.mesh.specs.Reading.{Draft, blank, out_of_order, bad_vertex, bad_curve, third_face, too_many, judged, added, onto, records}
use Rattle.mesh.proofs.Lists.{joined_append, joined_map, folded_append}
use Rattle.mesh.proofs.Results.{cond_else}
use Rattle.mesh.proofs.Edges.{number}
use Rattle.mesh.proofs.Bytes.{Sized, next_sized}

-- no row refuses the record
pub record Passed (d : Draft) (r : Record) : Type 0 where
  pub in_order : out_of_order d r ≡ false
  pub good_vertex : bad_vertex d r ≡ false
  pub good_curve : bad_curve d r ≡ false
  pub room_at_edges : third_face d r ≡ false
  pub few : too_many d r ≡ false

module _ (n : ℕ) (d : Draft) (r : Record) where
  pub judged_none : Passed d r → judged n d r ≡ None
  judged_none p = rw (p.in_order, p.good_vertex, p.good_curve, p.room_at_edges, p.few)

  pub passed_from_none : judged n d r ≡ None → Passed d r
  passed_from_none e =
      let a = row (out_of_order d r) (OutOfOrder n) _ e in
      let b = row (bad_vertex d r) (BadVertex n) _ a.1 in
      let c = row (bad_curve d r) (BadCurve n) _ b.1 in
      let f = row (third_face d r) (ThirdFace n) _ c.1 in
      let m = row (too_many d r) (TooMany n) None f.1 in
      record { in_order = a.0; good_vertex = b.0; good_curve = c.0; room_at_edges = f.0; few = m.0 }
    where
      row : (b : Bool) (x : Refusal) (o : Option Refusal) → cond b (Some x) o ≡ None → (b ≡ false) × (o ≡ None)
      row b x o = cond_else b (Some x) o None (λ q. grind arith)

-- reading goes on after the record: it is not the end
abbrev pub Goes_on : Record → Type 0
Goes_on r = (stop go : Result (Draft × List ℕ) Refusal) → onto r stop go ≡ go

-- each record is read and passes where it stands, and none is the end
abbrev pub Passes : Draft → List Record → Type 0
Passes d [] = Unit {0}
Passes d (r ∷ rs) = Sized r × Goes_on r × Passed d r × Passes (added d r) rs

pub passes_append : (d : Draft) (rs qs : List Record) → Passes d rs → Passes (fold added d rs) qs → Passes d (rs ++ qs)
passes_append d [] qs p q = q
passes_append d (r ∷ rs) qs p q = (p.0, p.1, p.2, passes_append (added d r) rs qs p.3 q)

-- where all records pass, they are all read
pub records_pass : (rs : List Record) (turns n : ℕ) (d : Draft) → Passes d rs → Passed (fold added d rs) end → length rs < turns → records turns n d (flat_map bytes_of rs ++ bytes_of end) ≡ Ok (fold added d rs, [])
unfolding records
records_pass rs zero n d p e l = absurd (omega arith)
records_pass [] (suc turns) n d p e l = rw e.few
records_pass (r ∷ rs) (suc turns) n d p e l =
    let rest = flat_map bytes_of rs ++ bytes_of end in
    rw (append_assoc (bytes_of r) (flat_map bytes_of rs) (bytes_of end), next_sized n r rest p.0, judged_none n d r p.2, p.1 (Ok (d, rest)) (records turns (n + 1) (added d r) rest))
    (records_pass rs turns (n + 1) (added d r) p.3 e (omega arith))

one_byte : (r : Record) → 1 ≤ length (bytes_of r)
one_byte (vertex dim) = omega arith
one_byte (face cs) = omega arith
one_byte (curve s) = omega arith
one_byte end = omega arith

-- a record takes a byte at least
pub length_records : (rs : List Record) → length rs ≤ length (flat_map bytes_of rs)
length_records [] = omega arith
length_records (r ∷ rs) = omega (arith, one_byte r, length_records rs, length-append (bytes_of r) (flat_map bytes_of rs))

-- the records of a base before the end
abbrev pub records_of : List ℕ → List (List ℕ) → List Side → List Record
records_of dims faces curves = map vertex dims ++ (map face faces ++ map curve curves)

pub written_records : (dims : List ℕ) (faces : List (List ℕ)) (curves : List Side) → written_with dims faces curves ≡ flat_map bytes_of (records_of dims faces curves) ++ bytes_of end
written_records dims faces curves = simp (joined_append, joined_map, append_assoc)

pub folded_vertices : (d : Draft) (dims : List ℕ) → fold added d (map vertex dims) ≡ record { dims = d.dims ++ dims; faces = d.faces; named = d.named }
folded_vertices d [] = rw append-nil
folded_vertices d (x ∷ dims) = folded_vertices (added d (vertex x)) dims ∙ rw append_assoc

pub folded_faces : (d : Draft) (faces : List (List ℕ)) → fold added d (map face faces) ≡ record { dims = d.dims; faces = d.faces ++ faces; named = d.named }
folded_faces d [] = rw append-nil
folded_faces d (cs ∷ faces) = folded_faces (added d (face cs)) faces ∙ rw append_assoc

pub folded_curves : (d : Draft) (curves : List Side) → fold added d (map curve curves) ≡ record { dims = d.dims; faces = d.faces; named = d.named ++ map (number (edges d.faces)) curves }
folded_curves d [] = rw append-nil
folded_curves d (s ∷ curves) = folded_curves (added d (curve s)) curves ∙ rw append_assoc

abbrev pub draft_of : List ℕ → List (List ℕ) → List Side → Draft
draft_of dims faces curves = record { dims = dims; faces = faces; named = map (number (edges faces)) curves }

pub folded_records : (dims : List ℕ) (faces : List (List ℕ)) (curves : List Side) → fold added blank (records_of dims faces curves) ≡ draft_of dims faces curves
folded_records dims faces curves =
    folded_append added blank (map vertex dims) (map face faces ++ map curve curves)
    ∙ ap (λ d. fold added d (map face faces ++ map curve curves)) (folded_vertices blank dims)
    ∙ folded_append added (draft_of dims [] []) (map face faces) (map curve curves)
    ∙ ap (λ d. fold added d (map curve curves)) (folded_faces (draft_of dims [] []) faces)
    ∙ folded_curves (draft_of dims faces []) curves
