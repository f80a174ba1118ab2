-- One turn of reading records. Assumes nothing.
use Rattle.std.proofs.Common.{◌≡◌, ℕ, suc, ◌+◌, ◌-◌, ◌<◌, List, Some, None, Ok, Err, Option, Result, refl, ◌∙◌, arith}
use Rattle.refusal.specs.declared.Fault.{Fault}
use Rattle.refusal.specs.declared.Fault.TheVariants.{Refused, Memory}
use Rattle.refusal.specs.declared.Refusal.{Refusal}
use Rattle.refusal.specs.declared.Refusal.TheVariants.{Truncated}
use Rattle.mesh.specs.Reading.{Draft, then, unless, onto, judged, added, records}
use Rattle.mesh.specs.Records as formats
use Rattle.mesh.specs.Records.{next, end}
use Rattle.base.specs.declared.record.Record.{Record}
use Rattle.base.specs.declared.record.Record.TheVariants.{Vertex, Face, Curve, End}
use Rattle.base.specs.Drafts.{TurnedDown, Failed}
use Rattle.base.specs.Views.{view}

pub none_left : (n : ℕ) (turns : ℕ) (d : Draft) (bs : List ℕ) → turns ≡ 0 → records turns n d bs ≡ Err (Truncated n)
unfolding records
none_left n turns d bs e = rw e

module _ (total n : ℕ) (d : Draft) (bs : List ℕ) (more : n < total) where
  turn : records (total - n) n d bs ≡ then (next n bs) (λ (p : formats.Record × List ℕ). unless (judged n d p.0) (onto p.0 (Ok (d, p.1)) (records (total - (n + 1)) (n + 1) (added d p.0) p.1)))
  unfolding records
  turn =
      let e : total - n ≡ suc (total - (n + 1)) = omega arith in
      rw e

  pub cut_short : (x : Refusal) → next n bs ≡ Err x → records (total - n) n d bs ≡ Err x
  cut_short x e = turn ∙ rw e

  module _ (r : formats.Record) (rest : List ℕ) (read : next n bs ≡ Ok (r, rest)) where
    pub refused : (x : Refusal) → judged n d r ≡ Some x → records (total - n) n d bs ≡ Err x
    refused x e = turn ∙ rw (read, e)

    taken : judged n d r ≡ None → records (total - n) n d bs ≡ onto r (Ok (d, rest)) (records (total - (n + 1)) (n + 1) (added d r) rest)
    taken e = turn ∙ rw (read, e)

    pub ended : judged n d r ≡ None → r ≡ end → records (total - n) n d bs ≡ Ok (d, rest)
    ended e is = taken e ∙ rw is

    pub goes_on : judged n d r ≡ None → onto r (Ok (d, rest)) (records (total - (n + 1)) (n + 1) (added d r) rest) ≡ records (total - (n + 1)) (n + 1) (added d r) rest → records (total - n) n d bs ≡ records (total - (n + 1)) (n + 1) (added d r) rest
    goes_on e on = taken e ∙ on

-- a record that does not end the base goes on
pub not_end : {A : Type 0} (r : Record) (x y : A) → (r ≡ End → ⊥) → onto (view r) x y ≡ y
not_end (Vertex dimension) x y ne = refl
not_end (Face body) x y ne = refl
not_end (Curve s) x y ne = refl
not_end End x y ne = absurd (ne refl)

-- a record that was turned down turns the base down
pub failed : {A : Type 0} (f : Fault) (o : Option Refusal) (r : Result A Refusal) → TurnedDown f o → ((x : Refusal) → o ≡ Some x → r ≡ Err x) → Failed f r
failed (Refused x) o r t h = h x t
failed Memory o r t h = tt
