-- Which row refuses a record, test by test. Assumes nothing.
use Rattle.std.proofs.Common.{◌≡◌, ℕ, true, false, cond, eqb, ltb, leb, List, [], ◌∷◌, ◌++◌, length, Some, None, sym, refl, ◌∙◌, arith}
use Rattle.std.proofs.lemmas.Bool.{cond-true, cond-false, ne_eqb, or_right, or_from}
use Rattle.refusal.specs.declared.Refusal.TheVariants.{OutOfOrder, BadVertex, BadCurve, ThirdFace, TooMany}
use Rattle.mesh.specs.declared.Side.{Side}
use Rattle.mesh.specs.Reading.{Draft, empty, judged, out_of_order, bad_vertex, bad_curve, third_face, too_many}
use Rattle.mesh.specs.Records.{Record, face, curve}
use Rattle.mesh.specs.Shape.{edges, edge_of, occurs}
use Rattle.base.specs.Drafts.{Passed}
use Rattle.base.specs.Faces.{parts}

module _ (n : ℕ) (d : Draft) (r : Record) where
  pub row_order : out_of_order d r ≡ true → judged n d r ≡ Some (OutOfOrder n)
  row_order e = cond-true (out_of_order d r) _ _ e

  module _ (ordered : out_of_order d r ≡ false) where
    pub row_vertex : bad_vertex d r ≡ true → judged n d r ≡ Some (BadVertex n)
    row_vertex e = cond-false (out_of_order d r) _ _ ordered ∙ cond-true (bad_vertex d r) _ _ e

    module _ (known : bad_vertex d r ≡ false) where
      pub row_curve : bad_curve d r ≡ true → judged n d r ≡ Some (BadCurve n)
      row_curve e = cond-false (out_of_order d r) _ _ ordered ∙ cond-false (bad_vertex d r) _ _ known ∙ cond-true (bad_curve d r) _ _ e

      module _ (apart : bad_curve d r ≡ false) where
        pub row_third : third_face d r ≡ true → judged n d r ≡ Some (ThirdFace n)
        row_third e = cond-false (out_of_order d r) _ _ ordered ∙ cond-false (bad_vertex d r) _ _ known ∙ cond-false (bad_curve d r) _ _ apart ∙ cond-true (third_face d r) _ _ e

        module _ (room : third_face d r ≡ false) where
          last : judged n d r ≡ cond (too_many d r) (Some (TooMany n)) None
          last = cond-false (out_of_order d r) _ _ ordered ∙ cond-false (bad_vertex d r) _ _ known ∙ cond-false (bad_curve d r) _ _ apart ∙ cond-false (third_face d r) _ _ room

          pub row_many : too_many d r ≡ true → judged n d r ≡ Some (TooMany n)
          row_many e = last ∙ cond-true (too_many d r) _ _ e

          pub row_none : too_many d r ≡ false → judged n d r ≡ None
          row_none e = last ∙ cond-false (too_many d r) _ _ e

pub empty_eqb : {A : Type 0} (xs : List A) → empty xs ≡ eqb (length xs) 0
empty_eqb [] = refl
empty_eqb (x ∷ xs) = sym (ne_eqb _ 0 (λ e. omega arith))

pub empty_parts : (ks : List ℕ) (ss : List Side) → empty (parts ks ss) ≡ empty ks
empty_parts [] ss = refl
empty_parts (k ∷ ks) ss = refl

module _ (n : ℕ) (d : Draft) (cs : List ℕ) (passed : Passed d cs) where
  pub passed_many : ltb 512 (length (edges (d.faces ++ cs ∷ []))) ≡ true → judged n d (face cs) ≡ Some (TooMany n)
  passed_many e = row_many n d (face cs) passed.ordered passed.known refl passed.room (or_right (leb 256 (length d.faces)) _ e)

  pub passed_none : ltb 512 (length (edges (d.faces ++ cs ∷ []))) ≡ false → judged n d (face cs) ≡ None
  passed_none e = row_none n d (face cs) passed.ordered passed.known refl passed.room (or_from (leb 256 (length d.faces)) _ passed.few e)

-- a curve record whose edge is found
pub curve_found : (d : Draft) (s : Side) (e : ℕ) → edge_of (edges d.faces) s ≡ Some e → bad_curve d (curve s) ≡ occurs e d.named
curve_found d s e found = rw found
