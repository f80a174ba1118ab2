use Rattle.std.proofs.Common.{◌≡◌, ◌+◌, Bool, false, List, length, get_or, sym, ap, ◌∙◌, arith}
use mir.Val.{bool_byte}
use Rattle.mesh.proofs.Certain.{rules_from}
use Rattle.base.specs.Bases.{shape}
use Rattle.plan.proofs.Coarse.{first_facts}
use Rattle.plan.proofs.Places.{keeps_wider}
use Rattle.plan.proofs.Reading.{byte}
use Rattle.plan.proofs.coarsest.write_curves.Goals as goal

pub write-requires-clause-within : goal.write-requires-clause-within
write-requires-clause-within c =
    let s = shape c.args.base.now in
    let rules = rules_from s c.args.base.now.rules in
    let n = first_facts s rules c.args.b c.requires.block in
    omega (arith, c.start.ensures.value, n.1, n.0.corners, n.0.edge_room, c.requires.within, ap length c.curve_marks-marks.ensures, rules.marks)

pub returns : goal.returns
returns c =
    let s = shape c.args.base.now in
    let rules = rules_from s c.args.base.now.rules in
    let n = first_facts s rules c.args.b c.requires.block in
    let items = c.curve_marks-marks.ensures in
    record {
      written = λ e l.
          let w = c.write.ensures.written e (omega (arith, ap length items, rules.marks, n.0.edges)) in
          let v : get_or c.write.new.table (c.start.result + e) 0 ≡ bool_byte (get_or c.curve_marks-marks.result.now e false) = search rules in
          ap (λ p. get_or c.write.new.table (p + e) 0) (sym c.start.ensures.value) ∙ v ∙ ap (λ (l : List Bool). bool_byte (get_or l e false)) items ∙ byte _;
      kept = keeps_wider _ _ (omega (arith, c.start.ensures.value)) (omega (arith, c.start.ensures.value, ap length items, rules.marks, n.0.edges)) c.write.ensures.kept;
    }
