use Rattle.std.proofs.Common.{rules, get_or, Ok, sym, ◌∙◌}
use Rattle.std.proofs.lemmas.List.{take_rest}
use Rattle.mesh.specs.Records.{curve}
use Rattle.mesh.specs.Shape.{side}
use Rattle.base.proofs.Heads.{end_front, vertex_front, curve_front, face_front, low_first}
use Rattle.base.proofs.record.next_record.Goals as goal

pub returns-in-2 : goal.returns-in-2
returns-in-2 c =
    let bs = c.args.bytes.now in
    let front = curve_front c.args.number bs (search rules) (search rules) in
    let tail = low_first c.from_le_bytes-tail.result (get_or bs 1 0) (get_or bs 2 0) c.from_le_bytes-tail.ensures in
    let head = low_first c.from_le_bytes-head.result (get_or bs 3 0) (get_or bs 4 0) c.from_le_bytes-head.ensures in
    (λ i. Ok (curve (side (tail i) (head i)), take_rest bs 5 i)) ∙ sym front

pub returns-in-1 : goal.returns-in-1
returns-in-1 c =
    let bs = c.args.bytes.now in
    let front = vertex_front c.args.number bs (search rules) (search rules) in
    let rest = take_rest bs 2 in
    cc

pub returns-in-3-to-8 : goal.returns-in-3-to-8
returns-in-3-to-8 c =
    let bs = c.args.bytes.now in
    let front = face_front c.args.number bs (search rules) in
    let rest = take_rest bs 1 in
    cc

pub returns-in-0 : goal.returns-in-0
returns-in-0 c =
    let bs = c.args.bytes.now in
    let front = end_front c.args.number bs (search rules) (search rules) in
    let rest = take_rest bs 1 in
    cc
