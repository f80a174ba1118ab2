use Rattle.std.proofs.Common.{◌-◌, length, get_or, take, drop, sym, ◌∙◌, arith, rules}
use Rattle.std.proofs.lemmas.Bool.{lt-ltb, le-ltb}
use Rattle.base.proofs.Steps.{proper_front, proper_none, proper_more, proper_unknown, proper_twice}
use Rattle.base.proofs.Tests.{occurs_from_contains}
use Rattle.base.proofs.face.are_proper.Goals as goal
use Rattle.base.proofs.face.are_proper.Goals.{then-from-vertices-via-then-from-vertices, then-from-vertices-via-else-from-vertices+then-contains}

pub returns-then-from-vertices : goal.returns-then-from-vertices
returns-then-from-vertices c =
    let rest = c.loop-rest.rest.now in
    let first = get_or rest 0 0 in
    let after = take (length rest - 1) (drop 1 rest) in
    let front = proper_front c.args.vertices rest (search rules) in
    elim c.then-from-vertices.branch [
      | then-from-vertices-via-then-from-vertices w ↦ sym (proper_unknown c.args.vertices first after (le-ltb first c.args.vertices (omega (arith, c.from.ensures, w.if-from-vertices.true)))) ∙ sym front ∙ c.loop-rest.invariant
      | then-from-vertices-via-else-from-vertices+then-contains w ↦ sym (proper_twice c.args.vertices first after (sym (occurs_from_contains after first w.contains.result w.contains.ensures.cases) ∙ w.if-contains.true)) ∙ sym front ∙ c.loop-rest.invariant
    ]

pub loop-rest-preserved : goal.loop-rest-preserved
loop-rest-preserved c =
    let rest = c.loop-rest.rest.now in
    let first = get_or rest 0 0 in
    let after = take (length rest - 1) (drop 1 rest) in
    sym (proper_more c.args.vertices first after (lt-ltb first c.args.vertices (omega arith)) (sym (occurs_from_contains after first c.contains.result c.contains.ensures.cases) ∙ c.if-contains.false))
    ∙ sym (proper_front c.args.vertices rest (search rules)) ∙ c.loop-rest.invariant

pub returns : goal.returns
returns c = sym (proper_none c.args.vertices c.loop-rest.rest.now (search rules)) ∙ c.loop-rest.invariant
