use Rattle.std.proofs.Common.{◌≡◌, sym, ◌∙◌, subst, subst₂, arith}
use Rattle.std.proofs.lemmas.Int.{ints}
use Rattle.schemes.specs.Fractions.{Worth}
use Rattle.schemes.specs.Rounding.{Rounds}
use Rattle.schemes.proofs.Roundings.{rounding_laws}
use Rattle.schemes.proofs.Sizes.{held, stored_is}
use Rattle.schemes.proofs.rounding.rounded_quotient.Goals as goal

pub returns-then-under-eq0-clause-laws : goal.returns-then-under-eq0-clause-laws
returns-then-under-eq0-clause-laws c = rounding_laws

pub returns-clause-value : goal.returns-clause-value
returns-clause-value c =
    let same = stored_is c.round.result c.round.type_inv in
    let over : held c.from.result ≡ c.args.over = stored_is c.from.result c.from.type_inv ∙ c.from.ensures ∙ omega (arith, ints, c.ranges.over.sfits) in
    (omega (arith, c.if-under-eq0.false), λ q w. let v = subst₂ (λ n d. Worth q n d) (sym over) (sym c.from-2.ensures) w in (same ∙ c.round.ensures.value q v, subst (Rounds q) (sym same) (c.round.ensures.rounds q v)))
