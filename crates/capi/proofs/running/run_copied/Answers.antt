use Rattle.std.proofs.Common.{◌≡◌, map, length, sym, ap, ◌∙◌, subst, arith}
use Rattle.std.proofs.lemmas.List.{length-map}
use Rattle.capi.specs.Crossings.{of_pairs}
use Rattle.capi.specs.Jobs.{beside, Performs}
use Rattle.capi.specs.Schemes.{points_by, beside_marks}
use Rattle.capi.proofs.Fronts.{front_whole, there_and_back}
use Rattle.capi.proofs.running.run_copied.Goals as goal

pub write_front-requires : goal.write_front-requires
write_front-requires g c =
    let as_many : length c.args.pairs.now ≡ length c.args.values.now = ap length c.requires ∙ length-map c.args.values.now of_pairs.arrives in
    omega (arith, as_many, c.run_both-result.auto.pairs)

pub returns-clause-run : goal.returns-clause-run
returns-clause-run g c =
    let pairs = c.run_both-result.new.pairs in
    let as_many : length c.args.pairs.now ≡ length c.args.values.now = ap length c.requires ∙ length-map c.args.values.now of_pairs.arrives in
    let whole = front_whole of_pairs.leaves pairs c.args.values.now (omega (arith, as_many, c.run_both-result.auto.pairs)) in
    let back : map of_pairs.arrives c.write_front.new.records ≡ pairs =
    ap (map of_pairs.arrives) (c.write_front.ensures of_pairs.leaves (λ x y e. e) ∙ whole) ∙ there_and_back of_pairs.arrives of_pairs.leaves of_pairs.kept pairs in
    subst
    (λ ps. Performs of_pairs (g.H.Hierarchy.meaning c.args.h.now) (beside_marks (points_by c.args.scheme)) c.args.job.now.depth c.args.job.now.calls.now (beside (map of_pairs.arrives c.args.values.now) c.args.job.now) (beside ps c.run_both-result.new.job) c.run_both-result.result)
    (sym back)
    (subst
    (λ ps. Performs of_pairs (g.H.Hierarchy.meaning c.args.h.now) (beside_marks (points_by c.args.scheme)) c.args.job.now.depth c.args.job.now.calls.now (beside ps c.args.job.now) (beside pairs c.run_both-result.new.job) c.run_both-result.result)
    c.requires
    c.run_both-result.ensures.run)
