use Rattle.std.proofs.Common.{ℕ, ◌-◌, ◌*◌, ◌/◌, ◌^◌, ◌<◌, ◌≤◌, subst, ap₂}
use Rattle.curve.proofs.Births.{born_between, born_before}
use Rattle.curve.proofs.Levels.{two}
use Rattle.curve.proofs.level.CurveLevel.edge_level.Goals as goal

pub returns : goal.returns
returns c =
    let it = c.args.self.curve.now in
    let rank = ap₂ (λ (o e : ℕ). (c.args.number - o) / e) c.extra.ensures c.base_edges.ensures in
    let between = born_between it.closed it.points c.args.number c.ilog2.result (two it) (subst (λ (k : ℕ). 2 ^ c.ilog2.result ≤ k) rank c.ilog2.ensures.power_le) (subst (λ (k : ℕ). k < 2 * 2 ^ c.ilog2.result) rank c.ilog2.ensures.next_power_gt) in
    record { before = born_before it.closed it.points c.args.self.level c.ilog2.result c.args.number between.0 c.requires.there; low = between.0; high = between.1 }
