use Rattle.schemes.proofs.Tallies.{mean_read}
use Rattle.schemes.proofs.tally.Tally.centroid.Goals as goal

pub returns : goal.returns
returns c ps h =
    let t = c.args.self in
    let n = c.max-count.ensures in
    record {
      by_x = mean_read (λ p. p.x) ps t.count t.x _ t.few t.small.0 h.by_x h.counted n;
      by_y = mean_read (λ p. p.y) ps t.count t.y _ t.few t.small.1 h.by_y h.counted n;
      by_z = mean_read (λ p. p.z) ps t.count t.z _ t.few t.small.2 h.by_z h.counted n;
    }
