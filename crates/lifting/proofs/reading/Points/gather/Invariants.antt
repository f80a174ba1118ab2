use Rattle.std.proofs.Common.{◌≡◌, ℕ, Bool, ◌++◌, filter}
use Rattle.lifting.specs.Reading.{values_of}
use Rattle.lifting.specs.Gathering.{Tells, Gathered}
use Rattle.lifting.proofs.reading.Points.gather.Given as goal

-- so far the sum holds what was read of the numbers that came, and the list's others are still to come
abbrev pub invariant-loop-number : goal.invariant-loop-number
invariant-loop-number g l =
    let m = g.H.Hierarchy.meaning l.self.h.now in
    record {
      all : l.yielded ++ l.number-iterator ≡ m.list l.self.at.level l.fn.link l.of;
      sums : (read : ℕ → Bool) → Tells (goal.F-post g l.is_read) read
          → Gathered g.S.Scheme.holds l.class (values_of m g.S.Value.ValueKind.zero l.self.values.now l.self.at.level l.class (filter read l.yielded)) l.initial.sum l.sum;
    }
