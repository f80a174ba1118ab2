use Rattle.std.proofs.Common.{◌≡◌, ◌-◌, length}
use Rattle.mesh.specs.Reading.{records, blank}
use Rattle.base.specs.Drafts.{drafted}
use Rattle.base.proofs.reading.read_records.Given as goal

abbrev pub invariant-loop-number : goal.invariant-loop-number
invariant-loop-number l = records (length l.bytes - l.number) l.number (drafted l.draft) l.rest ≡ records (length l.bytes) 0 blank l.bytes
