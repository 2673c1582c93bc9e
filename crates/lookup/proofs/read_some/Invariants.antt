-- What came stands at the start of the buffer, and no more than there is room for: the whole buffer, and then up to a record's end. The measure is
-- the room of the buffer that is left. Assumes nothing.
use Rattle.std.proofs.Common.{length, ◌-◌, ◌≡◌, ◌%◌, ◌<◌, ◌≤◌, take}
use Rattle.std.specs.Io.KnownBytes.{Consumes}
use Rattle.lookup.proofs.read_some.Given as goal

abbrev pub invariant-loop-bytes : goal.invariant-loop-bytes
invariant-loop-bytes g l = record {
  below : l.bytes ≤ l.whole;
  in_bounds : l.whole ≤ length l.input;
  ends_record : l.whole % 4 ≡ 0;
  room : 0 < length l.input → 0 < l.whole;
  moved : Consumes (g.R.Read.remaining l.fn.from) (g.R.Read.remaining l.from) (take l.bytes l.input);
}

abbrev pub decreases-loop-bytes : goal.decreases-loop-bytes
decreases-loop-bytes g l = length l.initial.input - l.bytes
