-- What a read brought stands behind what had come. Assumes nothing.
use Rattle.std.proofs.Common.{rules}
use Rattle.lookup.proofs.Moved.{moved_joined}
use Rattle.lookup.proofs.read_some.Goals as goal

pub loop-bytes-preserved : goal.loop-bytes-preserved
loop-bytes-preserved g c =
    let l = c.loop-bytes in
    let read = c.in-Ok.ensures in record {
      below = search rules;
      in_bounds = search rules;
      ends_record = search rules;
      room = search rules;
      moved =
          moved_joined l.bytes l.whole l.input c.read_behind.new.input _ l.invariant.below read.input_unchanged _ _ _ c.in-Ok.held (search rules) (search rules)
          l.invariant.moved read.moved;
    }
