-- After k turns the buffer begins with the bytes of the first k chosen lanes. Assumes nothing.
use Rattle.std.proofs.Common.{◌≡◌, ◌*◌, take}
use Rattle.scale.specs.Bytes.{chosen_lanes, bytes_from}
use Rattle.scale.specs.Workers.{size_of, side_of}
use Rattle.scale.proofs.selectors.Selectors.choose.Given as goal

abbrev pub invariant-loop-k : goal.invariant-loop-k
invariant-loop-k l =
    let s = l.self in
    take (l.k * size_of s.width) l.chosen ≡ bytes_from (size_of s.width) s.byte_id.0 l.metadata (take l.k (chosen_lanes (side_of s.operand) s.thread_id.0))
