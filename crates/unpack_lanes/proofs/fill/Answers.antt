-- The matrix is as long as what it is to hold. Assumes nothing.
use Rattle.std.proofs.Common.{sym, ◌∙◌}
use Rattle.buffers.proofs.Round.{unpacked_length}
use Rattle.unpack_lanes.proofs.fill.Goals as goal

pub fill-requires : goal.fill-requires
fill-requires c = c.requires.1 ∙ sym (unpacked_length c.args.f.now c.args.words.now)
