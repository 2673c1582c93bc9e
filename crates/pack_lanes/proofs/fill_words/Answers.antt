-- The words are as many as they are to be. Assumes nothing.
use Rattle.std.proofs.Common.{sym, ◌∙◌}
use Rattle.buffers.proofs.Round.{packed_length}
use Rattle.pack_lanes.proofs.fill_words.Goals as goal

pub fill-requires : goal.fill-requires
fill-requires c = c.requires.2 ∙ sym (packed_length c.args.f.now c.args.matrix.now)
