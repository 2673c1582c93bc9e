-- The part of the buffer behind the text is the bytes. Assumes nothing.
use Rattle.std.proofs.Common.{arith, refl}
use Rattle.text.proofs.Laws.{put_bytes}
use Rattle.text.proofs.Text.push_text.Goals as goal

pub returns : goal.returns
returns c = record { put = put_bytes _ _ _ _ _ c.copy_from_slice.ensures.after (omega arith) (omega arith); same_buffer = refl }
