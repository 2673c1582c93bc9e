-- A turn pushes one line more. Assumes nothing.
use Rattle.std.proofs.Common.{rules, add-one}
use Rattle.text.proofs.Laws.{pushed_more}
use Rattle.replay_text.specs.Text.{lines_of, whole_records}
use Rattle.replay_text.proofs.Lines.{record_is}
use Rattle.replay_text.proofs.put_lines.Goals as goal

pub loop-i-preserved : goal.loop-i-preserved
unfolding lines_of
loop-i-preserved c =
    let line = rw (c.as_chunks.ensures.front, record_is (whole_records c.args.bytes.now) c.loop-i.i c.args.bytes.now (search rules)) at c.put_line.ensures.0 in
    (rw add-one (pushed_more c.loop-i.invariant.0 line), search rules)
