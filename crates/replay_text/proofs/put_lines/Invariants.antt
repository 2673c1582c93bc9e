-- The lines of the first i records were pushed, at most 49 bytes for each. Assumes nothing.
use Rattle.std.proofs.Common.{◌*◌, ◌≤◌}
use Rattle.text.specs.Text.{Pushed}
use Rattle.replay_text.specs.Text.{lines_of}
use Rattle.replay_text.proofs.put_lines.Given as goal

abbrev pub invariant-loop-i : goal.invariant-loop-i
invariant-loop-i l = Pushed (lines_of l.number l.i l.bytes) l.initial.text l.text × (l.text.len ≤ 49 * l.i)
