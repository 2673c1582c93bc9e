-- Lines were printed for the whole records of what has come, and the rest is kept. Fewer bytes have come than no input has, but for one read;
-- each turn brings some. Assumes nothing.
use Rattle.std.proofs.Common.{◌≡◌, ◌+◌, ◌-◌, ◌^◌, ◌≤◌, ℕ, List, length}
use Rattle.std.specs.Io.KnownBytes.{Appends, Consumes}
use Rattle.replay_text.specs.Text.{printed}
use Rattle.replay.specs.Turns.{begun, part_of}
use Rattle.replay.proofs.replay_all.Given as goal

abbrev pub invariant-loop-come : goal.invariant-loop-come
invariant-loop-come g l = (file : List ℕ) × record {
  few : l.come ≤ 2 ^ 63 + 64800;
  long : length file ≡ l.come;
  read : Consumes (g.R.Read.remaining l.fn.from) (g.R.Read.remaining l.from) file;
  written : Appends (g.W.Write.contents l.fn.out) (g.W.Write.contents l.out) (printed file);
  kept : begun l.come l.input ≡ part_of file;
}

abbrev pub decreases-loop-come : goal.decreases-loop-come
decreases-loop-come g l = 2 ^ 63 + 64800 - l.come
