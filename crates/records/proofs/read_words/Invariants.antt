-- The first i words were read; the measure is the words that are left. Assumes nothing.
use Rattle.std.proofs.Common.{◌≡◌, ◌-◌, ◌≤◌, length}
use Rattle.laws.specs.Lists.{fills}
use Rattle.records.specs.Records.{word_at}
use Rattle.records.proofs.read_words.Given as goal

abbrev pub invariant-loop-i : goal.invariant-loop-i
invariant-loop-i l = (l.i ≤ length l.words) × (l.words ≡ fills 0 l.i (word_at l.bytes) l.initial.words)

abbrev pub decreases-loop-i : goal.decreases-loop-i
decreases-loop-i l = length l.words - l.i
