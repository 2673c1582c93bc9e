-- Every entry that was passed fits. Assumes nothing.
use Rattle.std.proofs.Common.{ℕ, ◌^◌, ◌<◌, ◌≤◌, length, get_or}
use Rattle.pack.proofs.first_wide.Given as goal

abbrev pub invariant-loop-i : goal.invariant-loop-i
invariant-loop-i l = (l.i ≤ length l.matrix) × ((k : ℕ) → k < l.i → get_or l.matrix k 0 < 2 ^ l.bits)
