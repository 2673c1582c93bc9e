use Rattle.std.proofs.Common.{◌≡◌, ℕ, ◌<◌, ◌≤◌, get_or}
use Rattle.run.proofs.Run.marked_from.Given as goal

-- Until a word is found that is not 0, all before it are 0.
abbrev pub invariant-loop-w : goal.invariant-loop-w
invariant-loop-w l = (i : ℕ) → l.from ≤ i → i < l.w → get_or l.marks i 0 ≡ 0
