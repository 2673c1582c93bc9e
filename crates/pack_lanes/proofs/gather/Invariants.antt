-- After j turns the sum is the number joined of the first j entries. Assumes nothing.
use Rattle.std.proofs.Common.{ℕ, ◌≡◌, ◌+◌, ◌*◌, ◌≤◌, get_or}
use Rattle.laws.specs.Fields.{joined}
use Rattle.pack_lanes.proofs.gather.Given as goal

abbrev pub invariant-loop-j : goal.invariant-loop-j
invariant-loop-j l = (l.j ≤ l.count) × (l.sum ≡ joined l.bits l.j (λ (j : ℕ). get_or l.matrix (l.base + j * l.step) 0))
