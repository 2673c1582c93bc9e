use Rattle.std.proofs.Common.{◌≡◌, ◌+◌, ◌*◌, ◌≤◌, get_or}
use Rattle.laws.specs.Bits.{sum_n}
use Rattle.step_nibbles.proofs.planes.sum.Given as goal

-- After k turns s is the sum of k digits, of at most 15 each.
abbrev pub invariant-loop-k : goal.invariant-loop-k
invariant-loop-k l = (l.s ≡ sum_n l.k (λ t. get_or l.x (l.i + t) 0)) × (l.s ≤ 15 * l.k)
