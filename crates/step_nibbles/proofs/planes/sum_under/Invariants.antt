use Rattle.std.proofs.Common.{◌≡◌, ◌+◌, ◌*◌, ◌≤◌, get_or}
use lib.Bits.{bit_and}
use Rattle.laws.specs.Bits.{sum_n}
use Rattle.step_nibbles.proofs.planes.sum_under.Given as goal

-- After k turns s is the sum of k digits under their bytes, of at most 15 each.
abbrev pub invariant-loop-k : goal.invariant-loop-k
invariant-loop-k l = (l.s ≡ sum_n l.k (λ t. bit_and (get_or l.x (l.i + t) 0) (get_or l.p (l.j + t) 0))) × (l.s ≤ 15 * l.k)
