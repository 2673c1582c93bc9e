use Rattle.std.proofs.Common.{◌≡◌, ℕ, ◌*◌, List, get_or}
use Rattle.laws.specs.Lists.{fills}
use Rattle.step_nibbles.specs.Planes.{spread_bit}
use Rattle.step_nibbles.proofs.planes.put_one.Given as goal

abbrev pub bits : (y : List ℕ) (i : ℕ) → ℕ → ℕ
bits y i j = spread_bit i (get_or y j 0)

-- The loop stores the bits of the digits in order.
abbrev pub invariant-loop-j : goal.invariant-loop-j
invariant-loop-j l = l.out ≡ fills (l.i * 512) l.j (bits l.y l.i) l.initial.out
