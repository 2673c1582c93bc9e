use Rattle.std.proofs.Common.{◌≡◌, ℕ, ◌*◌, List, get_or}
use Rattle.laws.specs.Lists.{fills, blocks}
use Rattle.step_nibbles.specs.Planes.{spread_bit}
use Rattle.step_nibbles.proofs.planes.put.Given as goal

abbrev pub bits : List ℕ → ℕ → ℕ → ℕ
bits y i j = spread_bit i (get_or y j 0)

-- After i turns the buffer holds i planes, one after another.
abbrev pub invariant-loop-i : goal.invariant-loop-i
invariant-loop-i l = l.out ≡ fills 0 (l.i * 512) (blocks 512 (bits l.y)) l.initial.out
