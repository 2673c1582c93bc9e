-- After i turns the exponents of the first i bytes stand in the output, and the rest as it was. Assumes nothing.
use Rattle.std.proofs.Common.{◌≡◌, ◌++◌, map, take, drop}
use Rattle.scale.specs.Bytes.{exponent}
use Rattle.scale.proofs.put_exponents.Given as goal

abbrev pub invariant-loop-i : goal.invariant-loop-i
invariant-loop-i l = l.out ≡ map exponent (take l.i l.chosen) ++ drop l.i l.initial.out
