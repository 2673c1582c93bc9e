use Rattle.std.proofs.Common.{◌≡◌, ◌*◌, ◌≤◌}
use Rattle.laws.specs.Bits.{ones_in}
use Rattle.step_ones.specs.Combined.{down_bits}
use Rattle.step_ones.proofs.Counter.ones_of.Given as goal

-- After q turns the sum is the ones among the combined bits of the first q pairs.
abbrev pub invariant-loop-q : goal.invariant-loop-q
invariant-loop-q g l = (l.ones ≤ 64 * l.q) × (l.ones ≡ ones_in (down_bits l.self.mode.0 l.q l.rows l.pairs (l.row * (g.row.SPANS * 4)) l.column))
