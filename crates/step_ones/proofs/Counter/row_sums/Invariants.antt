use Rattle.std.proofs.Common.{◌≡◌}
use Rattle.laws.specs.Lists.{fills}
use Rattle.step_ones.specs.Combined.{ones_of}
use Rattle.step_ones.proofs.Counter.row_sums.Given as goal

-- The loop stores the ones of the row with each column in order.
abbrev pub invariant-loop-column : goal.invariant-loop-column
invariant-loop-column g l = l.sums ≡ fills 0 l.column (ones_of g.row.SPANS l.self.mode.0 l.rows l.pairs l.row) l.initial.sums
