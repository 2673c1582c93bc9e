use Rattle.std.proofs.Common.{◌≡◌, ℕ, ◌+◌, ◌*◌, ◌<◌, get_or}
use Rattle.step_ones.specs.Combined.{ones_of}
use Rattle.step_ones.proofs.Counter.sums.Given as goal

-- After some rows the buffer holds their ones, eight a row.
abbrev pub invariant-loop-row : goal.invariant-loop-row
invariant-loop-row g l = (row column : ℕ) → row < l.row → column < 8 → get_or l.sums (row * 8 + column) 0 ≡ ones_of g.row.SPANS l.self.mode.0 l.rows l.pairs row column
