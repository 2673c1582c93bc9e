-- Lines were printed for the bytes that came, at least one byte a turn and whole records. Assumes nothing.
use Rattle.std.proofs.Common.{◌≡◌, ◌%◌, ◌≤◌, ℕ, List, length}
use Rattle.std.specs.Io.KnownBytes.{Appends, Consumes}
use Rattle.lookup_text.specs.Text.{printed}
use Rattle.lookup.proofs.answer_all.Given as goal

abbrev pub invariant-loop-turns : goal.invariant-loop-turns
invariant-loop-turns g l = (bytes : List ℕ) × Consumes (g.R.Read.remaining l.fn.from) (g.R.Read.remaining l.from) bytes
    × Appends (g.W.Write.contents l.fn.out) (g.W.Write.contents l.out) (printed bytes)
    × (length bytes % 4 ≡ 0) × (l.turns ≤ length bytes)
