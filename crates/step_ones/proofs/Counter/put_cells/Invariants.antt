use Rattle.std.proofs.Common.{◌≡◌, ℕ, ◌+◌, ◌*◌, List, get_or}
use lib.IntN.{pos}
use Rattle.laws.specs.Lists.{fills, blocks}
use Rattle.step_limit.specs.Limits.{cell_of}
use Rattle.step_ones.specs.Combined.{place_at}
use Rattle.step_ones.proofs.Counter.put_cells.Given as goal

abbrev pub word : (halves : ℕ) → (s c : List ℕ) → ℕ → ℕ
word halves s c = blocks (2 * halves) (λ lane i. cell_of 0 (get_or c (lane * (2 * halves) + i) 0) (pos (get_or s (place_at halves lane i) 0)))

-- The loop stores the words of D in order, each with the ones at its row and column.
abbrev pub invariant-loop-k : goal.invariant-loop-k
invariant-loop-k g l = l.d ≡ fills 0 l.k (word g.row.HALVES l.sums l.c) l.initial.d
