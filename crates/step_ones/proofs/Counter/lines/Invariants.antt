use Rattle.std.proofs.Common.{◌≡◌, ℕ, ◌*◌, List, get_or}
use Rattle.laws.specs.Lists.{fills, blocks}
use Rattle.step_ones.specs.Combined.{word_at}
use Rattle.step_ones.proofs.Counter.lines.Given as goal

abbrev pub word : (spans halves : ℕ) → List ℕ → ℕ → ℕ
word spans halves ws = blocks (spans * 4) (λ x q. get_or ws (word_at spans halves x q) 0)

-- The loop stores the words of the lines in order.
abbrev pub invariant-loop-k : goal.invariant-loop-k
invariant-loop-k g l = l.rows ≡ fills 0 l.k (word g.row.SPANS g.row.HALVES l.words) l.initial.rows
