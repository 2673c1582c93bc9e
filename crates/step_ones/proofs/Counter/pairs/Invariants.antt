use Rattle.std.proofs.Common.{◌≡◌, ℕ, List}
use Rattle.laws.specs.Lists.{fills, blocks}
use Rattle.step_ones.specs.Combined.{pair_of}
use Rattle.step_ones.proofs.Counter.pairs.Given as goal

abbrev pub pair_at : (spans : ℕ) → List ℕ → ℕ → ℕ
pair_at spans ws = blocks 8 (λ q column. pair_of spans ws column q)

-- The loop stores the pairs in order, eight columns for each number.
abbrev pub invariant-loop-k : goal.invariant-loop-k
invariant-loop-k g l = l.pair-items ≡ fills 0 l.k (pair_at g.row.SPANS l.words) l.initial.pair-items
