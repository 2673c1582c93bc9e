-- The loop copies the bytes from the front. Assumes nothing.
use Rattle.std.proofs.Common.{ℕ, ◌≡◌, ◌≤◌, length, get_or}
use Rattle.laws.specs.Lists.{fills}
use Rattle.template.proofs.widen.Given as goal

abbrev pub invariant-loop-x : goal.invariant-loop-x
invariant-loop-x l = (l.x ≤ length l.«record») × (l.matrix ≡ fills 0 l.x (λ (k : ℕ). get_or l.«record» k 0) l.initial.matrix)
