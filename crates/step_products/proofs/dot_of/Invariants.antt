use Rattle.std.proofs.Common.{◌+◌, get_or}
use Rattle.step_products.specs.Sums.{Dots}
use Rattle.step_products.proofs.dot_of.Given as goal

-- After k turns the three sums are those of k terms, and small.
abbrev pub invariant-loop-k : goal.invariant-loop-k
invariant-loop-k l =
    Dots l.k (λ t. get_or l.x (l.i + t) 0) (λ t. get_or l.y (l.j + t) 0) (record { products = l.products; a = l.a; b = l.b })
