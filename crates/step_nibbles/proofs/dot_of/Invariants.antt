use Rattle.std.proofs.Common.{◌+◌, ◌*◌, get_or}
use Rattle.step_products.specs.Sums.{Dots}
use Rattle.step_nibbles.proofs.dot_of.Given as goal

-- After q turns the three sums are those of q times sixteen digits.
abbrev pub invariant-loop-q : goal.invariant-loop-q
invariant-loop-q l =
    Dots (l.q * 16) (λ k. get_or l.x (l.i + k) 0) (λ k. get_or l.y (l.j + k) 0) (record { products = l.products; a = l.a; b = l.b })
