use Rattle.std.proofs.Common.{◌≡◌}
use Rattle.laws.specs.Fields.{field}
use Rattle.laws.specs.Toward.{stores}
use Rattle.step_products.proofs.digits_of.Given as goal

-- The loop stores the fields one after the other.
abbrev pub invariant-loop-j : goal.invariant-loop-j
invariant-loop-j l = l.out ≡ stores l.base 1 l.j (λ j. field l.bits j l.word) l.initial.out
