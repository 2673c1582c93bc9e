-- The sums are those of the crate step_products, with each product by shifts. Assumes nothing.
use Rattle.std.proofs.Common.{ℕ, ◌+◌, ◌*◌, ap, ap₂, ◌∙◌}
use native.Mathlib.Nat.{mul_assoc, mul_comm}
use Rattle.step_nibbles.proofs.exact.Goals as goal

pub returns-clause-is : goal.returns-clause-is
returns-clause-is c =
    let s = c.args in (
      ap (λ (z : ℕ). s.s.products + z) (c.times-corner.ensures.is ∙ ap (λ (z : ℕ). z * s.h.b) c.times.ensures.is ∙ mul_assoc s.n s.h.a s.h.b),
      ap₂ ◌+◌ (c.times-of_b.ensures.is ∙ mul_comm s.s.b s.h.a) (c.times-of_a.ensures.is ∙ mul_comm s.s.a s.h.b),
    )
