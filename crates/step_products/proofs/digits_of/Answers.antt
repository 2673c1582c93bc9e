-- The loop stores the fields one after the other; a field of at most eight bits is a byte. Assumes nothing.
use Rattle.std.proofs.Common.{ℕ, ◌+◌, ◌^◌, ◌<◌, List, set, refl, ap₂, subst, sym, ◌∙◌, arith}
use native.Mathlib.Nat.{lt_of_lt_of_le}
use lib.Pow.{pow_mono}
use Rattle.laws.specs.Fields.{field}
use Rattle.laws.proofs.Fields.{field_lt}
use Rattle.laws.specs.Toward.{stores}
use Rattle.laws.proofs.Toward.{stores_next}
use Rattle.step_products.proofs.digits_of.Goals as goal

pub loop-j-init : goal.loop-j-init
unfolding stores
loop-j-init c = refl

pub overflow_cast-out : goal.overflow_cast-out
overflow_cast-out c =
    let s = c.args in
    record { fits = subst (λ (z : ℕ). z < 2 ^ 8) (sym c.field_of.ensures) (lt_of_lt_of_le (field_lt s.bits _ s.word) (pow_mono {j = 8} (omega arith))) }

pub loop-j-preserved : goal.loop-j-preserved
loop-j-preserved c =
    let s = c.args in
    let l = c.loop-j in
    ap₂ (λ (ys : List ℕ) (v : ℕ). set ys (s.base + l.j) v) l.invariant c.field_of.ensures
    ∙ stores_next s.base l.j (λ j. field s.bits j s.word) s.out.now
