-- Eight fields of nought, or of the sign bit. Assumes nothing.
use Rattle.std.proofs.Common.{◌≡◌, ℕ, ◌⊎◌, inl, inr, sym, ap}
use Rattle.laws.specs.Fields.{joined}
use Rattle.step_nibbles.proofs.mask_of.Goals as goal

none : (o : ℕ) → o ≡ 0 → 0 ≡ joined 4 8 (λ j. o)
unfolding joined
none o e = sym (ap (λ (o : ℕ). joined 4 8 (λ j. o)) e)

signs : (o : ℕ) → (o ≡ 0 → ⊥) → (o ≡ 0) ⊎ (o ≡ 8) → 0x88888888 ≡ joined 4 8 (λ j. o)
unfolding joined
signs o n (inl e) = absurd (n e)
signs o n (inr e) = sym (ap (λ (o : ℕ). joined 4 8 (λ j. o)) e)

pub returns-then-offset-eq0 : goal.returns-then-offset-eq0
returns-then-offset-eq0 c = none _ c.if-offset-eq0.true

pub returns : goal.returns
returns c = signs _ c.if-offset-eq0.false c.requires
