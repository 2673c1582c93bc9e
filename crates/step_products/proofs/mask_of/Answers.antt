-- Four fields of nought, or of the sign bit. Assumes nothing.
use Rattle.std.proofs.Common.{◌≡◌, ℕ, ◌⊎◌, inl, inr, sym, ap}
use Rattle.laws.specs.Fields.{joined}
use Rattle.step_products.proofs.mask_of.Goals as goal

none : (o : ℕ) → o ≡ 0 → 0 ≡ joined 8 4 (λ j. o)
unfolding joined
none o e = sym (ap (λ (o : ℕ). joined 8 4 (λ j. o)) e)

signs : (o : ℕ) → (o ≡ 0 → ⊥) → (o ≡ 0) ⊎ (o ≡ 128) → 0x80808080 ≡ joined 8 4 (λ j. o)
unfolding joined
signs o n (inl e) = absurd (n e)
signs o n (inr e) = sym (ap (λ (o : ℕ). joined 8 4 (λ j. o)) e)

pub returns-then-offset-eq0 : goal.returns-then-offset-eq0
returns-then-offset-eq0 c = none _ c.if-offset-eq0.true

pub returns : goal.returns
returns c = signs _ c.if-offset-eq0.false c.requires
