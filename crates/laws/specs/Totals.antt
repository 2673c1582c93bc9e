-- Demand 3: numbers added one after the other. Assumes nothing.
use Rattle.std.specs.Prelude.{◌≡◌, List, [], ◌∷◌, ◌^◌, ℤ, pos, ◌+ℤ◌, ◌*ℤ◌, ◌≤ℤ◌}
use Rattle.laws.specs.Integers.{clamp}

-- the exact total
unfoldable pub total : List ℤ → ℤ
total [] = pos 0
total (z ∷ zs) = z +ℤ total zs

-- a number after the numbers, clamped after each
unfoldable pub clamped_each : ℤ → List ℤ → ℤ
clamped_each s [] = s
clamped_each s (z ∷ zs) = clamped_each (clamp (s +ℤ z)) zs

unfoldable pub All : (ℤ → Type 0) → List ℤ → Type 0
All P [] = Unit {0}
All P (z ∷ zs) = P z × All P zs

-- no number is negative; none is positive
abbrev pub NoneNegative : List ℤ → Type 0
NoneNegative zs = All (λ z. pos 0 ≤ℤ z) zs

abbrev pub NonePositive : List ℤ → Type 0
NonePositive zs = All (λ z. z ≤ℤ pos 0) zs

-- the number x differs from z by a multiple of 2^32
unfoldable pub Wraps : (x z : ℤ) → Type 0
Wraps x z = (k : ℤ) × (z ≡ x +ℤ k *ℤ pos (2 ^ 32))
