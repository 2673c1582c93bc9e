-- Bits combined and counted. Assumes nothing.
use Rattle.std.specs.Prelude.{ℕ, zero, suc, ◌+◌, ◌*◌, ◌%◌, List, [], ◌∷◌, if◌then◌else◌}
use Rattle.laws.specs.Choice.{◌=?◌}

-- two bits combined: mode 0 is xor, mode 1 is and
unfoldable pub combine : (mode x y : ℕ) → ℕ
combine mode x y = if mode =? 0 then (x + y) % 2 else x * y

-- the ones in a list of bits
unfoldable pub ones_in : List ℕ → ℕ
ones_in [] = 0
ones_in (b ∷ bs) = if b =? 1 then suc (ones_in bs) else ones_in bs

-- f 0 + f 1 + .. + f (n - 1)
unfoldable pub sum_n : ℕ → (ℕ → ℕ) → ℕ
sum_n zero f = 0
sum_n (suc n) f = sum_n n f + f n
