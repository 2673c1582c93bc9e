-- Fields of a number, low first. Assumes nothing.
use Rattle.std.specs.Prelude.{ℕ, zero, suc, ◌+◌, ◌*◌, ◌/◌, ◌%◌, ◌^◌}

-- the b bits of w from bit n up
unfoldable pub bits_from : (b n w : ℕ) → ℕ
bits_from b n w = w / 2 ^ n % 2 ^ b

-- the b bits of w from bit b * j up
unfoldable pub field : (b j w : ℕ) → ℕ
field b j w = w / 2 ^ (b * j) % 2 ^ b

-- the number whose fields of b bits are f 0, f 1, .., f (n - 1)
unfoldable pub joined : (b n : ℕ) → (ℕ → ℕ) → ℕ
joined b zero f = 0
joined b (suc n) f = f n * 2 ^ (b * n) + joined b n f
