-- Integers and the 32-bit words that stand for them. Assumes nothing.
use Rattle.std.specs.Prelude.{ℕ, zero, suc, ◌*◌, ◌-◌, ◌%◌, ◌^◌, min, Bool, true, false, ℤ, pos, negsuc, ◌+ℤ◌, if◌then◌else◌}
use Rattle.std.proofs.Math.IntN.{sub_ℕ}
use Rattle.laws.specs.Choice.{◌<?◌, ◌≤?◌}

-- a pattern whose sign bit weighs half: read as unsigned, itself; as signed, in two's complement
unfoldable pub value : (unsigned : Bool) → (half x : ℕ) → ℤ
value true half x = pos x
value false half x = if x <? half then pos x else sub_ℕ x (2 * half)

-- f 0 + f 1 + .. + f (n - 1)
unfoldable pub sum_z : ℕ → (ℕ → ℤ) → ℤ
sum_z zero f = pos 0
sum_z (suc n) f = sum_z n f +ℤ f n

-- a 32-bit word read as a signed number
unfoldable pub int32 : ℕ → ℤ
int32 w = value false (2 ^ 31) w

-- the 32-bit word of a number: it wraps
unfoldable pub word32 : ℤ → ℕ
word32 (pos n) = n % 2 ^ 32
word32 (negsuc n) = 2 ^ 32 - 1 - n % 2 ^ 32

-- the nearest number in -2,147,483,648 .. 2,147,483,647
unfoldable pub clamp : ℤ → ℤ
clamp (pos n) = pos (min n 2147483647)
clamp (negsuc n) = negsuc (min n 2147483647)

-- 0 for a number in there, and 1 for one outside
unfoldable pub outside : ℤ → ℕ
outside (pos n) = if n ≤? 2147483647 then 0 else 1
outside (negsuc n) = if n ≤? 2147483647 then 0 else 1
