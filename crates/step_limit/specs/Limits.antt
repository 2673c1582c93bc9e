-- Document 01, 'One step': the limit of the exact result; document 02, K12: whether it was cut off there. Assumes nothing.
use Rattle.std.specs.Prelude.{ℕ, ℤ, ◌+ℤ◌, if◌then◌else◌}
use Rattle.laws.specs.Choice.{◌=?◌}
use Rattle.laws.specs.Integers.{int32, word32, clamp, outside}

-- Mode 0 wraps the exact result to 32 bits, mode 1 clamps it once, at the end. C and D are signed.
unfoldable pub cell_of : (mode c : ℕ) → ℤ → ℕ
cell_of mode c exact = word32 (if mode =? 0 then int32 c +ℤ exact else clamp (int32 c +ℤ exact))

-- A mark is set, which is 1, exactly when the exact result lay outside 32 bits in mode 1.
unfoldable pub mark_of : (mode c : ℕ) → ℤ → ℕ
mark_of mode c exact = if mode =? 0 then 0 else outside (int32 c +ℤ exact)
