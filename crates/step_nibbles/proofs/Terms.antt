-- A product is four terms, one for each bit of the second factor, by the bits' weights; so is a sum of products, term by term. A digit under a bit
-- that is spread over a byte is the digit times the bit. Assumes nothing.
use mathlib.Core.Path.{◌≡◌, sym, ap, ◌∙◌}
use Prim.Native.Nat.{ℕ, zero, suc, ◌+◌, ◌*◌, ◌/◌, ◌%◌, ◌^◌, ◌<◌}
use native.Mathlib.Nat.{mul-add, mul_comm, mul_assoc, mod-eq_of_lt, mod-lt}
use native.Mathlib.Omega.{arith}
use lib.Bits.{bit_and, and_zero_r, and_mask}
use lib.Dec.{eqb, eqb→eq}
use Rattle.laws.specs.Bits.{sum_n}
use Rattle.laws.proofs.Every.{all_at}
use Rattle.step_nibbles.specs.Planes.{spread_bit}

abbrev pub bit_at : (i y : ℕ) → ℕ
bit_at i y = y / 2 ^ i % 2

-- four numbers by the bits' weights
abbrev pub by_weight : (ones twos fours eights : ℕ) → ℕ
by_weight ones twos fours eights = ones + 2 * twos + 4 * fours + 8 * eights

digit_is : (y : ℕ) → y < 16 → by_weight (bit_at 0 y) (bit_at 1 y) (bit_at 2 y) (bit_at 3 y) ≡ y
digit_is y l = eqb→eq (weighed y) y (all_at 16 (λ y. eqb (weighed y) y) tt y l)
  where
    weighed : ℕ → ℕ
    weighed y = by_weight (bit_at 0 y) (bit_at 1 y) (bit_at 2 y) (bit_at 3 y)

pub terms : (x y : ℕ) → y < 16 → by_weight (x * bit_at 0 y) (x * bit_at 1 y) (x * bit_at 2 y) (x * bit_at 3 y) ≡ x * y
terms x y l = distributed (bit_at 0 y) (bit_at 1 y) (bit_at 2 y) (bit_at 3 y) ∙ ap (λ (z : ℕ). x * z) (digit_is y l)
  where
    weight_out : (w v : ℕ) → x * (w * v) ≡ w * (x * v)
    weight_out w v = sym (mul_assoc x w v) ∙ ap (λ (z : ℕ). z * v) (mul_comm x w) ∙ mul_assoc w x v

    distributed : (a b c d : ℕ) → by_weight (x * a) (x * b) (x * c) (x * d) ≡ x * by_weight a b c d
    distributed a b c d =
        rw (mul-add x (a + 2 * b + 4 * c) (8 * d), mul-add x (a + 2 * b) (4 * c), mul-add x a (2 * b)) (omega (arith, weight_out 2 b, weight_out 4 c, weight_out 8 d))

pub under_spread : (a i b : ℕ) → a < 16 → bit_and a (spread_bit i b) ≡ a * bit_at i b
under_spread a i b l = go (bit_at i b) (mod-lt (b / 2 ^ i) (omega arith))
  where
    go : (t : ℕ) → t < 2 → bit_and a (255 * t) ≡ a * t
    go zero h = and_zero_r a ∙ omega arith
    go (suc zero) h = and_mask a 8 ∙ mod-eq_of_lt (omega arith) ∙ omega arith
    go (suc (suc t)) h = absurd (omega arith)

-- sums by weight are the sum of what their terms give by weight
pub sums_by_weight : (n : ℕ) (f₀ f₁ f₂ f₃ g : ℕ → ℕ) → ((k : ℕ) → k < n → by_weight (f₀ k) (f₁ k) (f₂ k) (f₃ k) ≡ g k)
    → by_weight (sum_n n f₀) (sum_n n f₁) (sum_n n f₂) (sum_n n f₃) ≡ sum_n n g
unfolding sum_n
sums_by_weight zero f₀ f₁ f₂ f₃ g h = omega arith
sums_by_weight (suc n) f₀ f₁ f₂ f₃ g h = omega (arith, sums_by_weight n f₀ f₁ f₂ f₃ g (λ k l. h k (omega arith)), h n (omega arith))
