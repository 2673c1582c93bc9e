-- A sum of products of digits that stand too high is a difference of two sums of naturals; a pattern's value is its digit less the offset,
-- so the document's sum is the sum over digits. Assumes nothing.
use Rattle.std.proofs.Common.{if◌then◌else◌}
use mathlib.Core.Path.{◌≡◌, sym, ap, ap₂, ◌∙◌}
use mathlib.Core.Bool.{Bool, true, false, not}
use Prim.Native.Nat.{ℕ, zero, suc, ◌+◌, ◌*◌, ◌-◌, ◌%◌, ◌<◌, ◌≤◌}
use native.Mathlib.Nat.{mul-add, add-mul, mul-le-mul, mod-eq_of_lt, add-mod_right}
use native.Mathlib.Omega.{arith}
use lib.Dec.{T, ltb, ltb→lt, nltb→le}
use lib.IntN.{pos, sub_ℕ, ◌*ℤ◌, ◌+ℤ◌}
use Rattle.laws.specs.Bits.{sum_n}
use Rattle.laws.specs.Integers.{value, sum_z}
use Rattle.laws.proofs.Differences.{is_pos, sub_add, sub_mul, sub_eq}
use Rattle.laws.proofs.Integers.{sum_z_cong}
use Rattle.step_products.specs.Sums.{offset_of, raised, offset_dot}

-- a product of small numbers is small
pub product_le : (u v m n : ℕ) → u ≤ m → v ≤ n → u * v ≤ m * n
product_le u v m n h k = mul-le-mul h k

-- one product more, on either side of the difference
more_plus : (s n p q : ℕ) → s + n * p + (q + p) ≡ s + q + suc n * p
more_plus s n p q = omega (arith, add-mul n 1 p)

more_minus : (ha hb u v x y : ℕ) → ha * v + hb * u + (x * hb + ha * y) ≡ ha * (v + y) + hb * (u + x)
more_minus ha hb u v x y = rw (mul-add ha v y, mul-add hb u x) (omega arith)

pub offset_is : (ha hb n : ℕ) (a b : ℕ → ℕ) → offset_dot ha hb n a b ≡ sub_ℕ (sum_n n (λ k. a k * b k) + n * (ha * hb)) (ha * sum_n n b + hb * sum_n n a)
unfolding offset_dot sum_z sum_n
offset_is ha hb zero a b = sym (is_pos (0 + 0 * (ha * hb)) (ha * 0 + hb * 0) 0 (omega arith))
offset_is ha hb (suc n) a b =
    ap₂ ◌+ℤ◌ (offset_is ha hb n a b) (sub_mul (a n) ha (b n) hb)
    ∙ sub_add (sum_n n (λ k. a k * b k) + n * (ha * hb)) (ha * sum_n n b + hb * sum_n n a) (a n * b n + ha * hb) (a n * hb + ha * b n)
    ∙ ap₂ sub_ℕ (more_plus (sum_n n (λ k. a k * b k)) n (ha * hb) (a n * b n)) (more_minus ha hb (sum_n n a) (sum_n n b) (a n) (b n))

signed_by : (t : Bool) (half x : ℕ) → x < 2 * half → (T t → x < half) → (T (not t) → half ≤ x)
    → (if t then pos x else sub_ℕ x (2 * half)) ≡ sub_ℕ ((x + half) % (2 * half)) half
signed_by true half x l f g =
    let k : x < half = f tt in
    let e : (x + half) % (2 * half) ≡ x + half = mod-eq_of_lt (omega arith) in
    sym (is_pos ((x + half) % (2 * half)) half x (omega arith))
signed_by false half x l f g =
    let k : half ≤ x = g tt in
    let p : x + half ≡ (x - half) + 2 * half = omega arith in
    let e : (x + half) % (2 * half) ≡ x - half = ap (λ (z : ℕ). z % (2 * half)) p ∙ add-mod_right (x - half) (2 * half) ∙ mod-eq_of_lt (omega arith) in
    sub_eq x (2 * half) ((x + half) % (2 * half)) half (omega arith)

pub value_digit : (unsigned : Bool) (half x : ℕ) → x < 2 * half → value unsigned half x ≡ sub_ℕ (raised (2 * half) (offset_of unsigned half) x) (offset_of unsigned half)
unfolding value
value_digit true half x l =
    let e : (x + 0) % (2 * half) ≡ x + 0 = mod-eq_of_lt (omega arith) in
    sym (is_pos ((x + 0) % (2 * half)) 0 x (omega arith))
value_digit false half x l = signed_by (ltb x half) half x l (ltb→lt x half) (nltb→le x half)

pub dot_digits : (half : ℕ) (ua ub : Bool) (n : ℕ) (a b : ℕ → ℕ) → ((k : ℕ) → k < n → (a k < 2 * half) × (b k < 2 * half))
    → sum_z n (λ k. value ua half (a k) *ℤ value ub half (b k))
    ≡ offset_dot (offset_of ua half) (offset_of ub half) n (λ k. raised (2 * half) (offset_of ua half) (a k)) (λ k. raised (2 * half) (offset_of ub half) (b k))
unfolding offset_dot
dot_digits half ua ub n a b h = sum_z_cong n _ _ (λ k l. ap₂ ◌*ℤ◌ (value_digit ua half (a k) (h k l).0) (value_digit ub half (b k) (h k l).1))

-- digits that agree have one sum
pub offset_ext : (ha hb n : ℕ) (a b a' b' : ℕ → ℕ) → ((k : ℕ) → k < n → (a k ≡ a' k) × (b k ≡ b' k)) → offset_dot ha hb n a b ≡ offset_dot ha hb n a' b'
unfolding offset_dot
offset_ext ha hb n a b a' b' h = sum_z_cong n _ _ (λ k l. ap₂ (λ (x y : ℕ). sub_ℕ x ha *ℤ sub_ℕ y hb) (h k l).0 (h k l).1)
