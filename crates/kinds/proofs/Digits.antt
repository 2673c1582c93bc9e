-- The one rule is one to one, once over p and h: the digits of lane and element are those of the major and the minor number, put
-- together in another order. Assumes nothing.
use mathlib.Core.Path.{◌≡◌, refl, sym, ap, ◌∙◌}
use Prim.Native.Nat.{ℕ, ◌+◌, ◌*◌, ◌/◌, ◌%◌, ◌≤◌, ◌<◌}
use native.Mathlib.Nat.{div-add-mod', mod-lt, div-lt_iff_lt-mul, div-le_self, le_trans, mul-le-mul_right, mul-le-mul_left, mul-le-mul, add-mul, mul_assoc, mul_comm}
use native.Mathlib.Omega.{arith}
use lib.Arith.{digits_div, digits_mod, digits_lt}
use Rattle.kinds.specs.Rule.{major, minor, lane_of, element_of}

module _ (p h : ℕ) (p0 : 0 < p) (h0 : 0 < h) where
  -- the digits of the major and the minor number
  major_low : (l i : ℕ) → l < 32 → major p h l i % 8 ≡ l / 4
  unfolding major
  major_low l i lt = digits_mod (i / p % h) (omega arith)

  major_high : (l i : ℕ) → l < 32 → major p h l i / 8 ≡ i / p % h
  unfolding major
  major_high l i lt = digits_div (i / p % h) (omega arith)

  minor_low : (l i : ℕ) → minor p h l i % p ≡ i % p
  unfolding minor
  minor_low l i = digits_mod (i / p / h * 4 + l % 4) (mod-lt i p0)

  minor_high : (l i : ℕ) → minor p h l i / p ≡ i / p / h * 4 + l % 4
  unfolding minor
  minor_high l i = digits_div (i / p / h * 4 + l % 4) (mod-lt i p0)

  -- the digits of the lane and the element
  lane_high : (x y : ℕ) → lane_of p x y / 4 ≡ x % 8
  unfolding lane_of
  lane_high x y = digits_div (x % 8) (omega arith)

  lane_low : (x y : ℕ) → lane_of p x y % 4 ≡ y / p % 4
  unfolding lane_of
  lane_low x y = digits_mod (x % 8) (omega arith)

  element_high : (x y : ℕ) → element_of p h x y / p ≡ y / p / 4 * h + x / 8
  unfolding element_of
  element_high x y = digits_div (y / p / 4 * h + x / 8) (mod-lt y p0)

  element_low : (x y : ℕ) → element_of p h x y % p ≡ y % p
  unfolding element_of
  element_low x y = digits_mod (y / p / 4 * h + x / 8) (mod-lt y p0)

  -- lane and element come back
  pub lane_back : (l i : ℕ) → l < 32 → lane_of p (major p h l i) (minor p h l i) ≡ l
  unfolding lane_of
  lane_back l i lt =
      rw (major_low l i lt, minor_high l i, digits_mod (i / p / h) {m = 4} {r = l % 4} (omega arith))
      (omega arith)

  pub element_back : (l i : ℕ) → l < 32 → element_of p h (major p h l i) (minor p h l i) ≡ i
  unfolding element_of
  element_back l i lt =
      rw (minor_low l i, minor_high l i, major_high l i lt, digits_div (i / p / h) {m = 4} {r = l % 4} (omega arith), div-add-mod' (i / p) h)
      (div-add-mod' i p)

  -- the major and the minor number come back
  pub major_back : (x y : ℕ) → x < h * 8 → major p h (lane_of p x y) (element_of p h x y) ≡ x
  unfolding major
  major_back x y lt =
      rw (element_high x y, lane_high x y, digits_mod (y / p / 4) {m = h} {r = x / 8} (omega arith))
      (omega arith)

  pub minor_back : (x y : ℕ) → x < h * 8 → minor p h (lane_of p x y) (element_of p h x y) ≡ y
  unfolding minor
  minor_back x y lt =
      rw (element_high x y, element_low x y, lane_low x y, digits_div (y / p / 4) {m = h} {r = x / 8} (omega arith), div-add-mod' (y / p) 4)
      (div-add-mod' y p)

  -- the bounds, with s spans of 4 * p minor numbers
  pub major_lt : (l i : ℕ) → l < 32 → major p h l i < h * 8
  unfolding major
  major_lt l i lt = digits_lt (mod-lt (i / p) h0) (omega arith)

  pub minor_lt : (s l i : ℕ) → i < s * h * p → minor p h l i < s * 4 * p
  unfolding minor
  minor_lt s l i lt =
      digits_lt (digits_lt ((div-lt_iff_lt-mul h0).1 ((div-lt_iff_lt-mul p0).1 lt)) (omega arith)) (mod-lt i p0)

  pub lane_lt : (x y : ℕ) → lane_of p x y < 32
  unfolding lane_of
  lane_lt x y = omega arith

  pub group_lt : (s x y : ℕ) → x < h * 8 → y < s * 4 * p → y / p / 4 * h + x / 8 < s * h
  group_lt s x y xl yl = digits_lt ((div-lt_iff_lt-mul {k = 4} (omega arith)).1 ((div-lt_iff_lt-mul p0).1 yl)) (omega arith)

  pub element_lt : (s x y : ℕ) → x < h * 8 → y < s * 4 * p → element_of p h x y < s * h * p
  unfolding element_of
  element_lt s x y xl yl = digits_lt (group_lt s x y xl yl) (mod-lt y p0)

-- the words lie by the rule as the elements do, one side by side: field j of word q of a major number x
module _ (p halves x q j : ℕ) (h : j < p) where
  high : (q * p + j) / p ≡ q
  high = digits_div q h

  same : q / 1 ≡ q
  same = omega arith

  pub word_lane : lane_of p x (q * p + j) ≡ lane_of 1 x q
  unfolding lane_of
  word_lane = rw (high, same) refl

  pub word_element : element_of p halves x (q * p + j) ≡ element_of 1 halves x q * p + j
  unfolding element_of
  word_element =
      let none : (q / 4 * halves + x / 8) * 1 + q % 1 ≡ q / 4 * halves + x / 8 = omega arith in
      rw (high, digits_mod q h, same, none) refl

-- what is put together of digits stays small: over a quotient a of n by p
module _ (n p : ℕ) where
  pub quotient_le : (h : ℕ) → n / p / h * p ≤ n
  quotient_le h = le_trans (mul-le-mul_right p (div-le_self (n / p) h)) (omega (arith, div-add-mod' n p))

  pub digits_le : (a b t : ℕ) → a * p ≤ n → (a * b + t) * p ≤ n * b + t * p
  digits_le a b t h =
      let e : (a * b + t) * p ≡ a * p * b + t * p = add-mul (a * b) t p ∙ ap (λ (z : ℕ). z + t * p) (mul_assoc a b p ∙ ap (λ (z : ℕ). a * z) (mul_comm b p) ∙ sym (mul_assoc a p b)) in
      omega (arith, e, mul-le-mul_right b h)

digit_le : (a b p : ℕ) → a ≤ b → a * p ≤ b * p
digit_le a b p h = mul-le-mul_right p h

pub minor_small : (p h l i : ℕ) → 0 < p → p ≤ 32 → i ≤ 128 → (i / p / h * 4 + l % 4) * p + i % p < 1024
minor_small p h l i p0 p1 i1 =
    omega (arith, digits_le i p (i / p / h) 4 (l % 4) (quotient_le i p h), digit_le (l % 4) 3 p (omega arith), mod-lt i p0)

pub quotient_small : (i p h : ℕ) → i / p / h ≤ i
quotient_small i p h = le_trans (div-le_self (i / p) h) (div-le_self i p)

pub group_small : (p h y : ℕ) → h ≤ 2 → y / p / 4 * h ≤ y * 2
group_small p h y h1 = mul-le-mul (quotient_small y p 4) h1

pub element_small : (p h x y : ℕ) → 0 < p → p ≤ 32 → h ≤ 2 → x ≤ 16 → y ≤ 256 → (y / p / 4 * h + x / 8) * p + y % p < 1024
element_small p h x y p0 p1 h1 x1 y1 =
    omega (arith, digits_le y p (y / p / 4) h (x / 8) (quotient_le y p 4), mul-le-mul_left y h1, digit_le (x / 8) 2 p (omega arith), mod-lt y p0)
