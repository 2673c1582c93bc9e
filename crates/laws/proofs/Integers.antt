-- Laws of words and numbers: a word32 is determined by a congruence, wrapping in between changes nothing, and clamping is a minimum and a
-- truncated difference above the lowest number, which leaves alone what is inside. Assumes nothing.
use Rattle.std.proofs.Common.{if◌then◌else◌}
use mathlib.Core.Path.{◌≡◌, refl, sym, ◌∙◌, ap, ap₂, subst}
use mathlib.Core.Bool.{Bool, true, false, not}
use mathlib.Core.Logic.{◌↔◌, ◌⊎◌, inl, inr}
use Prim.Native.Nat.{ℕ, zero, suc, ◌+◌, ◌*◌, ◌-◌, ◌/◌, ◌%◌, ◌^◌, ◌<◌, ◌≤◌, min}
use native.Mathlib.Omega.{arith}
use borrow.Author.Tests.{leb-true, leb-false, le-leb, lt-leb}
use lib.Dec.{T, ltb, leb, ltb→lt, nltb→le}
use lib.IntN.{ℤ, pos, negsuc, nat_abs, sub_ℕ, ◌+ℤ◌, ◌*ℤ◌}
use Rattle.laws.specs.Integers.{value, sum_z, int32, word32, clamp, outside}
use Rattle.laws.specs.Totals.{Wraps}
use Rattle.laws.proofs.Differences.{Norm, plus, minus, norm, is_pos, is_neg, sub_eq, sub_add, sub_mul, up, down, as_diff}

pub sum_z_cong : (n : ℕ) (f g : ℕ → ℤ) → ((k : ℕ) → k < n → f k ≡ g k) → sum_z n f ≡ sum_z n g
unfolding sum_z
sum_z_cong zero f g h = refl
sum_z_cong (suc n) f g h = ap₂ ◌+ℤ◌ (sum_z_cong n f g (λ k l. h k (omega arith))) (h n (omega arith))

-- a number that is a difference modulo 2^32
word_by : (w p n : ℕ) → Norm p n → w < 2 ^ 32 → (w + n) % 2 ^ 32 ≡ p % 2 ^ 32 → w ≡ word32 (sub_ℕ p n)
unfolding word32
word_by w p n (plus c e) h k = rw (is_pos p n c e) (omega arith)
word_by w p n (minus c e) h k = rw (is_neg p n c e) (omega arith)

pub word_is : (w p n : ℕ) → w < 2 ^ 32 → (w + n) % 2 ^ 32 ≡ p % 2 ^ 32 → w ≡ word32 (sub_ℕ p n)
word_is w p n h k = word_by w p n (norm p n) h k

int_by : (t : Bool) (c : ℕ) → c < 2 ^ 32 → (T t → c < 2 ^ 31) → (T (not t) → 2 ^ 31 ≤ c) → (if t then pos c else sub_ℕ c (2 * 2 ^ 31)) ≡ sub_ℕ ((c + 2 ^ 31) % 2 ^ 32) (2 ^ 31)
int_by true c h f g = let k : c < 2 ^ 31 = f tt in sym (is_pos ((c + 2 ^ 31) % 2 ^ 32) (2 ^ 31) c (omega arith))
int_by false c h f g = let k : 2 ^ 31 ≤ c = g tt in sub_eq c (2 * 2 ^ 31) ((c + 2 ^ 31) % 2 ^ 32) (2 ^ 31) (omega arith)

-- a word, as a difference from the lowest number
pub int_is : (c : ℕ) → c < 2 ^ 32 → int32 c ≡ sub_ℕ ((c + 2 ^ 31) % 2 ^ 32) (2 ^ 31)
unfolding int32 value
int_is c h = int_by (ltb c (2 ^ 31)) c h (ltb→lt c (2 ^ 31)) (nltb→le c (2 ^ 31))

-- clamping is a minimum and a truncated difference, above the lowest number
clamp_by : (t n : ℕ) → Norm t (2 ^ 31 + n) → clamp (sub_ℕ t (2 ^ 31 + n)) ≡ sub_ℕ (min (2 ^ 32 - 1) (t - n)) (2 ^ 31)
unfolding clamp
clamp_by t n (plus c e) = rw (is_pos t (2 ^ 31 + n) c e) (sym (is_pos (min (2 ^ 32 - 1) (t - n)) (2 ^ 31) (min c 2147483647) (omega arith)))
clamp_by t n (minus c e) = rw (is_neg t (2 ^ 31 + n) c e) (sym (is_neg (min (2 ^ 32 - 1) (t - n)) (2 ^ 31) (min c 2147483647) (omega arith)))

pub clamp_is : (t n : ℕ) → clamp (sub_ℕ t (2 ^ 31 + n)) ≡ sub_ℕ (min (2 ^ 32 - 1) (t - n)) (2 ^ 31)
clamp_is t n = clamp_by t n (norm t (2 ^ 31 + n))

pub word_lt : (z : ℤ) → word32 z < 2 ^ 32
unfolding word32
word_lt (pos n) = omega arith
word_lt (negsuc n) = omega arith

wc : (p n : ℕ) → Norm p n → (word32 (sub_ℕ p n) + n) % 2 ^ 32 ≡ p % 2 ^ 32
unfolding word32
wc p n (plus c e) = rw (is_pos p n c e) (omega arith)
wc p n (minus c e) = rw (is_neg p n c e) (omega arith)

pub word_of : (p n : ℕ) → (word32 (sub_ℕ p n) + n) % 2 ^ 32 ≡ p % 2 ^ 32
word_of p n = wc p n (norm p n)

-- congruences modulo 2^32, in steps that omega takes one at a time
mod_cancel : (x y n : ℕ) → (x + n) % 2 ^ 32 ≡ (y + n) % 2 ^ 32 → (x + 2 ^ 31) % 2 ^ 32 ≡ (y + 2 ^ 31) % 2 ^ 32
mod_cancel x y n e = omega arith

mod_add : (w n p q : ℕ) → (w + n) % 2 ^ 32 ≡ p % 2 ^ 32 → (w + q + n) % 2 ^ 32 ≡ (p + q) % 2 ^ 32
mod_add w n p q e = omega arith

mod_in : (w q : ℕ) → (w + q + 2 ^ 31) % 2 ^ 32 ≡ ((w + 2 ^ 31) % 2 ^ 32 + q) % 2 ^ 32
mod_in w q = omega arith

-- wrapping in between changes nothing
rewrap : (p n q m : ℕ) → word32 (int32 (word32 (sub_ℕ p n)) +ℤ sub_ℕ q m) ≡ word32 (sub_ℕ p n +ℤ sub_ℕ q m)
rewrap p n q m =
    let w = word32 (sub_ℕ p n) in
    let h : w < 2 ^ 32 = word_lt (sub_ℕ p n) in
    let e : (w + n) % 2 ^ 32 ≡ p % 2 ^ 32 = word_of p n in
    let v = word32 (sub_ℕ (p + q) (n + m)) in
    let hv : v < 2 ^ 32 = word_lt (sub_ℕ (p + q) (n + m)) in
    let ev : (v + (n + m)) % 2 ^ 32 ≡ (p + q) % 2 ^ 32 = word_of (p + q) (n + m) in
    ap (λ (z : ℤ). word32 (z +ℤ sub_ℕ q m)) (int_is w h)
    ∙ ap word32 (sub_add ((w + 2 ^ 31) % 2 ^ 32) (2 ^ 31) q m)
    ∙ sym (word_is v ((w + 2 ^ 31) % 2 ^ 32 + q) (2 ^ 31 + m) hv (shift w v e ev))
    ∙ sym (ap word32 (sub_add p n q m))
  where
    shift : (w v : ℕ) → (w + n) % 2 ^ 32 ≡ p % 2 ^ 32 → (v + (n + m)) % 2 ^ 32 ≡ (p + q) % 2 ^ 32 → (v + (2 ^ 31 + m)) % 2 ^ 32 ≡ ((w + 2 ^ 31) % 2 ^ 32 + q) % 2 ^ 32
    shift w v e f =
        ap (λ (x : ℕ). x % 2 ^ 32) (assoc v m (2 ^ 31))
        ∙ mod_cancel (v + m) (w + q) n (ap (λ (x : ℕ). x % 2 ^ 32) (sym (assoc v m n)) ∙ f ∙ sym (mod_add w n p q e))
        ∙ mod_in w q
      where
        assoc : (a b c : ℕ) → a + (c + b) ≡ a + b + c
        assoc a b c = omega arith

pub wrap_wrap : (x y : ℤ) → word32 (int32 (word32 x) +ℤ y) ≡ word32 (x +ℤ y)
wrap_wrap x y =
    ap₂ (λ (a b : ℤ). word32 (int32 (word32 a) +ℤ b)) (as_diff x) (as_diff y) ∙ rewrap (up x) (down x) (up y) (down y)
    ∙ sym (ap₂ (λ (a b : ℤ). word32 (a +ℤ b)) (as_diff x) (as_diff y))

-- a word, read and written again
pub word_int : (c : ℕ) → c < 2 ^ 32 → word32 (int32 c) ≡ c
word_int c h = ap word32 (int_is c h) ∙ sym (word_is c ((c + 2 ^ 31) % 2 ^ 32) (2 ^ 31) h (omega arith))

-- the signed number of the word differs from z by a multiple of 2^32
wraps_by : (p n : ℕ) → Norm (p + 2 ^ 32) (n + 2 ^ 32) → Wraps (int32 (word32 (sub_ℕ p n))) (sub_ℕ p n)
unfolding Wraps
wraps_by p n _ =
    let w = word32 (sub_ℕ p n) in
    let h : w < 2 ^ 32 = word_lt (sub_ℕ p n) in
    let e : (w + n) % 2 ^ 32 ≡ p % 2 ^ 32 = word_of p n in
    let a = (w + 2 ^ 31) % 2 ^ 32 in
    let s = p + 2 ^ 31 in
    let t = a + n in (
      sub_ℕ (s / 2 ^ 32) (t / 2 ^ 32),
      sym (ap₂ (λ (x y : ℤ). x +ℤ y) (int_is w h)
          (ap (λ (y : ℤ). sub_ℕ (s / 2 ^ 32) (t / 2 ^ 32) *ℤ y) (sym (is_pos (2 ^ 32) 0 (2 ^ 32) refl)) ∙ sub_mul (s / 2 ^ 32) (t / 2 ^ 32) (2 ^ 32) 0)
          ∙ sub_add a (2 ^ 31) (s / 2 ^ 32 * 2 ^ 32 + t / 2 ^ 32 * 0) (s / 2 ^ 32 * 0 + t / 2 ^ 32 * 2 ^ 32)
          ∙ sub_eq (a + (s / 2 ^ 32 * 2 ^ 32 + t / 2 ^ 32 * 0)) (2 ^ 31 + (s / 2 ^ 32 * 0 + t / 2 ^ 32 * 2 ^ 32)) p n (omega arith)),
    )

pub wraps : (z : ℤ) → Wraps (int32 (word32 z)) z
wraps z = subst (λ (y : ℤ). Wraps (int32 (word32 y)) y) (sym (as_diff z)) (wraps_by (up z) (down z) (norm _ _))

-- the word is the only one whose signed number differs from z by a multiple of 2^32
only : (w p n a b : ℕ) → w < 2 ^ 32 → sub_ℕ p n ≡ int32 w +ℤ sub_ℕ a b *ℤ pos (2 ^ 32) → w ≡ word32 (sub_ℕ p n)
only w p n a b h e =
    let k : sub_ℕ p n ≡ sub_ℕ ((w + 2 ^ 31) % 2 ^ 32 + (a * 2 ^ 32 + b * 0)) (2 ^ 31 + (a * 0 + b * 2 ^ 32)) =
    e ∙ ap₂ ◌+ℤ◌ (int_is w h) (ap (λ (y : ℤ). sub_ℕ a b *ℤ y) (sym (is_pos (2 ^ 32) 0 (2 ^ 32) refl)) ∙ sub_mul a b (2 ^ 32) 0)
    ∙ sub_add ((w + 2 ^ 31) % 2 ^ 32) (2 ^ 31) (a * 2 ^ 32 + b * 0) (a * 0 + b * 2 ^ 32) in
    word_is w ((w + 2 ^ 31) % 2 ^ 32 + (a * 2 ^ 32 + b * 0)) (2 ^ 31 + (a * 0 + b * 2 ^ 32)) h (omega arith) ∙ ap word32 (sym k)

pub wraps_only : (w : ℕ) (z : ℤ) → w < 2 ^ 32 → Wraps (int32 w) z → w ≡ word32 z
unfolding Wraps
wraps_only w z h (k, e) =
    only w (up z) (down z) (up k) (down k) h (sym (as_diff z) ∙ e ∙ ap (λ (y : ℤ). int32 w +ℤ y *ℤ pos (2 ^ 32)) (as_diff k)) ∙ ap word32 (sym (as_diff z))

-- a number in range is left alone; past an end it becomes that end
pub clamp_in : (n : ℕ) → n ≤ 2147483647 → (clamp (pos n) ≡ pos n) × (clamp (negsuc n) ≡ negsuc n)
unfolding clamp
clamp_in n h = let e : min n 2147483647 ≡ n = omega arith in (ap pos e, ap negsuc e)

pub clamp_past : (n : ℕ) → 2147483647 ≤ n → (clamp (pos n) ≡ pos 2147483647) × (clamp (negsuc n) ≡ negsuc 2147483647)
unfolding clamp
clamp_past n h = let e : min n 2147483647 ≡ 2147483647 = omega arith in (ap pos e, ap negsuc e)

-- outside is below the lowest number or past the highest
inside_by : (t n : ℕ) → Norm t (2 ^ 31 + n) → n ≤ t → t < 2 ^ 32 + n → outside (sub_ℕ t (2 ^ 31 + n)) ≡ 0
unfolding outside
inside_by t n (plus c e) low high = rw (is_pos t (2 ^ 31 + n) c e, le-leb c 2147483647 (omega arith)) refl
inside_by t n (minus c e) low high = rw (is_neg t (2 ^ 31 + n) c e, le-leb c 2147483647 (omega arith)) refl

pub inside_is : (t n : ℕ) → n ≤ t → t < 2 ^ 32 + n → outside (sub_ℕ t (2 ^ 31 + n)) ≡ 0
inside_is t n low high = inside_by t n (norm t (2 ^ 31 + n)) low high

outside_by : (t n : ℕ) → Norm t (2 ^ 31 + n) → (t < n) ⊎ (2 ^ 32 + n ≤ t) → outside (sub_ℕ t (2 ^ 31 + n)) ≡ 1
unfolding outside
outside_by t n (plus c e) (inl h) = absurd (omega arith)
outside_by t n (plus c e) (inr h) = rw (is_pos t (2 ^ 31 + n) c e, lt-leb c 2147483647 (omega arith)) refl
outside_by t n (minus c e) (inl h) = rw (is_neg t (2 ^ 31 + n) c e, lt-leb c 2147483647 (omega arith)) refl
outside_by t n (minus c e) (inr h) = absurd (omega arith)

pub outside_is : (t n : ℕ) → (t < n) ⊎ (2 ^ 32 + n ≤ t) → outside (sub_ℕ t (2 ^ 31 + n)) ≡ 1
outside_is t n h = outside_by t n (norm t (2 ^ 31 + n)) h

at_most_one : (t : Bool) → (if t then 0 else 1) ≤ 1
at_most_one true = omega arith
at_most_one false = omega arith

pub outside_le : (z : ℤ) → outside z ≤ 1
unfolding outside
outside_le (pos n) = at_most_one (leb n 2147483647)
outside_le (negsuc n) = at_most_one (leb n 2147483647)

-- a number is inside exactly where the clamp leaves it alone
left_by : (n : ℕ) (t : Bool) → leb n 2147483647 ≡ t → (◌≡◌ {A = ℕ} (if t then 0 else 1) 0) ↔ (min n 2147483647 ≡ n)
left_by n true e = let h = leb-true n 2147483647 e in (λ _. omega arith, λ _. refl)
left_by n false e = let h = leb-false n 2147483647 e in (λ z. absurd (omega arith), λ m. absurd (omega arith))

pub left_alone : (z : ℤ) → (outside z ≡ 0) ↔ (clamp z ≡ z)
unfolding outside clamp
left_alone (pos n) = let h = left_by n (leb n 2147483647) refl in (λ e. ap pos (h.0 e), λ e. h.1 (ap nat_abs e))
left_alone (negsuc n) = let h = left_by n (leb n 2147483647) refl in (λ e. ap negsuc (h.0 e), λ e. h.1 (omega (arith, ap nat_abs e)))
