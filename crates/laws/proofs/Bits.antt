-- A word's ones are the sum of its digits, for a combination that works digit by digit; and the ones in a list of bits are its sum.
-- Assumes nothing.
use Rattle.std.proofs.Common.{if◌then◌else◌}
use mathlib.Core.Path.{◌≡◌, refl, sym, ◌∙◌, ap, ap₂, subst}
use mathlib.Core.Bool.{Bool, true, false}
use mathlib.Core.List.{List, ◌∷◌}
use Prim.Native.Nat.{ℕ, zero, suc, ◌+◌, ◌*◌, ◌/◌, ◌%◌, ◌^◌, ◌<◌, ◌≤◌, min}
use native.Mathlib.Nat.{add-zero, add-suc}
use native.Mathlib.Omega.{arith}
use native.Mathlib.Numerals.{add-one}
use lib.Arith.{lt-one, digits_div, digits_mod}
use lib.Pow.{shr-shr, shr_lt}
use lib.Bits.{bit_and, bit_xor, and_step, xor_step, differ}
use lib.Count.{ones, ones_step}
use Rattle.laws.specs.Choice.{◌=?◌}
use Rattle.laws.specs.Bits.{combine, ones_in, sum_n}
use Rattle.laws.specs.Lists.{tab}

pub sum_cong : (n : ℕ) (f g : ℕ → ℕ) → ((i : ℕ) → i < n → f i ≡ g i) → sum_n n f ≡ sum_n n g
unfolding sum_n
sum_cong zero f g h = refl
sum_cong (suc n) f g h = ap₂ ◌+◌ (sum_cong n f g (λ i k. h i (omega arith))) (h n (omega arith))

-- the first n, and the m after them
pub sum_split : (n m : ℕ) (f : ℕ → ℕ) → sum_n (n + m) f ≡ sum_n n f + sum_n m (λ i. f (n + i))
unfolding sum_n
sum_split n zero f = rw (add-zero n) (omega arith)
sum_split n (suc m) f = rw (add-suc n m) (omega (arith, sum_split n m f))

-- the first, and the rest
pub sum_front : (n : ℕ) (f : ℕ → ℕ) → sum_n (suc n) f ≡ f 0 + sum_n n (λ i. f (suc i))
unfolding sum_n
sum_front zero f = omega arith
sum_front (suc n) f = omega (arith, sum_front n f)

-- a word's ones are its digits' sum, for a combination that works digit by digit

half_lt : (a k : ℕ) → a < 2 ^ suc k → a / 2 < 2 ^ k
half_lt a k h = shr_lt k 1 (subst (λ (x : ℕ). a < 2 ^ x) (sym (add-one k)) h)

digit_more : (a i : ℕ) → a / 2 / 2 ^ i % 2 ≡ a / 2 ^ suc i % 2
digit_more a i = ap (λ (x : ℕ). x % 2) (shr-shr a 1 i ∙ ap (λ (x : ℕ). a / 2 ^ x) (omega arith))

digit_zero : (a : ℕ) → a / 2 ^ 0 % 2 ≡ a % 2
digit_zero a = omega arith

module _ (op : ℕ → ℕ → ℕ) (f : ℕ → ℕ → ℕ) (z : op 0 0 ≡ 0) (step : (a b : ℕ) → op a b ≡ op (a / 2) (b / 2) * 2 + f (a % 2) (b % 2)) (bit : (x y : ℕ) → x < 2 → y < 2 → f x y < 2) where
  pub ones_op : (n a b : ℕ) → a < 2 ^ n → b < 2 ^ n → ones (op a b) ≡ sum_n n (λ i. f (a / 2 ^ i % 2) (b / 2 ^ i % 2))
  unfolding sum_n ones
  ones_op zero a b ha hb = ap ones (ap₂ op (lt-one ha) (lt-one hb) ∙ z)
  ones_op (suc n) a b ha hb =
      let hf : f (a % 2) (b % 2) < 2 = bit (a % 2) (b % 2) (omega arith) (omega arith) in
      ap ones (step a b)
      ∙ ones_step (op (a / 2) (b / 2) * 2 + f (a % 2) (b % 2))
      ∙ ap₂ (λ (x y : ℕ). x + ones y) (digits_mod (op (a / 2) (b / 2)) hf) (digits_div (op (a / 2) (b / 2)) hf)
      ∙ ap (λ (x : ℕ). f (a % 2) (b % 2) + x) (ones_op n (a / 2) (b / 2) (half_lt a n ha) (half_lt b n hb)
      ∙ sum_cong n _ _ (λ i k. ap₂ f (digit_more a i) (digit_more b i)))
      ∙ ap (λ (x : ℕ). x + sum_n n (λ i. f (a / 2 ^ suc i % 2) (b / 2 ^ suc i % 2))) (ap₂ f (sym (digit_zero a)) (sym (digit_zero b)))
      ∙ sym (sum_front n (λ i. f (a / 2 ^ i % 2) (b / 2 ^ i % 2)))

both : (P : ℕ → ℕ → Type 0) → P 0 0 → P 0 1 → P 1 0 → P 1 1 → (x y : ℕ) → x < 2 → y < 2 → P x y
both P a b c d zero zero h k = a
both P a b c d zero (suc zero) h k = b
both P a b c d (suc zero) zero h k = c
both P a b c d (suc zero) (suc zero) h k = d
both P a b c d (suc (suc x)) y h k = absurd (no x h)
  where
    no : (x : ℕ) → suc (suc x) < 2 → ⊥
    no x h = omega arith
both P a b c d zero (suc (suc y)) h k = absurd (no y k)
  where
    no : (x : ℕ) → suc (suc x) < 2 → ⊥
    no x h = omega arith
both P a b c d (suc zero) (suc (suc y)) h k = absurd (no y k)
  where
    no : (x : ℕ) → suc (suc x) < 2 → ⊥
    no x h = omega arith

bit< : (a i : ℕ) → a / 2 ^ i % 2 < 2
bit< a i = omega arith

pub ones_xor : (n a b : ℕ) → a < 2 ^ n → b < 2 ^ n → ones (bit_xor a b) ≡ sum_n n (λ i. combine 0 (a / 2 ^ i % 2) (b / 2 ^ i % 2))
unfolding combine
ones_xor n a b ha hb =
    ones_op bit_xor differ refl xor_step (both (λ x y. differ x y < 2) (omega arith) (omega arith) (omega arith) (omega arith)) n a b ha hb
    ∙ sum_cong n _ _ (λ i k. both (λ x y. differ x y ≡ combine 0 x y) refl refl refl refl _ _ (bit< a i) (bit< b i))

pub ones_and : (n a b : ℕ) → a < 2 ^ n → b < 2 ^ n → ones (bit_and a b) ≡ sum_n n (λ i. combine 1 (a / 2 ^ i % 2) (b / 2 ^ i % 2))
unfolding combine
ones_and n a b ha hb =
    ones_op bit_and min refl and_step (both (λ x y. min x y < 2) (omega arith) (omega arith) (omega arith) (omega arith)) n a b ha hb
    ∙ sum_cong n _ _ (λ i k. both (λ x y. min x y ≡ combine 1 x y) refl refl refl refl _ _ (bit< a i) (bit< b i))

-- combined bits are bits
either_lt : (t : Bool) (x y : ℕ) → x < 2 → y < 2 → (if t then (x + y) % 2 else x * y) < 2
either_lt true x y hx hy = omega arith
either_lt false x y hx hy = both (λ x y. x * y < 2) (omega arith) (omega arith) (omega arith) (omega arith) x y hx hy

pub combine_lt : (mode x y : ℕ) → x < 2 → y < 2 → combine mode x y < 2
unfolding combine
combine_lt mode x y hx hy = either_lt (mode =? 0) x y hx hy

-- the ones in a list of bits are its sum
ones_cons : (b : ℕ) (bs : List ℕ) → b < 2 → ones_in (b ∷ bs) ≡ b + ones_in bs
unfolding ones_in
ones_cons zero bs h = omega arith
ones_cons (suc zero) bs h = omega arith
ones_cons (suc (suc b)) bs h = absurd (omega arith)

pub ones_tab : (n : ℕ) (f : ℕ → ℕ) → ((k : ℕ) → k < n → f k < 2) → ones_in (tab n f) ≡ sum_n n f
unfolding tab ones_in sum_n
ones_tab zero f h = refl
ones_tab (suc n) f h =
    ones_cons (f 0) (tab n (λ k. f (suc k))) (h 0 (omega arith))
    ∙ ap (λ (m : ℕ). f 0 + m) (ones_tab n (λ k. f (suc k)) (λ k l. h (suc k) (omega arith)))
    ∙ sym (sum_front n f)

-- there are no more of them than bits
one_more : (t : Bool) (m n : ℕ) → m ≤ n → (if t then suc m else m) ≤ suc n
one_more true m n h = omega arith
one_more false m n h = omega arith

pub ones_le : (n : ℕ) (f : ℕ → ℕ) → ones_in (tab n f) ≤ n
unfolding tab ones_in
ones_le zero f = omega arith
ones_le (suc n) f = one_more (f 0 =? 1) (ones_in (tab n (λ k. f (suc k)))) n (ones_le n (λ k. f (suc k)))
