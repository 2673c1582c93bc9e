-- Integers as differences of two naturals: sums, products and equality are then arithmetic on naturals, which omega does. Assumes nothing.
use mathlib.Core.Path.{◌≡◌, refl, sym, ◌∙◌, ap, ap₂}
use mathlib.Core.Bool.{Bool, true, false, not, cond}
use Prim.Native.Nat.{ℕ, zero, suc, ◌+◌, ◌*◌, ◌-◌, ◌<◌, ◌≤◌}
use native.Mathlib.Nat.{add-mul, mul-add}
use native.Mathlib.Omega.{arith}
use lib.Dec.{T, ltb, ltb→lt, nltb→le}
use lib.IntN.{ℤ, pos, negsuc, neg_ℤ, sub_ℕ, ◌+ℤ◌, ◌*ℤ◌}

cond_ind : (c : Bool) (x y : ℤ) (P : ℤ → Type 0) → (T c → P x) → (T (not c) → P y) → P (cond c x y)
cond_ind true x y P f g = f tt
cond_ind false x y P f g = g tt

-- a − b is c where a is b + c, and −(c + 1) where b is a + c + 1
pub is_pos : (a b c : ℕ) → a ≡ b + c → sub_ℕ a b ≡ pos c
is_pos a b c e = cond_ind (ltb a b) (negsuc (b - suc a)) (pos (a - b)) (λ z. z ≡ pos c)
    (λ t. absurd (no a b c e (ltb→lt a b t))) (λ t. ap pos (yes' a b c e))
  where
    no : (a b c : ℕ) → a ≡ b + c → a < b → ⊥
    no a b c e h = omega arith

    yes' : (a b c : ℕ) → a ≡ b + c → a - b ≡ c
    yes' a b c e = omega arith

pub is_neg : (a b c : ℕ) → b ≡ a + suc c → sub_ℕ a b ≡ negsuc c
is_neg a b c e = cond_ind (ltb a b) (negsuc (b - suc a)) (pos (a - b)) (λ z. z ≡ negsuc c)
    (λ t. ap negsuc (yes' a b c e)) (λ t. absurd (no a b c e (nltb→le a b t)))
  where
    no : (a b c : ℕ) → b ≡ a + suc c → b ≤ a → ⊥
    no a b c e h = omega arith

    yes' : (a b c : ℕ) → b ≡ a + suc c → b - suc a ≡ c
    yes' a b c e = omega arith

-- which of the two it is
pub data Norm (a b : ℕ) : Type 0 where
  plus : (c : ℕ) → a ≡ b + c → Norm a b
  minus : (c : ℕ) → b ≡ a + suc c → Norm a b

norm_by : (a b : ℕ) (t : Bool) → (T t → a < b) → (T (not t) → b ≤ a) → Norm a b
norm_by a b true f g = let h : a < b = f tt in minus (b - suc a) (omega arith)
norm_by a b false f g = let h : b ≤ a = g tt in plus (a - b) (omega arith)

pub norm : (a b : ℕ) → Norm a b
norm a b = norm_by a b (ltb a b) (ltb→lt a b) (nltb→le a b)

-- two differences are equal where the crossed sums are
eq_by : (a b c d : ℕ) → Norm a b → a + d ≡ c + b → sub_ℕ a b ≡ sub_ℕ c d
eq_by a b c d (plus k e) h = is_pos a b k e ∙ sym (is_pos c d k (omega arith))
eq_by a b c d (minus k e) h = is_neg a b k e ∙ sym (is_neg c d k (omega arith))

pub sub_eq : (a b c d : ℕ) → a + d ≡ c + b → sub_ℕ a b ≡ sub_ℕ c d
sub_eq a b c d h = eq_by a b c d (norm a b) h

-- the sum of two differences
add_by : (a b c d : ℕ) → Norm a b → Norm c d → sub_ℕ a b +ℤ sub_ℕ c d ≡ sub_ℕ (a + c) (b + d)
add_by a b c d (plus j e) (plus k f) = ap₂ ◌+ℤ◌ (is_pos a b j e) (is_pos c d k f) ∙ sym (is_pos (a + c) (b + d) (j + k) (omega arith))
add_by a b c d (plus j e) (minus k f) = ap₂ ◌+ℤ◌ (is_pos a b j e) (is_neg c d k f) ∙ sub_eq j (suc k) (a + c) (b + d) (omega arith)
add_by a b c d (minus j e) (plus k f) = ap₂ ◌+ℤ◌ (is_neg a b j e) (is_pos c d k f) ∙ sub_eq k (suc j) (a + c) (b + d) (omega arith)
add_by a b c d (minus j e) (minus k f) = ap₂ ◌+ℤ◌ (is_neg a b j e) (is_neg c d k f) ∙ sym (is_neg (a + c) (b + d) (suc (j + k)) (omega arith))

pub sub_add : (a b c d : ℕ) → sub_ℕ a b +ℤ sub_ℕ c d ≡ sub_ℕ (a + c) (b + d)
sub_add a b c d = add_by a b c d (norm a b) (norm c d)

neg_pos : (n : ℕ) → neg_ℤ (pos n) ≡ sub_ℕ 0 n
neg_pos zero = sym (is_pos 0 0 0 refl)
neg_pos (suc n) = sym (is_neg 0 (suc n) n (omega arith))

-- the product of two differences
mul_by : (a b c d : ℕ) → Norm a b → Norm c d → sub_ℕ a b *ℤ sub_ℕ c d ≡ sub_ℕ (a * c + b * d) (a * d + b * c)
mul_by a b c d (plus j e) (plus k f) =
    ap₂ ◌*ℤ◌ (is_pos a b j e) (is_pos c d k f) ∙ sym (is_pos _ _ (j * k) (law a b c d j k e f))
  where
    law : (a b c d j k : ℕ) → a ≡ b + j → c ≡ d + k → a * c + b * d ≡ a * d + b * c + j * k
    law a b c d j k e f = rw (e, f) (omega (arith, add-mul b j (d + k), mul-add b d k, mul-add j d k, add-mul b j d))
mul_by a b c d (plus j e) (minus k f) =
    ap₂ ◌*ℤ◌ (is_pos a b j e) (is_neg c d k f) ∙ neg_pos (j * suc k) ∙ sub_eq 0 (j * suc k) (a * c + b * d) (a * d + b * c) (law a b c d j (suc k) e f)
  where
    law : (a b c d j k : ℕ) → a ≡ b + j → d ≡ c + k → 0 + (a * d + b * c) ≡ (a * c + b * d) + j * k
    law a b c d j k e f = rw (e, f) (omega (arith, add-mul b j (c + k), mul-add b c k, mul-add j c k, add-mul b j c))
mul_by a b c d (minus j e) (plus k f) =
    ap₂ ◌*ℤ◌ (is_neg a b j e) (is_pos c d k f) ∙ neg_pos (suc j * k) ∙ sub_eq 0 (suc j * k) (a * c + b * d) (a * d + b * c) (law a b c d (suc j) k e f)
  where
    law : (a b c d j k : ℕ) → b ≡ a + j → c ≡ d + k → 0 + (a * d + b * c) ≡ (a * c + b * d) + j * k
    law a b c d j k e f = rw (e, f) (omega (arith, add-mul a j (d + k), mul-add a d k, mul-add j d k, add-mul a j d))
mul_by a b c d (minus j e) (minus k f) =
    ap₂ ◌*ℤ◌ (is_neg a b j e) (is_neg c d k f) ∙ sym (is_pos _ _ (suc j * suc k) (law a b c d (suc j) (suc k) e f))
  where
    law : (a b c d j k : ℕ) → b ≡ a + j → d ≡ c + k → a * c + b * d ≡ a * d + b * c + j * k
    law a b c d j k e f = rw (e, f) (omega (arith, add-mul a j (c + k), mul-add a c k, mul-add j c k, add-mul a j c))

pub sub_mul : (a b c d : ℕ) → sub_ℕ a b *ℤ sub_ℕ c d ≡ sub_ℕ (a * c + b * d) (a * d + b * c)
sub_mul a b c d = mul_by a b c d (norm a b) (norm c d)

-- every integer is a difference
unfoldable pub up : ℤ → ℕ
up (pos n) = n
up (negsuc n) = 0

unfoldable pub down : ℤ → ℕ
down (pos n) = 0
down (negsuc n) = suc n

pub as_diff : (z : ℤ) → z ≡ sub_ℕ (up z) (down z)
unfolding up down
as_diff (pos n) = sym (is_pos n 0 n (omega arith))
as_diff (negsuc n) = sym (is_neg 0 (suc n) n (omega arith))
