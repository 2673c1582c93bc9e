-- Laws of fields: a joined number has the fields that it was joined of, a number is joined of its fields, and a field of a wide field is a
-- field of the whole; of single bits, 0 has none set and every other number one, and those of two numbers are joined by or. Assumes nothing.
use mathlib.Core.Path.{◌≡◌, refl, sym, ap, ap₂, ◌∙◌, subst}
use mathlib.Core.Bool.{Bool, true, false}
use mathlib.Core.Logic.{⊎_elim}
use Prim.Native.Nat.{ℕ, zero, suc, ◌+◌, ◌-◌, ◌*◌, ◌/◌, ◌%◌, ◌^◌, ◌≤◌, ◌<◌}
use native.Mathlib.Nat.{not-suc-le-zero, le_of_suc-le-suc, eq-or-lt_of_le, mul-suc, mul-le-mul_left, mul-le-mul_right, div-eq_of_lt, zero-div, mod-eq_of_lt, mod-lt, mul_assoc, mul_comm, mul-add, add_comm, le_refl, mul-zero, mul-one, one-mul, mod-one, pow-suc}
use native.Mathlib.Omega.{arith}
use native.Mathlib.Numerals.{add-one}
use borrow.Author.Tests.{ltb-true, ltb-false}
use lib.Dec.{ltb}
use lib.Arith.{digits_lt}
use lib.Bits.{bit_or, or_shr, or_mod}
use lib.Pow.{pow_pos, pow-add, pow-lt, shl-shr, shr-shr, high, low, mod-pow-add, mod-mod-pow}
use lib.Pow
use Rattle.laws.specs.Fields.{field, joined}

pub field_lt : (b j w : ℕ) → field b j w < 2 ^ b
unfolding field
field_lt b j w = mod-lt (w / 2 ^ (b * j)) (pow_pos b)

exp_suc : (b n : ℕ) → 2 ^ (b + b * n) ≡ 2 ^ (b * suc n)
exp_suc b n = ap (λ (e : ℕ). 2 ^ e) (add_comm b (b * n) ∙ sym (mul-suc b n))

pub joined_lt : (b n : ℕ) (f : ℕ → ℕ) → ((k : ℕ) → k < n → f k < 2 ^ b) → joined b n f < 2 ^ (b * n)
unfolding joined
joined_lt b zero f h = pow_pos (b * 0)
joined_lt b (suc n) f h =
    subst (λ (m : ℕ). f n * 2 ^ (b * n) + joined b n f < m) (sym (pow-add 2 b (b * n)) ∙ exp_suc b n)
    (digits_lt (h n (le_refl (suc n))) (joined_lt b n f (λ k l. h k (omega arith))))

-- the fields below bit N are those of the number modulo 2 ^ N
pub field_mod : (b j x N : ℕ) → b * suc j ≤ N → field b j (x % 2 ^ N) ≡ field b j x
unfolding field
field_mod b j x N l =
    sym (lib.Pow.field (x % 2 ^ N) b (b * j))
    ∙ ap (λ (y : ℕ). y / 2 ^ (b * j)) (go (b + b * j) (N - (b + b * j)) (omega (arith, mul-suc b j)))
    ∙ lib.Pow.field x b (b * j)
  where
    go : (k d : ℕ) → N ≡ d + k → x % 2 ^ N % 2 ^ k ≡ x % 2 ^ k
    go k d e = rw e (mod-mod-pow x d k)

joined_top : (b n : ℕ) (f : ℕ → ℕ) → ((k : ℕ) → k < suc n → f k < 2 ^ b) → field b n (joined b (suc n) f) ≡ f n
unfolding joined field
joined_top b n f h = rw (high (f n) (b * n) (joined_lt b n f (λ k l. h k (omega arith)))) (mod-eq_of_lt (h n (le_refl (suc n))))

joined_below : (b n : ℕ) (f : ℕ → ℕ) → ((k : ℕ) → k < suc n → f k < 2 ^ b) → (j : ℕ) → j < n → field b j (joined b (suc n) f) ≡ field b j (joined b n f)
unfolding joined
joined_below b n f h j l =
    sym (field_mod b j (f n * 2 ^ (b * n) + joined b n f) (b * n) (mul-le-mul_left b l))
    ∙ ap (field b j) (low (f n) (b * n) (joined_lt b n f (λ k l. h k (omega arith))))

-- a joined number has the fields that it was joined of
pub field_joined : (b n : ℕ) (f : ℕ → ℕ) → ((k : ℕ) → k < n → f k < 2 ^ b) → (j : ℕ) → j < n → field b j (joined b n f) ≡ f j
field_joined b zero f h j l = absurd (not-suc-le-zero l)
field_joined b (suc n) f h j l =
    ⊎_elim (λ e. rw e (joined_top b n f h))
    (λ l'. joined_below b n f h j l' ∙ field_joined b n f (λ k m. h k (omega arith)) j l')
    (eq-or-lt_of_le (le_of_suc-le-suc l))

-- a number is joined of its fields
pub joined_field : (b n w : ℕ) → joined b n (λ j. field b j w) ≡ w % 2 ^ (b * n)
unfolding joined field
joined_field b zero w = sym (rw mul-zero (mod-one w))
joined_field b (suc n) w = ap (λ (r : ℕ). w / 2 ^ (b * n) % 2 ^ b * 2 ^ (b * n) + r) (joined_field b n w) ∙ sym (mod-pow-add w b (b * n)) ∙ ap (λ (m : ℕ). w % m) (exp_suc b n)

pub joined_ext : (b n : ℕ) (f g : ℕ → ℕ) → ((k : ℕ) → k < n → f k ≡ g k) → joined b n f ≡ joined b n g
unfolding joined
joined_ext b zero f g h = refl
joined_ext b (suc n) f g h = ap₂ (λ x y. x * 2 ^ (b * n) + y) (h n (le_refl (suc n))) (joined_ext b n f g (λ k l. h k (omega arith)))

-- a field of a wider field
pub field_field : (b c k j v : ℕ) → j < c → field b j (field (b * c) k v) ≡ field b (k * c + j) v
unfolding field
field_field b c k j v l =
    field_mod b j (v / 2 ^ (b * c * k)) (b * c) (mul-le-mul_left b l)
    ∙ ap (λ (y : ℕ). y % 2 ^ b) (shr-shr v (b * c * k) (b * j) ∙ ap (λ (e : ℕ). v / 2 ^ e) (sym (mul-add b (k * c) j ∙ ap (λ (z : ℕ). z + b * j) (ap (λ (z : ℕ). b * z) (mul_comm k c) ∙ sym (mul_assoc b c k)))))

-- a wide field is joined of the narrow fields in it
pub field_wide : (b c k v : ℕ) → field (b * c) k v ≡ joined b c (λ j. field b (k * c + j) v)
field_wide b c k v =
    sym (mod-eq_of_lt (field_lt (b * c) k v))
    ∙ sym (joined_field b c (field (b * c) k v))
    ∙ joined_ext b c (λ j. field b j (field (b * c) k v)) (λ j. field b (k * c + j) v) (λ j l. field_field b c k j v l)

-- the number of two fields
pub joined_two : (b : ℕ) (f : ℕ → ℕ) → joined b 2 f ≡ f 1 * 2 ^ b + f 0
unfolding joined
joined_two b f = rw (mul-one b, mul-zero b) (omega arith)

pub joined_is : (b : ℕ) (f : ℕ → ℕ) (low high : ℕ) → low ≡ f 0 → high ≡ f 1 → high * 2 ^ b + low ≡ joined b 2 f
joined_is b f low high e g = ap₂ (λ (h l : ℕ). h * 2 ^ b + l) g e ∙ sym (joined_two b f)

-- one field more
pub joined_more : (b n : ℕ) (f : ℕ → ℕ) → joined b (n + 1) f ≡ f n * 2 ^ (b * n) + joined b n f
unfolding joined
joined_more b n f = rw add-one

-- a field of one bit
pub bit_is : (i w : ℕ) → field 1 i w ≡ w / 2 ^ i % 2
unfolding field
bit_is i w = ap (λ (e : ℕ). w / 2 ^ e % 2) (one-mul i)

-- a bit, shifted up: it stands where it was shifted to, and nowhere else
pub bit_there : (i b : ℕ) → b ≤ 1 → field 1 i (b * 2 ^ i) ≡ b
bit_there i b h = bit_is i (b * 2 ^ i) ∙ ap (λ (n : ℕ). n % 2) (shl-shr b i) ∙ mod-eq_of_lt (omega arith)

pub bit_elsewhere : (i j b : ℕ) → b ≤ 1 → (j ≡ i → ⊥) → field 1 j (b * 2 ^ i) ≡ 0
bit_elsewhere i j b h ne = bit_is j (b * 2 ^ i) ∙ either (ltb i j) refl
  where
    low : i < j → b * 2 ^ i / 2 ^ j % 2 ≡ 0
    low l =
        let few : b * 2 ^ i ≤ 1 * 2 ^ i = mul-le-mul_right (2 ^ i) h in
        let less : b * 2 ^ i < 2 ^ j = omega (arith, few, pow-lt l) in
        ap (λ (n : ℕ). n % 2) (div-eq_of_lt less)

    high : j ≤ i → b * 2 ^ i / 2 ^ j % 2 ≡ 0
    high l =
        let d = i - suc j in
        let e : i ≡ suc d + j = omega arith in
        ap (λ (n : ℕ). b * 2 ^ n / 2 ^ j % 2) e
        ∙ ap (λ (n : ℕ). b * n / 2 ^ j % 2) (pow-add 2 (suc d) j)
        ∙ ap (λ (n : ℕ). n / 2 ^ j % 2) (sym (mul_assoc b (2 ^ suc d) (2 ^ j)))
        ∙ ap (λ (n : ℕ). n % 2) (shl-shr (b * 2 ^ suc d) j)
        ∙ ap (λ (n : ℕ). b * n % 2) (pow-suc 2 d)
        ∙ ap (λ (n : ℕ). n % 2) (sym (mul_assoc b (2 ^ d) 2))
        ∙ omega arith

    either : (t : Bool) → ltb i j ≡ t → b * 2 ^ i / 2 ^ j % 2 ≡ 0
    either true e = low (ltb-true i j e)
    either false e = high (ltb-false i j e)

-- 0 has no bit, and every other number has one
pub no_bit : (i : ℕ) → field 1 i 0 ≡ 0
no_bit i = bit_is i 0 ∙ ap (λ (n : ℕ). n % 2) (zero-div (2 ^ i))

pub some_bit : (n x : ℕ) → x < 2 ^ n → (x ≡ 0 → ⊥) → (i : ℕ) × (i < n) × (field 1 i x ≡ 1)
some_bit zero x l ne = absurd (ne (omega arith))
some_bit (suc n) x l ne = either (x % 2) refl (some_bit n (x / 2))
  where
    half : x / 2 < 2 ^ n
    half = omega (arith, pow-suc 2 n)

    next : (i : ℕ) → field 1 (suc i) x ≡ field 1 i (x / 2)
    next i =
        let e : suc i ≡ 1 + i = omega arith in
        bit_is (suc i) x ∙ ap (λ (n : ℕ). x / 2 ^ n % 2) e ∙ ap (λ (n : ℕ). n % 2) (sym (shr-shr x 1 i)) ∙ sym (bit_is i (x / 2))

    either : (b : ℕ) → x % 2 ≡ b → (x / 2 < 2 ^ n → (x / 2 ≡ 0 → ⊥) → (i : ℕ) × (i < n) × (field 1 i (x / 2) ≡ 1)) → (i : ℕ) × (i < suc n) × (field 1 i x ≡ 1)
    either zero e so =
        let r = so half (λ z. ne (omega arith)) in
        (suc r.0, omega (arith, r.1), next r.0 ∙ r.2)
    either (suc b) e so = (0, omega arith, bit_is 0 x ∙ omega arith)

-- fields of two numbers' disjunction
pub field_or : (b j w m : ℕ) → field b j (bit_or w m) ≡ bit_or (field b j w) (field b j m)
unfolding field
field_or b j w m = ap (λ (z : ℕ). z % 2 ^ b) (or_shr w m (b * j)) ∙ or_mod (w / 2 ^ (b * j)) (m / 2 ^ (b * j)) b
