-- To add a sign bit's weight is to turn the bit over, and a word's fields are turned over by a mask all at once. Assumes nothing.
use mathlib.Core.Path.{◌≡◌, sym, ap, ap₂, ◌∙◌}
use mathlib.Core.Logic.{◌⊎◌, inl, inr}
use Prim.Native.Nat.{ℕ, zero, suc, ◌+◌, ◌*◌, ◌-◌, ◌/◌, ◌%◌, ◌^◌, ◌<◌}
use native.Mathlib.Nat.{mod-eq_of_lt, mod-lt, div-add-mod', add-mod_right, div-lt_iff_lt-mul, pow-suc, mul_comm}
use native.Mathlib.Omega.{arith}
use lib.Bits.{bit_xor, xor_zero_r, xor_block, xor_shr, xor_mod}
use lib.Pow.{pow_pos}
use Rattle.laws.specs.Fields.{field}
use Rattle.step_products.specs.Sums.{raised}

pub field_xor : (b j w m : ℕ) → field b j (bit_xor w m) ≡ bit_xor (field b j w) (field b j m)
unfolding field
field_xor b j w m = ap (λ (z : ℕ). z % 2 ^ b) (xor_shr w m (b * j)) ∙ xor_mod (w / 2 ^ (b * j)) (m / 2 ^ (b * j)) b

turned : (k x : ℕ) → x < 2 * 2 ^ k → bit_xor x (2 ^ k) ≡ raised (2 * 2 ^ k) (2 ^ k) x
turned k x l = go (x / h) (x % h) (div-add-mod' x h) (mod-lt x (pow_pos k)) ((div-lt_iff_lt-mul (pow_pos k)).1 l)
  where
    h : ℕ
    h = 2 ^ k

    split : (a r : ℕ) → a * h + r ≡ x → r < h → bit_xor x h ≡ bit_xor a 1 * h + r
    split a r e lr =
        ap₂ bit_xor (sym e) (omega arith) ∙ xor_block k a 1 r 0 lr (pow_pos k) ∙ ap (λ (z : ℕ). bit_xor a 1 * h + z) (xor_zero_r r)

    go : (a r : ℕ) → a * h + r ≡ x → r < h → a < 2 → bit_xor x h ≡ raised (2 * h) h x
    go zero r e lr la =
        let q : bit_xor zero 1 * h + r ≡ x + h = omega arith in
        split zero r e lr ∙ q ∙ sym (mod-eq_of_lt (omega arith))
    go (suc zero) r e lr la =
        let q : x + h ≡ r + 2 * h = omega arith in
        split 1 r e lr ∙ omega arith ∙ sym (ap (λ (z : ℕ). z % (2 * h)) q ∙ add-mod_right r (2 * h) ∙ mod-eq_of_lt (omega arith))
    go (suc (suc a)) r e lr la = absurd (omega arith)

pub doubled : (b : ℕ) → 0 < b → 2 ^ b ≡ 2 * 2 ^ (b - 1)
doubled b h =
    let e : b ≡ suc (b - 1) = omega arith in
    ap (λ (n : ℕ). 2 ^ n) e ∙ pow-suc 2 (b - 1) ∙ mul_comm (2 ^ (b - 1)) 2

pub xor_digit : (b x o : ℕ) → 0 < b → x < 2 ^ b → (o ≡ 0) ⊎ (o ≡ 2 ^ (b - 1)) → bit_xor x o ≡ raised (2 ^ b) o x
xor_digit b x o some l (inl e) = ap (bit_xor x) e ∙ xor_zero_r x ∙ sym (ap (λ (o : ℕ). raised (2 ^ b) o x) e ∙ mod-eq_of_lt (omega arith) ∙ omega arith)
xor_digit b x o some l (inr e) =
    let s = doubled b some in
    ap (bit_xor x) e ∙ turned (b - 1) x (omega arith) ∙ ap₂ (λ (n o : ℕ). raised n o x) (sym s) (sym e)
