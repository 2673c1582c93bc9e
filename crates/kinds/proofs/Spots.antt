-- Where an element stands in its lane. Bits count on from word to word, so that bit o of element i and bit b of word w are one bit exactly
-- when i times the width plus o is 32 times w plus b. Assumes nothing.
use mathlib.Core.Path.{◌≡◌, sym, ap, ap₂, ◌∙◌}
use mathlib.Core.Logic.{◌↔◌}
use Prim.Native.Nat.{ℕ, zero, suc, ◌+◌, ◌*◌, ◌/◌, ◌%◌, ◌≤◌, ◌<◌, zero-le, suc-le-suc}
use native.Mathlib.Nat.{zero-mul, mul-zero, mul-suc, add-mul, mul_assoc, mul_comm, mod-lt, mod-eq_of_lt, div-add-mod', div-lt_iff_lt-mul, mul-le-mul_left}
use native.Mathlib.Omega.{arith}
use lib.Arith.{digits_div, digits_mod}
use Rattle.kinds.specs.Places.{word_within, lowest_bit, stands_at, whose_bit}

pub per_pos : (b p : ℕ) → b * p ≡ 32 → 0 < p
per_pos b zero e = absurd (let z : 0 ≡ 32 = sym (mul-zero b) ∙ e in omega arith)
per_pos b (suc p) e = suc-le-suc zero-le

-- of a width of which a word holds so many, element j of word k starts at bit bits * j
module _ (bits per : ℕ) (e : bits * per ≡ 32) (k j : ℕ) (l : j < per) where
  some : 0 < bits
  some = per_pos per bits (mul_comm per bits ∙ e)

  room : bits * j < 32
  room = omega (arith, some, mul-le-mul_left bits l, mul-suc bits j, e)

  start : (k * per + j) * bits ≡ k * 32 + bits * j
  start = add-mul (k * per) j bits ∙ ap₂ ◌+◌ (mul_assoc k per bits ∙ ap (λ (n : ℕ). k * n) (mul_comm per bits ∙ e)) (mul_comm j bits)

  pub word_of : word_within bits (k * per + j) ≡ k
  unfolding word_within
  word_of = ap (λ (n : ℕ). n / 32) start ∙ digits_div k room

  pub bit_of : lowest_bit bits (k * per + j) ≡ bits * j
  unfolding lowest_bit
  bit_of = ap (λ (n : ℕ). n % 32) start ∙ digits_mod k room

-- so does element j of the first word, where there is room for it
bit_below : (bits j : ℕ) → bits + bits * j ≤ 32 → bits * j < 32
bit_below zero j l = omega (arith, zero-mul j)
bit_below (suc bits) j l = omega arith

pub bit_first : (bits j : ℕ) → bits + bits * j ≤ 32 → lowest_bit bits j ≡ bits * j
unfolding lowest_bit
bit_first bits j l = ap (λ (n : ℕ). n % 32) (mul_comm j bits) ∙ mod-eq_of_lt (bit_below bits j l)

-- an element of a lane starts in one of its words, below bit 32
pub word_lt : (bits elements words i : ℕ) → 0 < bits → bits * elements ≡ 32 * words → i < elements → word_within bits i < words
unfolding word_within
word_lt bits elements words i some full h = omega (arith, mul-le-mul_left bits h, mul-suc bits i, mul_comm i bits)

pub bit_lt : (bits i : ℕ) → lowest_bit bits i < 32
unfolding lowest_bit
bit_lt bits i = omega arith

-- each bit of each word belongs to one bit of one element, where the elements fill the words
module _ (bits elements words : ℕ) (some : 0 < bits) (full : bits * elements ≡ 32 * words) (w b i o : ℕ) where
  pub bit_once : ((w < words) × (b < 32) × (whose_bit bits w b ≡ (i, o)))
      ↔ ((i < elements) × (o < bits) × (stands_at bits i o ≡ (w, b)))
  unfolding word_within lowest_bit
  bit_once = (there, back)
    where
      there : (w < words) × (b < 32) × (whose_bit bits w b ≡ (i, o)) → (i < elements) × (o < bits) × (stands_at bits i o ≡ (w, b))
      there h =
          let n = w * 32 + b in
          let ei : n / bits ≡ i = ap (λ (z : ℕ × ℕ). z.0) h.2 in
          let eo : n % bits ≡ o = ap (λ (z : ℕ × ℕ). z.1) h.2 in
          let sum : i * bits + o ≡ w * 32 + b = sym (ap₂ (λ (x y : ℕ). x * bits + y) ei eo) ∙ div-add-mod' n bits in
          let below : n < elements * bits = omega (arith, h.0, h.1, full, mul_comm bits elements) in (
            rw (← ei) ((div-lt_iff_lt-mul some).1 below),
            rw (← eo) (mod-lt n some),
            ap₂ (λ (x y : ℕ). (x, y)) (omega (arith, sum, h.1)) (omega (arith, sum, h.1)),
          )

      back : (i < elements) × (o < bits) × (stands_at bits i o ≡ (w, b)) → (w < words) × (b < 32) × (whose_bit bits w b ≡ (i, o))
      back h =
          let ew : i * bits / 32 + (i * bits % 32 + o) / 32 ≡ w = ap (λ (z : ℕ × ℕ). z.0) h.2 in
          let eb : (i * bits % 32 + o) % 32 ≡ b = ap (λ (z : ℕ × ℕ). z.1) h.2 in
          let sum : w * 32 + b ≡ i * bits + o = omega (arith, ew, eb) in
          let last : bits * (i + 1) ≤ bits * elements = mul-le-mul_left bits (omega (arith, h.0)) in (
            omega (arith, sum, h.1, last, mul-suc bits i, mul_comm bits i, full),
            omega (arith, eb),
            ap₂ (λ (x y : ℕ). (x, y)) (ap (λ (n : ℕ). n / bits) sum ∙ digits_div i h.1) (ap (λ (n : ℕ). n % bits) sum ∙ digits_mod i h.1),
          )
