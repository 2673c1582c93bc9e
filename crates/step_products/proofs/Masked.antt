-- The masked matrix at a major and a minor number; where the mask is the offset in every field, a masked element is its digit. Assumes nothing.
use mathlib.Core.Path.{◌≡◌, refl, sym, ap, ap₂, subst, ◌∙◌}
use mathlib.Core.Bool.{false}
use mathlib.Core.List.{List}
use mathlib.Core.Logic.{◌⊎◌, inl, inr}
use Prim.Native.Nat.{ℕ, ◌+◌, ◌*◌, ◌-◌, ◌/◌, ◌%◌, ◌^◌, ◌<◌}
use native.Mathlib.Nat.{mod-lt, mul_assoc, mul_comm}
use native.Mathlib.Omega.{arith}
use lib.Arith.{digits_lt, digits_div, digits_mod}
use lib.Bits.{bit_xor}
use lib.ListN.{get_or}
use lib.Pow.{pow_pos}
use Rattle.laws.specs.Fields.{field, joined}
use Rattle.laws.specs.Lists.{blocks}
use Rattle.laws.specs.Toward.{Brings}
use Rattle.laws.proofs.Fields.{field_joined}
use Rattle.laws.proofs.Lists.{get_or_tab}
use Rattle.kinds.specs.Rule.{shape, majors, minors, lane_of, element_of}
use Rattle.kinds.specs.Laid.{Laid}
use Rattle.kinds.specs.Rule.{Layout}
use Rattle.buffers.specs.Buffers.{element_at}
use Rattle.buffers.proofs.Elements.{element_lt}
use Rattle.buffers.proofs.Places.{stretch_fills}
use Rattle.step_products.specs.Sums.{xor_in, masked, digit_at, straight, Digits, Digitised}
use Rattle.step_products.proofs.Signs.{xor_digit, doubled}

-- an offset is a field's number
offset_lt : (b o : ℕ) → 0 < b → (o ≡ 0) ⊎ (o ≡ 2 ^ (b - 1)) → o < 2 ^ b
offset_lt b o some (inl e) = omega (arith, pow_pos b)
offset_lt b o some (inr e) = omega (arith, doubled b some, pow_pos (b - 1))

-- a lane has a word for each span and half
pub words_are : (f : Layout) → Laid f → f.bits < 32 → f.words ≡ f.spans * f.halves
words_are f ok narrow =
    let each = f.spans * f.halves in
    let e : f.bits * (each * f.side) ≡ 32 * each
    = sym (mul_assoc f.bits each f.side) ∙ ap (λ (n : ℕ). n * f.side) (mul_comm f.bits each) ∙ mul_assoc each f.bits f.side ∙ ap (λ (n : ℕ). each * n) (stretch_fills f ok narrow) ∙ mul_comm each 32 in
    omega (arith, e, ok.full)

module _ (f : Layout) (mask : ℕ) (ws : List ℕ) where
  abbrev entry : ℕ → ℕ → ℕ
  entry x y = xor_in f mask ws (lane_of f.side x y) (element_of f.side f.halves x y)

  -- the masked matrix at a major and a minor number
  pub masked_entry : (x y : ℕ) → x < majors f → y < minors f → get_or (masked f mask ws) (x * minors f + y) 0 ≡ entry x y
  unfolding masked
  masked_entry x y hx hy =
      get_or_tab (majors f * minors f) (blocks (minors f) entry) (x * minors f + y) 0 (digits_lt hx hy)
      ∙ ap₂ entry (digits_div x hy) (digits_mod x hy)

  -- with the offset in every field of the mask
  masked_digit : (offset : ℕ) → Laid f → mask ≡ joined f.bits f.side (λ j. offset) → (offset ≡ 0) ⊎ (offset ≡ 2 ^ (f.bits - 1))
      → (x y : ℕ) → entry x y ≡ digit_at f.bits f.words f.side f.halves offset ws x y
  unfolding digit_at
  masked_digit offset ok e sign x y =
      let b = f.bits in
      let p = f.side in
      let i = element_of p f.halves x y in
      let v = element_at b f.words ws (lane_of p x y) i in
      ap (λ (m : ℕ). bit_xor v (field b (i % p) m)) e
      ∙ ap (bit_xor v) (field_joined b p (λ j. offset) (λ k h. offset_lt b offset ok.width.pos sign) (i % p) (mod-lt i ok.side_pos))
      ∙ xor_digit b v offset ok.width.pos (element_lt b f.words ws (lane_of p x y) i) sign

-- the digits of a side whose width is known
module _ (side : Layout) (b : ℕ) (ws xs : List ℕ) (ok : Digitised (straight side) ws xs) (width : side.bits ≡ b) where
  abbrev pub known : Layout
  known = shape b (side.spans * side.halves) (32 / b) side.halves side.spans false

  is : straight side ≡ known
  is =
      let narrow : side.bits < 32 = omega (arith, ok.narrow) in
      let e : side.side ≡ 32 / b = ok.laid.narrow_side narrow ∙ ap (λ (b : ℕ). 32 / b) width in
      let words = words_are (straight side) ok.laid narrow in
      rw (words, width, e) refl

  pub known_digitised : Digitised known ws xs
  known_digitised = subst (λ (f : Layout). Digitised f ws xs) is ok

  pub known_digits : (mask offset : ℕ) (ys : List ℕ) → mask ≡ joined b (32 / b) (λ j. offset) → (offset ≡ 0) ⊎ (offset ≡ 2 ^ (side.bits - 1))
      → Brings (masked known mask ws) (λ z. z < majors known * minors known) xs ys → Digits side offset ws ys
  known_digits mask offset ys e sign brings =
      subst (λ (f : Layout). Digits f offset ws ys) (sym is)
      (λ x y hx hy.
      brings.puts (x * minors known + y) (digits_lt hx hy)
      ∙ masked_entry known mask ws x y hx hy
      ∙ masked_digit known mask ws offset known_digitised.laid e (subst (λ (b : ℕ). (offset ≡ 0) ⊎ (offset ≡ 2 ^ (b - 1))) width sign) x y)
