-- The words of a side by its major numbers: word t has the quotient of t by a row's words for its major number, and the remainder for its place
-- there. They lie by the rule as the elements do; so the fields of a word stand side by side in the masked matrix. Assumes nothing.
use mathlib.Core.Path.{◌≡◌, sym, ap, ap₂, subst, ◌∙◌}
use mathlib.Core.List.{List}
use Prim.Native.Nat.{ℕ, ◌+◌, ◌*◌, ◌/◌, ◌%◌, ◌<◌, ◌≤◌}
use native.Mathlib.Nat.{div-add-mod', add-mul, mul_assoc, mul_comm, mod-lt, div-lt_iff_lt-mul}
use native.Mathlib.Omega.{arith}
use lib.Arith.{digits_lt, digits_div, digits_mod, mod-mul}
use lib.Bits.{bit_xor}
use lib.ListN.{length, get_or}
use Rattle.laws.specs.Fields.{field}
use Rattle.laws.proofs.Lists.{block_le}
use Rattle.kinds.specs.Kinds.{lanes}
use Rattle.kinds.specs.Rule.{majors, minors, lane_of, element_of}
use Rattle.kinds.specs.Rule.{Layout}
use Rattle.kinds.proofs.Digits.{lane_lt, element_lt, word_lane, word_element}
use Rattle.buffers.proofs.Elements.{element_field}
use Rattle.buffers.proofs.Places.{stretch_fills}
use Rattle.step_products.specs.Sums.{masked, xor_in, Digitised}
use Rattle.step_products.proofs.Masked.{words_are, masked_entry}
use Rattle.step_products.proofs.Signs.{field_xor}

-- a quotient by a product, one factor after the other
module _ (t s c : ℕ) (hs : 0 < s) (hc : 0 < c) where
  low : t / c % s * c + t % c < s * c
  low = digits_lt (mod-lt (t / c) hs) (mod-lt t hc)

  whole : t / c / s * (s * c) + (t / c % s * c + t % c) ≡ t
  whole =
      let inner : t / c / s * s + t / c % s ≡ t / c = div-add-mod' (t / c) s in
      let outer : t / c * c + t % c ≡ t = div-add-mod' t c in
      omega (arith, mul_assoc (t / c / s) s c, add-mul (t / c / s * s) (t / c % s) c, ap (λ (z : ℕ). z * c) inner, outer)

  pub quotient_by : t / (s * c) ≡ t / c / s
  quotient_by = ap (λ (z : ℕ). z / (s * c)) (sym whole) ∙ digits_div (t / c / s) low

-- where word t stands, from the numbers that the code works out
pub stands_at : (spans halves t : ℕ) → 0 < spans
    → ((t / 4 / spans % 8 * 4 + t % 4) * spans + t / 4 % spans) * halves + t / 4 / spans / 8
    ≡ lane_of 1 (t / (spans * 4)) (t % (spans * 4)) * (spans * halves) + element_of 1 halves (t / (spans * 4)) (t % (spans * 4))
unfolding lane_of element_of
stands_at spans halves t some =
    let row = t / 4 / spans in
    let span = t / 4 % spans in
    let lane = row % 8 * 4 + t % 4 in
    let four : 0 < 4 = omega arith in
    let high : (span * 4 + t % 4) / 4 ≡ span = omega arith in
    let low : (span * 4 + t % 4) % 4 ≡ t % 4 = omega arith in
    let same : (span * 4 + t % 4) / 1 ≡ span * 4 + t % 4 = omega arith in
    let none : (span * 4 + t % 4) % 1 ≡ 0 = omega arith in
    rw (quotient_by t spans 4 some four, mod-mul t some four, same, none, high, low)
    (omega (arith, add-mul (lane * spans) span halves, mul_assoc lane spans halves))

-- a side's words
all_words : (spans halves : ℕ) → lanes * (spans * halves) ≡ halves * 8 * (spans * 4)
all_words s h =
    let inner : 8 * (s * 4) ≡ s * 32 = omega arith in
    sym (mul_assoc h 8 (s * 4) ∙ ap (λ (n : ℕ). h * n) inner ∙ sym (mul_assoc h s 32) ∙ ap (λ (n : ℕ). n * 32) (mul_comm h s) ∙ mul_comm (s * h) 32)

module _ (f : Layout) (ws out : List ℕ) (ok : Digitised f ws out) where
  abbrev p : ℕ
  p = f.side

  abbrev each : ℕ
  each = f.spans * f.halves

  narrow : f.bits < 32
  narrow = omega (arith, ok.narrow)

  -- every place is a field's
  places : majors f * minors f ≡ lanes * each * p
  places = sym (ap (λ (n : ℕ). n * p) (all_words f.spans f.halves) ∙ mul_assoc (f.halves * 8) (f.spans * 4) p)

  pub word_of : (z : ℕ) → z < majors f * minors f → z / p < lanes * each
  word_of z l = (div-lt_iff_lt-mul ok.laid.side_pos).1 (subst (λ (n : ℕ). z < n) places l)

  -- word t
  module _ (mask t : ℕ) (l : t < lanes * each) where
    abbrev row : ℕ
    row = t / (f.spans * 4)

    abbrev at : ℕ
    at = t % (f.spans * 4)

    abbrev word : ℕ
    word = lane_of 1 row at * each + element_of 1 f.halves row at

    some : 0 < f.spans * 4
    some = omega (arith, ok.laid.spans_pos)

    row_in : row < f.halves * 8
    row_in = (div-lt_iff_lt-mul some).1 (subst (λ (n : ℕ). t < n) (all_words f.spans f.halves) l)

    at_in : at < f.spans * 4
    at_in = mod-lt t some

    pub word_in : word < length ws
    word_in =
        let one : 0 < 1 = omega arith in
        let lane = lane_lt 1 f.halves one ok.laid.halves_pos row at in
        let element = element_lt 1 f.halves one ok.laid.halves_pos f.spans row at row_in (omega (arith, at_in)) in
        subst (λ (n : ℕ). word < n) (sym (ok.words ∙ ap (λ (n : ℕ). lanes * n) (words_are f ok.laid narrow))) (digits_lt lane (omega (arith, element)))

    pub room : t * p + p ≤ 1024
    room = omega (arith, block_le t (lanes * each) p l, places, ok.room)

    pub digit_in : (j : ℕ) → j < p → field f.bits j (bit_xor (get_or ws word 0) mask) ≡ get_or (masked f mask ws) (t * p + j) 0
    digit_in j hj =
        let b = f.bits in
        let y = at * p + j in
        let e = element_of 1 f.halves row at in
        let n = f.spans * 4 in
        let place : row * minors f + y ≡ t * p + j = omega (arith, mul_assoc row n p, add-mul (row * n) at p, ap (λ (z : ℕ). z * p) (div-add-mod' t n)) in
        field_xor b j (get_or ws word 0) mask
        ∙ ap₂ (λ (v i : ℕ). bit_xor v (field b i mask))
        (ap (λ (n : ℕ). field b j (get_or ws (lane_of 1 row at * n + e) 0)) (sym (words_are f ok.laid narrow)) ∙ sym (element_field f.words ws (lane_of 1 row at) b p e j (stretch_fills f ok.laid narrow) hj)) (sym (digits_mod e hj))
        ∙ sym (ap₂ (xor_in f mask ws) (word_lane p f.halves row at j hj) (word_element p f.halves row at j hj))
        ∙ sym (masked_entry f mask ws row y row_in (digits_lt at_in hj))
        ∙ ap (λ (z : ℕ). get_or (masked f mask ws) z 0) place
