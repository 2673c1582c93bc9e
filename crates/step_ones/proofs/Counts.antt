-- The ones of a row and a column, pair by pair; and the words lie by the rule as the elements do, so that the bits of a row and a column are the
-- one-bit elements of their places. Assumes nothing.
use mathlib.Core.Path.{◌≡◌, sym, ap, ap₂, subst, ◌∙◌}
use mathlib.Core.List.{List}
use Prim.Native.Nat.{ℕ, ◌+◌, ◌*◌, ◌/◌, ◌%◌, ◌^◌, ◌<◌, ◌≤◌}
use native.Mathlib.Nat.{one-mul, div-add-mod', mod-lt, div-lt_iff_lt-mul}
use native.Mathlib.Omega.{arith}
use lib.Arith.{digits_lt, digits_div, digits_mod}
use lib.IntN.{pos, sub_ℕ}
use lib.ListN.{length, get_or}
use Rattle.laws.specs.Bits.{combine, ones_in, sum_n}
use Rattle.laws.specs.Fields.{field, joined}
use Rattle.laws.specs.Lists.{blocks}
use Rattle.laws.proofs.Bits.{sum_cong, sum_split, ones_tab, ones_le, combine_lt}
use Rattle.laws.proofs.Differences.{is_pos}
use Rattle.laws.proofs.Fields.{field_field, field_joined}
use Rattle.laws.proofs.Lists.{get_or_tab, is_tab, tab_ext}
use Rattle.kinds.specs.Kinds.{lanes}
use Rattle.kinds.specs.Rule.{lane_of, element_of, major, minor}
use Rattle.kinds.proofs.Digits.{lane_lt, element_lt, major_lt, minor_lt, word_lane, word_element}
use Rattle.buffers.specs.Buffers.{element_at}
use Rattle.buffers.proofs.Elements.{element_field}
use Rattle.step_limit.specs.Limits.{cell_of}
use Rattle.step_ones.specs.Combined.{word_at, lines_of, bit_in, bit_of, bits_of, ones_word, ones_words, pair_at, Paired, place_at, down_bits, Summed, sums_words}

-- a bit of two words joined is a bit of one of them
pair_bit : (f : ℕ → ℕ) → ((k : ℕ) → f k < 2 ^ 32) → (t : ℕ) → t < 64 → joined 32 2 f / 2 ^ t % 2 ≡ f (t / 32) / 2 ^ (t % 32) % 2
unfolding field
pair_bit f fit t l =
    let whole : t / 32 * 32 + t % 32 ≡ t = omega arith in
    sym (ap (λ (e : ℕ). joined 32 2 f / 2 ^ e % 2) (one-mul t))
    ∙ ap (λ (e : ℕ). field 1 e (joined 32 2 f)) (sym whole)
    ∙ sym (field_field 1 32 (t / 32) (t % 32) (joined 32 2 f) (omega arith))
    ∙ ap (field 1 (t % 32)) (field_joined 32 2 f (λ k _. fit k) (t / 32) (omega arith))
    ∙ ap (λ (e : ℕ). f (t / 32) / 2 ^ e % 2) (one-mul (t % 32))

module _ (mode : ℕ) (x y : List ℕ) (i column : ℕ) where
  abbrev combined : ℕ → ℕ
  combined k = combine mode (bit_in x i k) (get_or y (k / 64 * 8 + column) 0 / 2 ^ (k % 64) % 2)

  ones_sum : (n : ℕ) → ones_in (down_bits mode n x y i column) ≡ sum_n (64 * n) combined
  unfolding down_bits
  ones_sum n = ones_tab (64 * n) combined (λ k _. combine_lt mode _ _ (omega arith) (omega arith))

  -- one pair more: w counts the ones of the two at q
  pub ones_more : ((k : ℕ) → get_or x k 0 < 2 ^ 32) → (q w : ℕ)
      → w ≡ sum_n 64 (λ t. combine mode (pair_at x (i + 2 * q) / 2 ^ t % 2) (get_or y (q * 8 + column) 0 / 2 ^ t % 2))
      → ones_in (down_bits mode q x y i column) + w ≡ ones_in (down_bits mode (q + 1) x y i column)
  ones_more fit q w e =
      ap₂ ◌+◌ (ones_sum q) (e ∙ sum_cong 64 _ _ (λ t l. ap₂ (combine mode) (row_bit t l) (column_bit t l)))
      ∙ sym (sum_split (64 * q) 64 combined)
      ∙ sym (ap (λ (n : ℕ). sum_n n combined) {x = 64 * (q + 1)} (omega arith))
      ∙ sym (ones_sum (q + 1))
    where
      row_bit : (t : ℕ) → t < 64 → pair_at x (i + 2 * q) / 2 ^ t % 2 ≡ bit_in x i (64 * q + t)
      row_bit t l =
          let at : i + 2 * q + t / 32 ≡ i + (64 * q + t) / 32 = omega arith in
          let low : t % 32 ≡ (64 * q + t) % 32 = omega arith in
          pair_bit (λ k. get_or x (i + 2 * q + k) 0) (λ k. fit (i + 2 * q + k)) t l ∙ ap₂ (λ (n e : ℕ). get_or x n 0 / 2 ^ e % 2) at low

      column_bit : (t : ℕ) → t < 64 → get_or y (q * 8 + column) 0 / 2 ^ t % 2 ≡ get_or y ((64 * q + t) / 64 * 8 + column) 0 / 2 ^ ((64 * q + t) % 64) % 2
      column_bit t l =
          let high : (64 * q + t) / 64 ≡ q = omega arith in
          let low : (64 * q + t) % 64 ≡ t = omega arith in
          rw (high, low)

-- word q of a row or a column
module _ (spans halves x q : ℕ) (h0 : 0 < halves) (hx : x < halves * 8) (hq : q < spans * 4) where
  in_lane : element_of 1 halves x q < spans * halves
  in_lane = omega (arith, element_lt 1 halves (omega arith) h0 spans x q hx (omega arith))

  pub word_in : word_at spans halves x q < lanes * (spans * halves)
  word_in = digits_lt (lane_lt 1 halves (omega arith) h0 x q) in_lane

-- it holds the bits from 32 q on
module _ (spans halves x q : ℕ) (ws : List ℕ) (j : ℕ) (l : j < 32) where
  bit_is : get_or ws (word_at spans halves x q) 0 / 2 ^ j % 2 ≡ element_at 1 (spans * halves) ws (lane_of 32 x (q * 32 + j)) (element_of 32 halves x (q * 32 + j))
  unfolding field
  bit_is =
      rw (word_lane 32 halves x q j l, word_element 32 halves x q j l)
      (sym (element_field (spans * halves) ws (lane_of 1 x q) 1 32 (element_of 1 halves x q) j (omega arith) l
      ∙ ap (λ (i : ℕ). get_or ws (word_at spans halves x q) 0 / 2 ^ i % 2) (one-mul j)))

-- bit k of a line is the element whose place it is
pub line_bit : (spans halves : ℕ) (ws : List ℕ) (x k : ℕ) → x < halves * 8 → k < 32 * (spans * 4)
    → bit_in (lines_of spans halves ws) (x * (spans * 4)) k ≡ element_at 1 (spans * halves) ws (lane_of 32 x k) (element_of 32 halves x k)
unfolding lines_of
line_bit spans halves ws x k hx hk =
    let n = spans * 4 in
    let q = k / 32 in
    let hq : q < n = omega arith in
    let whole : k / 32 * 32 + k % 32 ≡ k = omega arith in
    let word : ℕ → ℕ → ℕ = λ x q. get_or ws (word_at spans halves x q) 0 in
    ap (λ (w : ℕ). w / 2 ^ (k % 32) % 2)
    (get_or_tab (halves * 8 * n) (blocks n word) (x * n + q) 0 (digits_lt hx hq) ∙ ap₂ word (digits_div x hq) (digits_mod x hq))
    ∙ bit_is spans halves x q ws (k % 32) (omega arith)
    ∙ ap (λ (k : ℕ). element_at 1 (spans * halves) ws (lane_of 32 x k) (element_of 32 halves x k)) whole

-- and so is bit k of a column
pub column_bit : (spans : ℕ) (b : List ℕ) (column k : ℕ) → bit_of spans b column k ≡ element_at 1 spans b (lane_of 32 column k) (element_of 32 1 column k)
column_bit spans b column k =
    let whole : k / 32 * 32 + k % 32 ≡ k = omega arith in
    let each : spans * 1 ≡ spans = omega arith in
    bit_is spans 1 column (k / 32) b (k % 32) (omega arith)
    ∙ ap₂ (λ (w k : ℕ). element_at 1 w b (lane_of 32 column k) (element_of 32 1 column k)) each whole

-- the ones of a row and a column are few
pub few_ones : (spans halves mode : ℕ) (x y s : List ℕ) → Summed spans halves mode x y s → spans ≤ 2 → (k : ℕ) → k < halves * 64 → get_or s k 0 ≤ 256
unfolding down_bits
few_ones spans halves mode x y s summed hs k l =
    let whole : k / 8 * 8 + k % 8 ≡ k = omega arith in
    let e = summed.at (k / 8) (k % 8) (omega arith) (omega arith) in
    let most = ones_le (64 * (spans * 2)) (combined mode x y (k / 8 * (spans * 4)) (k % 8)) in
    subst (λ (n : ℕ). get_or s n 0 ≤ 256) whole (subst (λ (v : ℕ). v ≤ 256) (sym e) (omega (arith, most)))

-- the ones by row and column, from B's pairs, are those of the combined bits
module _ (spans halves mode : ℕ) (x b y s c : List ℕ) (fit : (k : ℕ) → get_or b k 0 < 2 ^ 32) (paired : Paired spans b y) (summed : Summed spans halves mode x y s) where
  downs_are : (row column : ℕ) → column < 8 → down_bits mode (spans * 2) x y (row * (spans * 4)) column ≡ bits_of spans mode x b row column
  unfolding down_bits bits_of
  downs_are row column hc =
      tab_ext (64 * (spans * 2)) _ (λ k. combine mode (bit_in x (row * (spans * 4)) k) (bit_of spans b column k))
      (λ k l. ap (combine mode (bit_in x (row * (spans * 4)) k)) (bit_down k l))
    where
      bit_down : (k : ℕ) → k < 64 * (spans * 2) → get_or y (k / 64 * 8 + column) 0 / 2 ^ (k % 64) % 2 ≡ bit_of spans b column k
      bit_down k l =
          let at : 2 * (k / 64) + k % 64 / 32 ≡ k / 32 = omega arith in
          let low : k % 64 % 32 ≡ k % 32 = omega arith in
          ap (λ (w : ℕ). w / 2 ^ (k % 64) % 2) (paired.at (k / 64) column (omega arith) hc)
          ∙ pair_bit (λ h. get_or b (word_at spans 1 column (2 * (k / 64) + h)) 0) (λ h. fit (word_at spans 1 column (2 * (k / 64) + h))) (k % 64) (omega arith)
          ∙ ap₂ (λ (n e : ℕ). get_or b (word_at spans 1 column n) 0 / 2 ^ e % 2) at low

  pub sums_are : 0 < halves → sums_words halves s c ≡ ones_words spans halves mode x b c
  unfolding sums_words ones_words ones_word
  sums_are h0 =
      let each = 2 * halves in
      let two : 0 < 2 = omega arith in
      let some : 0 < each = omega arith in
      tab_ext (lanes * each) _ (blocks each (ones_word spans halves mode x b c))
      (λ k l.
      let hl = (div-lt_iff_lt-mul some).1 l in
      let hi = mod-lt k some in
      let row = major 2 halves (k / each) (k % each) in
      let column = minor 2 halves (k / each) (k % each) in
      let hr = major_lt 2 halves two h0 (k / each) (k % each) hl in
      let hc = minor_lt 2 halves two h0 1 (k / each) (k % each) (omega (arith, hi)) in
      ap (λ (n : ℕ). cell_of 0 (get_or c (k / each * each + k % each) 0) (pos n)) (summed.at row column hr hc ∙ ap ones_in (downs_are row column hc)))

-- word j of D from the ones at its place
pub word_is : (halves : ℕ) (s c : List ℕ) (j at n w : ℕ) → at ≡ place_at halves (j / (2 * halves)) (j % (2 * halves)) → n ≡ get_or s at 0
    → w ≡ cell_of 0 (get_or c j 0) (sub_ℕ n 0)
    → w ≡ blocks (2 * halves) (λ lane i. cell_of 0 (get_or c (lane * (2 * halves) + i) 0) (pos (get_or s (place_at halves lane i) 0))) j
word_is halves s c j at n w ea en ew = cc (div-add-mod' j (2 * halves), is_pos n 0 n (omega arith))

-- a buffer of one word a lane lies in lines as it is
pub lined : (ws : List ℕ) → length ws ≡ 32 → ws ≡ lines_of 1 1 ws
unfolding lines_of lane_of element_of
lined ws e = is_tab 32 (blocks 4 (λ x q. get_or ws (word_at 1 1 x q) 0)) ws 0 e (λ k l. ap (λ (i : ℕ). get_or ws i 0) {x = k} (omega arith))
