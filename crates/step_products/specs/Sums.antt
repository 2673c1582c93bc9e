-- The sums as the code works them out: of digits that stand too high by an offset. The crate step ties them to document 01's sums.
-- Assumes nothing.
use Rattle.std.specs.Prelude.{ℕ, ◌+◌, ◌*◌, ◌%◌, ◌^◌, ◌<◌, ◌≤◌, ◌≡◌, Bool, true, false, List, length, get_or, ℤ, ◌*ℤ◌}
use Rattle.std.specs.Int.Bits.{bit_xor}
use Rattle.std.proofs.Math.IntN.{sub_ℕ}
use Rattle.laws.specs.Fields.{field}
use Rattle.laws.specs.Bits.{sum_n}
use Rattle.laws.specs.Integers.{sum_z}
use Rattle.laws.specs.Lists.{tab, blocks}
use Rattle.kinds.specs.Kinds.{lanes}
use Rattle.kinds.specs.Rule.{shape, majors, minors, lane_of, element_of, major, minor}
use Rattle.kinds.specs.Laid.{Laid}
use Rattle.kinds.specs.Rule.{Layout}
use Rattle.kinds.specs.declared.Layouts.{Layouts}
use Rattle.buffers.specs.Buffers.{element_at}
use Rattle.step_limit.specs.Limits.{cell_of, mark_of}
use Rattle.step_products.specs.declared.Dot.{Dot}
use Rattle.step_products.specs.declared.Offsets.{Offsets}

-- how far a side's digits stand too high
abbrev pub offset_of : (unsigned : Bool) → (half : ℕ) → ℕ
offset_of true half = 0
offset_of false half = half

-- the digit of a pattern: raised by the offset
abbrev pub raised : (size offset x : ℕ) → ℕ
raised size offset x = (x + offset) % size

-- an element of a warp buffer, with the bits turned over that its field of a mask has
abbrev pub xor_in : Layout → (mask : ℕ) → List ℕ → (lane i : ℕ) → ℕ
xor_in f mask ws lane i = bit_xor (element_at f.bits f.words ws lane i) (field f.bits (i % f.side) mask)

-- by major and minor number
unfoldable pub masked : Layout → (mask : ℕ) → List ℕ → List ℕ
masked f mask ws = tab (majors f * minors f) (blocks (minors f) (λ x y. xor_in f mask ws (lane_of f.side x y) (element_of f.side f.halves x y)))

-- the digit at a major and a minor number of a warp buffer
unfoldable pub digit_at : (bits each side halves offset : ℕ) → List ℕ → (x y : ℕ) → ℕ
digit_at bits each side halves offset ws x y = raised (2 ^ bits) offset (element_at bits each ws (lane_of side x y) (element_of side halves x y))

-- the sum over k of (a k - ha) times (b k - hb)
unfoldable pub offset_dot : (ha hb n : ℕ) → (a b : ℕ → ℕ) → ℤ
offset_dot ha hb n a b = sum_z n (λ k. sub_ℕ (a k) ha *ℤ sub_ℕ (b k) hb)

-- the sum at the place of lane and element i of D, from the digits of A by rows and of B by columns
abbrev pub digits_dot : (n ha hb halves : ℕ) → (x y : List ℕ) → (lane i : ℕ) → ℤ
digits_dot n ha hb halves x y lane i =
    offset_dot ha hb n (λ k. get_or x (major 2 halves lane i * n + k) 0) (λ k. get_or y (minor 2 halves lane i * n + k) 0)

-- the word of D that they hold
unfoldable pub digits_word : (mode n ha hb each halves : ℕ) → (x y c : List ℕ) → (lane i : ℕ) → ℕ
digits_word mode n ha hb each halves x y c lane i =
    cell_of mode (get_or c (lane * each + i) 0) (digits_dot n ha hb halves x y lane i)

-- and its mark
unfoldable pub digits_mark : (mode n ha hb each halves : ℕ) → (x y c : List ℕ) → (lane i : ℕ) → ℕ
digits_mark mode n ha hb each halves x y c lane i =
    mark_of mode (get_or c (lane * each + i) 0) (digits_dot n ha hb halves x y lane i)

unfoldable pub digits_words : Layouts → (mode : ℕ) → Offsets → (x y c : List ℕ) → List ℕ
digits_words l mode h x y c = tab (lanes * l.c.words) (blocks l.c.words (digits_word mode (minors l.a) h.a h.b l.c.words l.c.halves x y c))

unfoldable pub digits_marks : Layouts → (mode : ℕ) → Offsets → (x y c : List ℕ) → ℕ → ℕ
digits_marks l mode h x y c = blocks l.c.words (digits_mark mode (minors l.a) h.a h.b l.c.words l.c.halves x y c)

-- the layout whose rows are the major numbers
abbrev pub straight : Layout → Layout
straight f = shape f.bits f.words f.side f.halves f.spans false

-- the digits of a side stand by major and minor number
abbrev pub Digits : Layout → (offset : ℕ) → (ws out : List ℕ) → Type 0
Digits f offset ws out = (x y : ℕ) → x < majors f → y < minors f → get_or out (x * minors f + y) 0 ≡ digit_at f.bits f.words f.side f.halves offset ws x y

-- what the workers ask for: buffers for a side's digits; sums that stay small
pub record Digitised (f : Layout) (ws out : List ℕ) : Type 0 where
  pub laid : Laid f
  pub narrow : f.bits ≤ 8
  pub straight : f.turned ≡ false
  pub room : majors f * minors f ≤ 1024
  pub words : length ws ≡ lanes * f.words
  pub digits : length out ≡ 1024

pub record Summable (l : Layouts) (mode : ℕ) (h : Offsets) (c d : List ℕ) : Type 0 where
  pub mode_le : mode ≤ 1
  pub spans_le : l.a.spans ≤ 2
  pub deep : minors l.a ≤ 64
  pub offset_a : h.a ≤ 128
  pub offset_b : h.b ≤ 128
  pub halves_pos : 0 < l.c.halves
  pub halves_le : l.c.halves ≤ 2
  pub pairs : l.c.words ≡ 2 * l.c.halves
  pub of_c : length c ≡ lanes * l.c.words
  pub of_d : length d ≡ lanes * l.c.words

-- of n digits a and n digits b: the sum of the products, and the sums, which are small
pub record Dots (n : ℕ) (a b : ℕ → ℕ) (r : Dot) : Type 0 where
  pub products : r.products ≡ sum_n n (λ k. a k * b k)
  pub of_a : r.a ≡ sum_n n a
  pub of_b : r.b ≡ sum_n n b
  pub products_le : r.products ≤ 65025 * n
  pub a_le : r.a ≤ 255 * n
  pub b_le : r.b ≤ 255 * n
