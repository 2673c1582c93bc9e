-- The ones counted word by word are the ones among the combined bits of A's row and B's column, in every one-bit kind. Assumes nothing.
use mathlib.Core.Path.{◌≡◌, sym, ap, ap₂, ◌∙◌}
use mathlib.Core.List.{List}
use Prim.Native.Nat.{ℕ, ◌+◌, ◌*◌, ◌/◌, ◌%◌, ◌^◌, ◌<◌, ◌≤◌}
use native.Mathlib.Nat.{div-lt_iff_lt-mul, mod-lt}
use native.Mathlib.Omega.{arith}
use lib.IntN.{pos}
use lib.ListN.{length, get_or}
use lib.Dec.{T, leb, eqb}
use Rattle.laws.specs.Bits.{combine, ones_in}
use Rattle.laws.specs.Lists.{tab, blocks}
use Rattle.laws.proofs.Lists.{tab_ext}
use Rattle.laws.proofs.Every.{all}
use Rattle.answers.specs.Tests.{Says}
use Rattle.answers.proofs.Words.{says}
use Rattle.kinds.specs.Kinds.{kinds, lanes, entry_of, one_bit_element, one_bit, Arithmetic}
use Rattle.kinds.specs.Rule.{side_of, lane_of, element_of, major, minor}
use Rattle.kinds.specs.declared.Entry.{Entry}
use Rattle.kinds.proofs.Table.{among, among_≡, among_≤}
use Rattle.kinds.proofs.Digits.{major_lt, minor_lt}
use Rattle.buffers.specs.Buffers.{element_at}
use Rattle.step_work.specs.Step.{entry_in, depth, combined_bits, added, limit, result_at, stepped}
use Rattle.step_work.specs.Workers.{Sized}
use Rattle.step_limit.specs.Limits.{cell_of}
use Rattle.step_ones.specs.Combined.{bit_in, bit_of, bits_of, ones_word, ones_words, lines_of}
use Rattle.step_ones.proofs.Counts.{line_bit, column_bit}
use Rattle.step_work.proofs.Matrices.{pairs, columns_half, halves_pos, halves_le, words_pos, entry_A, entry_B, entry_C, stepped_is}

module _ (k : ℕ) (ok : Arithmetic k) (bit : Says (one_bit k)) where
  abbrev e : Entry
  e = entry_of k

  -- A's halves; a row's spans of four words, of which a lane of B holds one each
  abbrev halves : ℕ
  halves = e.m / 8

  abbrev spans : ℕ
  spans = e.b

  -- what holds of every one-bit kind's line, by a test that antt computes
  eq_test : (f g : Entry → ℕ) → T (all kinds (among one_bit_element one_bit_element (λ e. eqb (f e) (g e)))) → f e ≡ g e
  eq_test f g t = among_≡ k ok.low ok.high one_bit_element one_bit_element (omega (arith, bit), omega (arith, bit)) f g t

  le_test : (f g : Entry → ℕ) → T (all kinds (among one_bit_element one_bit_element (λ e. leb (f e) (g e)))) → f e ≤ g e
  le_test f g t = among_≤ k ok.low ok.high one_bit_element one_bit_element (omega (arith, bit), omega (arith, bit)) f g t

  single_bit : e.bits ≡ 1
  single_bit = eq_test (λ e. e.bits) (λ e. 1) tt

  words_A : e.a ≡ spans * halves
  words_A = eq_test (λ e. e.a) (λ e. e.b * (e.m / 8)) tt

  deep : depth k ≡ 64 * (spans * 2)
  deep = eq_test (λ e. e.k) (λ e. 64 * (e.b * 2)) tt

  rows_are : e.m ≡ halves * 8
  rows_are = eq_test (λ e. e.m) (λ e. e.m / 8 * 8) tt

  spans_pos : 1 ≤ spans
  spans_pos = le_test (λ e. 1) (λ e. e.b) tt

  spans_le : spans ≤ halves
  spans_le = le_test (λ e. e.b) (λ e. e.m / 8) tt

  pub depth_le : depth k ≤ 256
  depth_le = omega (arith, deep, spans_le, halves_le k ok)

  -- the one-bit form wraps in both modes
  pub wraps_always : (mode : ℕ) → limit k mode ≡ 0
  wraps_always mode = simp ((says (one_bit k)).1 bit)

  -- C plus the ones
  pub result_is : (mode : ℕ) (a b c : List ℕ) (row column : ℕ)
      → result_at k 0 mode a b c row column ≡ cell_of 0 (entry_in k 2 c row column) (pos (ones_in (combined_bits k mode a b row column)))
  unfolding result_at added
  result_is mode a b c row column = simp ((says (one_bit k)).1 bit)

  module _ (mode : ℕ) (a b c : List ℕ) (fit : (x : ℕ) → get_or c x 0 < 2 ^ 32) where
    -- A's words row by row
    abbrev x : List ℕ
    x = lines_of spans halves a

    bit_A : (row j : ℕ) → row < halves * 8 → j < depth k → bit_in x (row * (spans * 4)) j ≡ entry_in k 0 a row j
    bit_A row j hr h =
        line_bit spans halves a row j hr (omega (arith, h, deep))
        ∙ sym (entry_A k ok a row j hr h
        ∙ ap₂ (λ (n w : ℕ). element_at n w a (lane_of (side_of n) row j) (element_of (side_of n) halves row j)) single_bit words_A)

    bit_B : (j column : ℕ) → j < depth k → column < 8 → bit_of spans b column j ≡ entry_in k 1 b j column
    bit_B j column h hc =
        column_bit spans b column j
        ∙ sym (entry_B k ok b j column h hc
        ∙ ap₂ (λ (n h : ℕ). element_at n spans b (lane_of (side_of n) column j) (element_of (side_of n) h column j)) single_bit (columns_half k ok))

    bits_are : (row column : ℕ) → row < halves * 8 → column < 8 → bits_of spans mode x b row column ≡ combined_bits k mode a b row column
    unfolding bits_of combined_bits
    bits_are row column hr hc =
        let bit : ℕ → ℕ = λ j. combine mode (bit_in x (row * (spans * 4)) j) (bit_of spans b column j) in
        ap (λ (m : ℕ). tab m bit) (sym deep)
        ∙ tab_ext (depth k) bit (λ j. combine mode (entry_in k 0 a row j) (entry_in k 1 b j column))
        (λ j h. ap₂ (combine mode) (bit_A row j hr h) (bit_B j column h hc))

    word_is : (lane i : ℕ) → lane < lanes → i < e.c → ones_word spans halves mode x b c lane i ≡ result_at k 0 mode a b c (major 2 halves lane i) (minor 2 halves lane i)
    unfolding ones_word
    word_is lane i hl hi =
        let two : 0 < 2 = omega arith in
        let row = major_lt 2 halves two (halves_pos k ok) lane i hl in
        let column = minor_lt 2 halves two (halves_pos k ok) 1 lane i (omega (arith, hi, pairs k ok)) in
        ap₂ (λ (w n : ℕ). cell_of 0 w (pos n))
        (ap (λ (w : ℕ). get_or c (lane * w + i) 0) (sym (pairs k ok)) ∙ sym (entry_C k ok lane i hl hi c fit))
        (ap ones_in (bits_are (major 2 halves lane i) (minor 2 halves lane i) row column))
        ∙ sym (result_is mode a b c (major 2 halves lane i) (minor 2 halves lane i))

    words_are : ones_words spans halves mode x b c ≡ stepped k 0 mode a b c
    unfolding ones_words
    words_are =
        ap (λ (w : ℕ). tab (lanes * w) (blocks w (ones_word spans halves mode x b c))) (sym (pairs k ok))
        ∙ tab_ext (lanes * e.c) (blocks e.c (ones_word spans halves mode x b c)) (blocks e.c (λ lane i. result_at k 0 mode a b c (major 2 halves lane i) (minor 2 halves lane i)))
        (λ x h. word_is (x / e.c) (x % e.c) ((div-lt_iff_lt-mul (words_pos k ok)).1 h) (mod-lt x (words_pos k ok)))
        ∙ sym (stepped_is k ok 0 mode a b c)

  -- the extents there are, as the code tells them apart: by A's rows, then by the words of B
  pub narrow : e.m ≡ 8 → (spans ≡ 1) × (halves ≡ 1)
  narrow h = (omega (arith, h, spans_pos, spans_le), omega (arith, h))

  pub tall : (e.m ≡ 8 → ⊥) → spans ≡ 1 → (spans ≡ 1) × (halves ≡ 2)
  tall ne h = (h, omega (arith, ne, rows_are, halves_pos k ok, halves_le k ok))

  pub long : (e.m ≡ 8 → ⊥) → (spans ≡ 1 → ⊥) → (spans ≡ 2) × (halves ≡ 2)
  long ne more = (omega (arith, ne, more, rows_are, spans_pos, spans_le, halves_le k ok), omega (arith, ne, rows_are, halves_pos k ok, halves_le k ok))

  -- of one of them: what the workers ask for, and the words that they leave
  module _ (s h : ℕ) (known : (spans ≡ s) × (halves ≡ h)) where
    pub asked : (a b c d : List ℕ) → Sized k (length a) (length b) (length c) (length d)
        → ((length a ≡ lanes * (s * h)) × (length b ≡ lanes * s)) × ((length c ≡ lanes * (2 * h)) × (length d ≡ lanes * (2 * h)))
    asked a b c d z =
        let pair : lanes * e.c ≡ lanes * (2 * h) = ap (λ (w : ℕ). lanes * w) (pairs k ok ∙ ap (λ (h : ℕ). 2 * h) known.1) in (
          (z.of_a ∙ ap (λ (w : ℕ). lanes * w) (words_A ∙ ap₂ ◌*◌ known.0 known.1), z.of_b ∙ ap (λ (w : ℕ). lanes * w) known.0),
          (z.of_c ∙ pair, z.of_d ∙ pair),
        )

    pub counted : (mode : ℕ) (a b c : List ℕ) → ((x : ℕ) → get_or c x 0 < 2 ^ 32) → ones_words s h mode (lines_of s h a) b c ≡ stepped k 0 mode a b c
    counted mode a b c fit =
        sym (ap₂ (λ (s h : ℕ). ones_words s h mode (lines_of s h a) b c) known.0 known.1) ∙ words_are mode a b c fit
