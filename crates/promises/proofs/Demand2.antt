-- Demand 2, a sentence above its statement: 'For the ten kinds, every place, unpacked matrix, packed warp and integer or one-bit step is what
-- the PTX rules say. Unpacking what was packed gives the matrix back, and packing what was unpacked the words.' Document 02, K5, makes the ten
-- kinds fourteen, and K9 the place four numbers. Assumes nothing.
use mathlib.Core.Path.{◌≡◌, refl, sym, ap, ap₂, subst, ◌∙◌}
use mathlib.Core.Logic.{◌↔◌, ◌≢◌, ⊎_elim}
use mathlib.Core.List.{List}
use Prim.Native.Nat.{ℕ, ◌+◌, ◌*◌, ◌/◌, ◌%◌, ◌^◌, ◌<◌, ◌≤◌}
use native.Mathlib.Nat.{mod-lt, div-add-mod', div-lt_iff_lt-mul}
use native.Mathlib.Omega.{arith}
use borrow.Author.Tests.{ne_eqb}
use lib.IntN.{pos, ◌+ℤ◌, ◌*ℤ◌}
use lib.ListN.{length, get_or}
use Rattle.laws.specs.Bits.{combine, ones_in}
use Rattle.laws.specs.Integers.{value, sum_z, int32, clamp}
use Rattle.laws.specs.Fields.{bits_from, field, joined}
use Rattle.laws.specs.Lists.{tab, blocks}
use Rattle.laws.proofs.Bits.{ones_le}
use Rattle.laws.proofs.Lists.{is_tab}
use Rattle.laws.specs.Totals.{Wraps}
use Rattle.kinds.specs.Kinds.{lanes, kind_of, role_of, bits_at, columns_at, elements_at, rows_at, words_at, Legal, one_bit, integer, Arithmetic}
use Rattle.kinds.specs.Places.{place_of, word_within, lowest_bit, stands_at, whose_bit, with_word_and_bit}
use Rattle.answers.specs.Refusals.{given}
use Rattle.places.specs.PlaceCalls.{place_call, place_answer, find_answer}
use Rattle.answers.specs.Tests.{Says}
use Rattle.answers.proofs.Demand1.{given_when}
use Rattle.kinds.proofs.Table.{not_one_bit}
use Rattle.kinds.specs.Rule.{elements_of, place_in, holder_of}
use Rattle.kinds.proofs.Spots.{bit_once}
use Rattle.places.proofs.ByRule.{rule_placed}
use Rattle.kinds.proofs.Table.{layout_at, elements_are, rows_are, columns_are, bits_are, words_are, sane}
use Rattle.places.proofs.Promises as places
use Rattle.buffers.specs.Buffers.{held_at, held_in, element_at, element_in, index, unpacked_of, packed_of, words_needed, entries_needed}
use Rattle.buffers.proofs.Elements.{lane_number, element_number}
use Rattle.buffers.proofs.Placed.{entries_needed_lem}
use Rattle.buffers.proofs.Places.{columns_pos}
use Rattle.buffers.proofs.Round.{lane_in, element_in_lem, place_back, within, unpacked_length}
use Rattle.unpack.proofs.Promises as unpacking
use Rattle.pack.specs.PackCall.{pack_answer}
use Rattle.pack.proofs.Promises as packing
use Rattle.step_work.specs.Step.{entry_in, depth, sign_weight, unsigned_a, unsigned_b, products, combined_bits, added, result_at, words_d, stepped}
use Rattle.step_limit.specs.Limits.{cell_of}
use Rattle.step.specs.StepCalls.{step_answer}
use Rattle.step_work.specs.Workers.{Ready}
use Rattle.step_work.proofs.Counted.{result_is}
use Rattle.step.proofs.Promises as steps

-- 'every place': of every kind, role, lane and element that there is, the row and the column are those of the clause in kinds/specs/Places,
pub place_at : (k r lane i : ℕ) → Legal k r → lane ≤ 31 → i < elements_at k r
    → place_answer k r lane i ≡ given (with_word_and_bit (bits_at k r) i (place_of (kind_of k) (role_of r) lane i))
unfolding place_answer
place_at k r lane i ok l h =
    (given_when (place_call k r lane i)).1
    (λ n. n (ok.low, ok.high), (λ n. omega (arith, n, ok.role), (⊎_elim (λ m. omega (arith, l, m)) (λ m. omega (arith, h, m)), tt)))

-- and document 02, K9, 'the word within the lane and the lowest bit in that word' are, for elements of up to 32 bits,
pub word_and_bit : (k r lane i row column word bit : ℕ)
    → place_answer k r lane i ≡ given (row, column, word, bit) → bits_at k r ≤ 32
    → (word ≡ i * bits_at k r / 32) × (bit ≡ i * bits_at k r % 32)
unfolding word_within lowest_bit
word_and_bit k r lane i row column word bit e h = let p = (places.one_to_one k r lane i row column word bit).0 e in (p.1, p.2)

-- '(for 64-bit elements the low word, bit 0)'.
pub low_word : (k r lane i row column word bit : ℕ)
    → place_answer k r lane i ≡ given (row, column, word, bit) → bits_at k r ≡ 64
    → (word ≡ 2 * i) × (bit ≡ 0)
unfolding word_within lowest_bit
low_word k r lane i row column word bit e h =
    let p = (places.one_to_one k r lane i row column word bit).0 e in
    let w : word ≡ i * 64 / 32 = subst (λ (n : ℕ). word ≡ i * n / 32) h p.1 in
    let b : bit ≡ i * 64 % 32 = subst (λ (n : ℕ). bit ≡ i * n % 32) h p.2 in
    (omega (arith, w), omega (arith, b))

-- 'one to one, and the reverse question is answered too', over the place of four numbers, for all numbers, legal or not
pub one_to_one : (k r lane i row column word bit : ℕ)
    → (place_answer k r lane i ≡ given (row, column, word, bit))
    ↔ ((find_answer k r row column ≡ given (lane, i)) × (word ≡ word_within (bits_at k r) i) × (bit ≡ lowest_bit (bits_at k r) i))
one_to_one = places.one_to_one

-- so that each row and column of the matrix is the place of one lane and element, and of no other.
pub exactly_one : (k r : ℕ) → Legal k r → (row column : ℕ) → row < rows_at k r → column < columns_at k r
    → (z : ℕ × ℕ) × (place_answer k r z.0 z.1 ≡ given (with_word_and_bit (bits_at k r) z.1 (row, column)))
    × ((lane i word bit : ℕ) → place_answer k r lane i ≡ given (row, column, word, bit) → (lane, i) ≡ z)
exactly_one k r ok row column hr hc =
    let f = layout_at k r in
    let w = sane k r ok in
    let hr' = subst (λ (n : ℕ). row < n) (rows_are k r ok) hr in
    let hc' = subst (λ (n : ℕ). column < n) (columns_are k r ok) hc in
    let z = holder_of f (row, column) in
    let there : place_answer k r z.0 z.1 ≡ given (with_word_and_bit (bits_at k r) z.1 (row, column))
    = rule_placed k r ok z.0 z.1 (lane_in f w row column hr' hc') (element_in_lem f w row column hr' hc')
    ∙ ap₂ (λ (n : ℕ) (x : ℕ × ℕ). given (with_word_and_bit n z.1 x)) (sym (bits_are k r ok)) (place_back f w row column hr' hc') in
    (z, there, λ lane i word bit e. only_one k r row column (lane, i) z ((places.one_to_one k r lane i row column word bit).0 e).0 ((places.one_to_one k r z.0 z.1 row column _ _).0 there).0)
  where
    only_one : (k r row column : ℕ) (y z : ℕ × ℕ) → find_answer k r row column ≡ given y → find_answer k r row column ≡ given z → y ≡ z
    only_one k r row column y z p q = cc

-- Every bit once: bit b of word w of a lane is bit o of element i exactly when that bit of the element stands there; each bit of each word is
-- one of these, and each bit of each element.
pub every_bit_once : (k r : ℕ) → Legal k r → (w b i o : ℕ)
    → ((w < words_at k r) × (b < 32) × (whose_bit (bits_at k r) w b ≡ (i, o)))
    ↔ ((i < elements_at k r) × (o < bits_at k r) × (stands_at (bits_at k r) i o ≡ (w, b)))
every_bit_once k r ok w b i o = bit_once (bits_at k r) (elements_at k r) (words_at k r) some full w b i o
  where
    some : 0 < bits_at k r
    some = subst (λ (n : ℕ). 0 < n) (sym (bits_are k r ok)) (sane k r ok).width.pos

    full : bits_at k r * elements_at k r ≡ 32 * words_at k r
    full =
        ap₂ (λ (b n : ℕ). b * n) (bits_are k r ok) (elements_are k r ok)
        ∙ (sane k r ok).full
        ∙ ap (λ (n : ℕ). 32 * n) (sym (words_are k r ok))

-- Two elements of a lane share no bit.
pub no_bit_shared : (k r : ℕ) → Legal k r → (i j o p : ℕ)
    → i < elements_at k r → j < elements_at k r → o < bits_at k r → p < bits_at k r
    → stands_at (bits_at k r) i o ≡ stands_at (bits_at k r) j p → (i ≡ j) × (o ≡ p)
no_bit_shared k r ok i j o p hi hj ho hp e =
    let z = stands_at (bits_at k r) j p in
    let one = ((every_bit_once k r ok z.0 z.1 i o).1 (hi, ho, e)).2 in
    let other = ((every_bit_once k r ok z.0 z.1 j p).1 (hj, hp, refl)).2 in
    (sym (ap (λ (x : ℕ × ℕ). x.0) one) ∙ ap (λ (x : ℕ × ℕ). x.0) other, sym (ap (λ (x : ℕ × ℕ). x.1) one) ∙ ap (λ (x : ℕ × ℕ). x.1) other)

-- 'Elements fill a word from its low bits up, then the next word.' What stands in a lane from a bit of a word up is, of every width but 64,
-- that many bits of the one word.
pub held_narrow : (k r : ℕ) → bits_at k r ≢ 64 → (ws : List ℕ) (lane word bit : ℕ)
    → held_in k r ws lane word bit ≡ get_or ws (lane * words_at k r + word) 0 / 2 ^ bit % 2 ^ bits_at k r
unfolding held_at bits_from
held_narrow k r ne ws lane word bit = rw (ne_eqb (bits_at k r) 64 ne) refl

-- 'A 64-bit element takes two words, low half first.'
pub held_two : (k r : ℕ) → bits_at k r ≡ 64 → (ws : List ℕ) → ((x : ℕ) → get_or ws x 0 < 2 ^ 32) → (lane word : ℕ)
    → held_in k r ws lane word 0
    ≡ get_or ws (lane * words_at k r + word + 1) 0 * 2 ^ 32 + get_or ws (lane * words_at k r + word) 0
unfolding held_at bits_from
held_two k r e ws fit lane word =
    let n = lane * words_at k r + word in
    rw e (omega (arith, fit (n + 1), fit n))

-- The same as one number: the elements of a lane are the fields of its words one after the other,
pub elements_of_number : (k r : ℕ) → Legal k r → (ws : List ℕ) → ((x : ℕ) → get_or ws x 0 < 2 ^ 32)
    → (lane i : ℕ) → i < elements_at k r
    → element_in k r ws lane i ≡ field (bits_at k r) i (joined 32 (words_at k r) (λ j. get_or ws (lane * words_at k r + j) 0))
unfolding lane_number
elements_of_number k r ok ws fit lane i h =
    let f = layout_at k r in
    let l : i < elements_of f = subst (λ (n : ℕ). i < n) (elements_are k r ok) h in
    ap₂ (λ (b w : ℕ). element_at b w ws lane i) (bits_are k r ok) (words_are k r ok)
    ∙ element_number f.words ws lane (λ j _. fit (lane * f.words + j)) f.bits i (sane k r ok).width (within f (sane k r ok) i l)
    ∙ ap₂ (λ (b w : ℕ). field b i (joined 32 w (λ j. get_or ws (lane * w + j) 0))) (sym (bits_are k r ok)) (sym (words_are k r ok))

-- and the words of a packed lane those of the entries at its places.
pub words_of_number : (k r : ℕ) (m ws : List ℕ) → pack_answer k r m ws ≡ given tt
    → (lane n : ℕ) → lane < lanes → n < words_at k r
    → get_or (packed_of k r m) (lane * words_at k r + n) 0
    ≡ field 32 n
    (joined (bits_at k r) (elements_at k r) (λ i. get_or m (index (columns_at k r) (place_in (layout_at k r) lane i)) 0))
words_of_number k r m ws a lane n hl hn = packing.words_of_number k r m ws a lane n hl hn

-- 'unpacked matrix': the entry at the row and column of a place is what stands in the lane from its bit of its word up; a matrix buffer is
-- row-major;
pub unpacked_at : (k r : ℕ) (ws : List ℕ) (lane i row column word bit : ℕ)
    → place_answer k r lane i ≡ given (row, column, word, bit)
    → get_or (unpacked_of k r ws) (row * columns_at k r + column) 0 ≡ held_in k r ws lane word bit
unpacked_at k r ws lane i row column word bit e = unpacking.unpacked_at k r ws lane i (row, column, word, bit) e

-- and no other matrix of that length has this.
pub unpacked_only : (k r : ℕ) → Legal k r → (ws m : List ℕ) → length m ≡ rows_at k r * columns_at k r
    → ((lane i row column word bit : ℕ) → place_answer k r lane i ≡ given (row, column, word, bit)
    → get_or m (row * columns_at k r + column) 0 ≡ held_in k r ws lane word bit)
    → m ≡ unpacked_of k r ws
unpacked_only k r ok ws m n at = unpacking.unpacked_only k r ok ws m n (λ lane i x e. at lane i x.0 x.1 x.2 x.3 e)

-- 'packed warp': after an accepted pack what stands in each lane from the bit of a place up, in its word, is the entry at its row and column,
pub packed_at : (k r : ℕ) (m ws : List ℕ) → pack_answer k r m ws ≡ given tt → (lane i row column word bit : ℕ)
    → place_answer k r lane i ≡ given (row, column, word, bit)
    → held_in k r (packed_of k r m) lane word bit ≡ get_or m (row * columns_at k r + column) 0
packed_at k r m ws a lane i row column word bit e = packing.packed_at k r m ws a lane i (row, column, word, bit) e

-- and no other 32-bit words of that length have this.
pub packed_only : (k r : ℕ) → Legal k r → (m ws : List ℕ) → length m ≡ entries_needed k r → length ws ≡ words_needed k r
    → ((x : ℕ) → x < length ws → get_or ws x 0 < 2 ^ 32)
    → ((lane i row column word bit : ℕ) → place_answer k r lane i ≡ given (row, column, word, bit)
    → held_in k r ws lane word bit ≡ get_or m (row * columns_at k r + column) 0)
    → ws ≡ packed_of k r m
packed_only k r ok m ws nm nw fit at = packing.packed_only k r ok m ws nm nw fit (λ lane i x e. at lane i x.0 x.1 x.2 x.3 e)

-- 'Unpacking what was packed gives the matrix back'
pub pack_unpack : (k r : ℕ) (m ws : List ℕ) → pack_answer k r m ws ≡ given tt → unpacked_of k r (packed_of k r m) ≡ m
pack_unpack k r m ws a = packing.pack_unpack k r m ws a

-- 'and packing what was unpacked the words.'
pub unpack_pack : (k r : ℕ) → Legal k r → (ws : List ℕ) → length ws ≡ words_needed k r
    → ((x : ℕ) → x < length ws → get_or ws x 0 < 2 ^ 32)
    → packed_of k r (unpacked_of k r ws) ≡ ws
unpack_pack k r ok ws n fit = packing.unpack_pack k r ok ws n fit

-- 'every .. step': the words of D as a whole. No other words of D's length have the step's result at every row and column.
pub stepped_only : (k signs mode : ℕ) → Arithmetic k → (a b c ws : List ℕ) → length ws ≡ words_needed k 2
    → ((x : ℕ) → x < length ws → get_or ws x 0 < 2 ^ 32)
    → ((row column : ℕ) → row < rows_at k 2 → column < columns_at k 2 → entry_in k 2 ws row column ≡ result_at k signs mode a b c row column)
    → ws ≡ stepped k signs mode a b c
unfolding entry_in words_d stepped
stepped_only k signs mode known a b c ws n fit at =
    let ok : Legal k 2 = record { low = known.low; high = known.high; role = omega arith } in
    let m = rows_at k 2 in
    let w = columns_at k 2 in
    let size : length (unpacked_of k 2 ws) ≡ m * w = unpacked_length (layout_at k 2) ws ∙ entries_needed_lem k 2 ok in
    let some : 0 < w = subst (λ (z : ℕ). 0 < z) (sym (columns_are k 2 ok)) (columns_pos (layout_at k 2) (sane k 2 ok)) in
    sym (unpack_pack k 2 ok ws n fit)
    ∙ ap (packed_of k 2)
    (is_tab (m * w) (blocks w (result_at k signs mode a b c)) (unpacked_of k 2 ws) 0 size
    (λ x l. ap (λ (z : ℕ). get_or (unpacked_of k 2 ws) z 0) (sym (div-add-mod' x w)) ∙ at (x / w) (x % w) ((div-lt_iff_lt-mul some).1 l) (mod-lt x some)))

-- 'integer step': 'D at (r, c) is C at (r, c) plus the sum over k of A(r, k) times B(k, c)', read by the sign selector. A, B, C and D are warp
-- buffers; entryIn is the entry of a buffer's matrix.
module _ (k signs : ℕ) (known : Arithmetic k) (integers : Says (integer k)) (signs_le : signs ≤ 3) (a b c : List ℕ) (row column : ℕ)
    (hr : row < rows_at k 2) (hc : column < columns_at k 2) where
  ready : (mode : ℕ) → mode ≤ 1 → Ready k signs mode
  ready mode h = record { of = known; signs_le = signs_le; mode_le = h; plain = λ e. absurd (omega (arith, e, integers)) }

  integer_is : (mode : ℕ)
      → result_at k signs mode a b c row column ≡ cell_of mode (entry_in k 2 c row column) (products k signs a b row column)
  unfolding result_at added
  integer_is mode = simp (not_one_bit k integers)

  entry_is : (mode : ℕ) → mode ≤ 1
      → entry_in k 2 (stepped k signs mode a b c) row column ≡ cell_of mode (entry_in k 2 c row column) (products k signs a b row column)
  entry_is mode h = steps.result_at_lem k signs mode (ready mode h) a b c row column hr hc ∙ integer_is mode

  -- 'Mode 0 wraps the exact result to 32 bits': D's signed number differs from the exact result by a multiple of 2^32.
  pub integer_wrapped : Wraps
      (int32 (entry_in k 2 (stepped k signs 0 a b c) row column))
      (int32 (entry_in k 2 c row column)
      +ℤ sum_z (depth k) (λ j. value (unsigned_a signs) (sign_weight k) (entry_in k 0 a row j) *ℤ value (unsigned_b signs) (sign_weight k) (entry_in k 1 b j column)))
  unfolding products
  integer_wrapped =
      subst (λ (w : ℕ). Wraps (int32 w) (int32 (entry_in k 2 c row column) +ℤ products k signs a b row column)) (sym (entry_is 0 (omega arith)))
      (steps.wrapped (entry_in k 2 c row column) (products k signs a b row column))

  -- and no other 32-bit word's does.
  pub integer_wrapped_only : (w : ℕ) → w < 2 ^ 32
      → Wraps
      (int32 w)
      (int32 (entry_in k 2 c row column)
      +ℤ sum_z (depth k) (λ j. value (unsigned_a signs) (sign_weight k) (entry_in k 0 a row j) *ℤ value (unsigned_b signs) (sign_weight k) (entry_in k 1 b j column)))
      → w ≡ entry_in k 2 (stepped k signs 0 a b c) row column
  unfolding products
  integer_wrapped_only w l h = steps.wrapped_only (entry_in k 2 c row column) w (products k signs a b row column) l h ∙ sym (entry_is 0 (omega arith))

  -- 'mode 1 clamps it once, at the end'
  pub integer_clamped :
      int32 (entry_in k 2 (stepped k signs 1 a b c) row column)
      ≡ clamp
      (int32 (entry_in k 2 c row column)
      +ℤ sum_z (depth k) (λ j. value (unsigned_a signs) (sign_weight k) (entry_in k 0 a row j) *ℤ value (unsigned_b signs) (sign_weight k) (entry_in k 1 b j column)))
  unfolding products
  integer_clamped = ap int32 (entry_is 1 (omega arith)) ∙ steps.clamped (entry_in k 2 c row column) (products k signs a b row column)

-- 'or one-bit step': 'In kind 1 mode 0 is xor, mode 1 is and: D is C plus the count of ones among the K combined bits, and it wraps.'
-- Document 02, K5: '13 and 14 take modes and signs as kind 1 does.'
module _ (k mode : ℕ) (known : Arithmetic k) (bit : Says (one_bit k)) (mode_le : mode ≤ 1) (a b c : List ℕ) (row column : ℕ) (hr : row < rows_at k 2) (hc : column < columns_at k 2) where
  bit_entry_is : entry_in k 2 (stepped k 0 mode a b c) row column ≡ cell_of 0 (entry_in k 2 c row column) (pos (ones_in (combined_bits k mode a b row column)))
  bit_entry_is = steps.result_at_lem k 0 mode (record { of = known; signs_le = omega arith; mode_le = mode_le; plain = λ e. refl }) a b c row column hr hc ∙ result_is k known bit mode a b c row column

  pub one_bit_wrapped : Wraps
      (int32 (entry_in k 2 (stepped k 0 mode a b c) row column))
      (int32 (entry_in k 2 c row column) +ℤ pos (ones_in (tab (depth k) (λ j. combine mode (entry_in k 0 a row j) (entry_in k 1 b j column)))))
  unfolding combined_bits
  one_bit_wrapped =
      subst (λ (w : ℕ). Wraps (int32 w) (int32 (entry_in k 2 c row column) +ℤ pos (ones_in (combined_bits k mode a b row column)))) (sym bit_entry_is)
      (steps.wrapped (entry_in k 2 c row column) (pos (ones_in (combined_bits k mode a b row column))))

  pub one_bit_wrapped_only : (w : ℕ) → w < 2 ^ 32
      → Wraps (int32 w) (int32 (entry_in k 2 c row column) +ℤ pos (ones_in (tab (depth k) (λ j. combine mode (entry_in k 0 a row j) (entry_in k 1 b j column)))))
      → w ≡ entry_in k 2 (stepped k 0 mode a b c) row column
  unfolding combined_bits
  one_bit_wrapped_only w l h = steps.wrapped_only (entry_in k 2 c row column) w (pos (ones_in (combined_bits k mode a b row column))) l h ∙ sym bit_entry_is

-- Each count lies in 0 to K,
pub count_le : (k mode : ℕ) (a b : List ℕ) (row column : ℕ)
    → ones_in (tab (depth k) (λ j. combine mode (entry_in k 0 a row j) (entry_in k 1 b j column))) ≤ depth k
count_le k mode a b row column = ones_le (depth k) (λ j. combine mode (entry_in k 0 a row j) (entry_in k 1 b j column))

-- which is 128 in kind 1. Document 02, K5: '11, m8n8k16 int8', '12, m8n8k32 int4', '13, m16n8k128 one-bit', '14, m16n8k256 one-bit'.
pub depths : (depth 1 ≡ 128) × (depth 11 ≡ 16) × (depth 12 ≡ 32) × (depth 13 ≡ 128) × (depth 14 ≡ 256)
depths = (refl, refl, refl, refl, refl)

-- 'Two accepted steps that agree in these agree in row r of D: no boat reaches another boat's row.'
pub own_row : (k signs mode row : ℕ) (a a' b b' c c' : List ℕ)
    → ((j : ℕ) → j < depth k → entry_in k 0 a row j ≡ entry_in k 0 a' row j)
    → ((j column : ℕ) → j < depth k → column < columns_at k 2 → entry_in k 1 b j column ≡ entry_in k 1 b' j column)
    → ((column : ℕ) → column < columns_at k 2 → entry_in k 2 c row column ≡ entry_in k 2 c' row column)
    → (d : List ℕ) → step_answer k signs mode (length a) (length b) (length c) (length d) ≡ given tt → row < rows_at k 2
    → (column : ℕ) → column < columns_at k 2
    → entry_in k 2 (stepped k signs mode a b c) row column ≡ entry_in k 2 (stepped k signs mode a' b' c') row column
own_row k signs mode row a a' b b' c c' same-a same-b same-c d e hr column hc =
    steps.own_row k signs mode row a a' b b' c c' same-a same-b same-c (length a) (length b) (length c) (length d) e hr column hc
