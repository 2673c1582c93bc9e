-- Document 01, 'Where an element sits', and document 02, K5 and K9: g is lane divided by 4, t is lane mod 4, i the element number from 0. Each
-- clause is (row, column). Assumes nothing.
use Rattle.std.specs.Prelude.{ℕ, ◌+◌, ◌*◌, ◌/◌, ◌%◌, ◌&&◌, ◌||◌, if◌then◌else◌}
use Rattle.laws.specs.Choice.{◌<?◌, ◌≤?◌, ◌=?◌}
use Rattle.kinds.specs.Kinds.{KnownKind, kind1, kind2, kind3, kind4, kind5, kind6, kind7, kind8, kind9, kind10, kind11, kind12, kind13, kind14, KnownRole, role_a, role_b, role_c, word_bits}

-- A (row; column)
abbrev pub place_a : KnownKind → (g t i : ℕ) → ℕ × ℕ
place_a kind1 g t i = (g, 32 * t + i)
place_a kind2 g t i = (if i <? 4 then g else g + 8, 4 * t + i % 4)
place_a kind3 g t i = (if i <? 4 || 8 ≤? i && i <? 12 then g else g + 8, 4 * t + i % 4 + (if 8 ≤? i then 16 else 0))
place_a kind4 g t i = (if i <? 8 then g else g + 8, 8 * t + i % 8)
place_a kind5 g t i = (if i <? 8 || 16 ≤? i && i <? 24 then g else g + 8, 8 * t + i % 8 + (if 16 ≤? i then 32 else 0))
place_a kind6 g t i = (if i <? 2 then g else g + 8, 2 * t + i % 2)
place_a kind7 g t i = (if i <? 2 then g else g + 8, 2 * t + i % 2)
place_a kind8 g t i = (if i % 2 =? 0 then g else g + 8, if i <? 2 then t else t + 4)
place_a kind9 g t i = (if i % 2 =? 0 then g else g + 8, if i <? 2 then t else t + 4)
place_a kind10 g t i = (g, t)
place_a kind11 g t i = (g, 4 * t + i)
place_a kind12 g t i = (g, 8 * t + i)
place_a kind13 g t i = (if i <? 32 then g else g + 8, 32 * t + i % 32)
place_a kind14 g t i = (if i <? 32 || 64 ≤? i && i <? 96 then g else g + 8, 32 * t + i % 32 + (if 64 ≤? i then 128 else 0))

-- B (column is always g; row)
abbrev pub row_b : KnownKind → (t i : ℕ) → ℕ
row_b kind1 t i = 32 * t + i
row_b kind2 t i = 4 * t + i
row_b kind3 t i = 4 * t + i % 4 + (if 4 ≤? i then 16 else 0)
row_b kind4 t i = 8 * t + i
row_b kind5 t i = 8 * t + i % 8 + (if 8 ≤? i then 32 else 0)
row_b kind6 t i = 2 * t + i
row_b kind7 t i = 2 * t + i
row_b kind8 t i = t + 4 * i
row_b kind9 t i = t + 4 * i
row_b kind10 t i = t
row_b kind11 t i = 4 * t + i
row_b kind12 t i = 8 * t + i
row_b kind13 t i = 32 * t + i
row_b kind14 t i = 32 * t + i % 32 + (if 32 ≤? i then 128 else 0)

-- C/D: kinds 1 and 10, and all others; K5: as kind 1 for 11 and 12, as kind 2 for 13 and 14
abbrev pub narrow_c : (g t i : ℕ) → ℕ × ℕ
narrow_c g t i = (g, 2 * t + i)

abbrev pub wide_c : (g t i : ℕ) → ℕ × ℕ
wide_c g t i = (if i <? 2 then g else g + 8, 2 * t + i % 2)

abbrev pub place_c : KnownKind → (g t i : ℕ) → ℕ × ℕ
place_c kind1 = narrow_c
place_c kind2 = wide_c
place_c kind3 = wide_c
place_c kind4 = wide_c
place_c kind5 = wide_c
place_c kind6 = wide_c
place_c kind7 = wide_c
place_c kind8 = wide_c
place_c kind9 = wide_c
place_c kind10 = narrow_c
place_c kind11 = narrow_c
place_c kind12 = narrow_c
place_c kind13 = wide_c
place_c kind14 = wide_c

-- the row and the column of element i of a lane
unfoldable pub place_of : KnownKind → KnownRole → (lane i : ℕ) → ℕ × ℕ
place_of κ role_a lane i = place_a κ (lane / 4) (lane % 4) i
place_of κ role_b lane i = (row_b κ (lane % 4) i, lane / 4)
place_of κ role_c lane i = place_c κ (lane / 4) (lane % 4) i

-- K9: the word within the lane and the lowest bit in that word. Elements fill a word from its low bits up, then the next word; so for a
-- 64-bit element that is the low word, bit 0.
unfoldable pub word_within : (bits i : ℕ) → ℕ
word_within bits i = i * bits / word_bits

unfoldable pub lowest_bit : (bits i : ℕ) → ℕ
lowest_bit bits i = i * bits % word_bits

-- the word and the bit in which bit o of an element stands; and back, the element whose bit stands there, and which of its bits it is
abbrev pub stands_at : (bits i o : ℕ) → ℕ × ℕ
stands_at bits i o = (word_within bits i + (lowest_bit bits i + o) / word_bits, (lowest_bit bits i + o) % word_bits)

abbrev pub whose_bit : (bits word bit : ℕ) → ℕ × ℕ
whose_bit bits word bit = ((word * word_bits + bit) / bits, (word * word_bits + bit) % bits)

-- K9: the place of an element is four numbers: row, column, word within the lane, lowest bit in that word.
abbrev pub Place : Type 0
Place = ℕ × ℕ × ℕ × ℕ

abbrev pub with_word_and_bit : (bits i : ℕ) → (row-column : ℕ × ℕ) → Place
with_word_and_bit bits i x = (x.0, x.1, word_within bits i, lowest_bit bits i)
