-- Document 01, 'Kinds', and document 02, K9: what stands in a warp buffer and in a matrix buffer. Assumes nothing.
use Rattle.std.specs.Prelude.{ℕ, ◌+◌, ◌*◌, ◌^◌, ◌<◌, List, length, get_or, if◌then◌else◌}
use Rattle.laws.specs.Choice.{◌=?◌}
use Rattle.laws.specs.Fields.{bits_from, joined}
use Rattle.laws.specs.Lists.{tab, blocks}
use Rattle.kinds.specs.Kinds.{lanes, word_bits, entry_of, role_of, bits_at, columns_at, rows_at, words_at}
use Rattle.kinds.specs.Places.{word_within, lowest_bit, whose_bit}
use Rattle.kinds.specs.Rule.{Layout, layout_of, rows_of, columns_of, place_in, holder_of}

-- A warp buffer holds lane 0's words, then lane 1's, and so on. What an element stands in: a word, or of 64 bits two, low half first.
abbrev pub words_from : (bits : ℕ) → List ℕ → (n : ℕ) → ℕ
words_from bits ws n = if bits =? 64 then get_or ws (n + 1) 0 * 2 ^ word_bits + get_or ws n 0 else get_or ws n 0

-- K9: the bits from a bit of a word of a lane up, and an element, which is those from its lowest bit of its word up
unfoldable pub held_at : (bits words : ℕ) → List ℕ → (lane word bit : ℕ) → ℕ
held_at bits words ws lane word bit = bits_from bits bit (words_from bits ws (lane * words + word))

unfoldable pub element_at : (bits words : ℕ) → List ℕ → (lane i : ℕ) → ℕ
element_at bits words ws lane i = held_at bits words ws lane (word_within bits i) (lowest_bit bits i)

-- A matrix buffer is row-major, one number an element, holding its bit pattern.
abbrev pub index : (columns : ℕ) → ℕ × ℕ → ℕ
index columns x = x.0 * columns + x.1

-- every entry fits so many bits
abbrev pub Fitting : (bits : ℕ) → List ℕ → Type 0
Fitting b m = (x : ℕ) → x < length m → get_or m x 0 < 2 ^ b

-- Unpacking: the entry at a row and a column is the element whose place it is.
unfoldable pub entry_at : Layout → List ℕ → (row column : ℕ) → ℕ
entry_at f ws row column = element_at f.bits f.words ws (holder_of f (row, column)).0 (holder_of f (row, column)).1

unfoldable pub unpacked : Layout → List ℕ → List ℕ
unpacked f ws = tab (rows_of f * columns_of f) (blocks (columns_of f) (entry_at f ws))

-- Packing: each bit of a word is a bit of one element, whose pattern is the entry at its place.
unfoldable pub word_at : Layout → List ℕ → (lane k : ℕ) → ℕ
word_at f m lane k =
    joined 1 word_bits
    (λ b. bits_from 1 (whose_bit f.bits k b).1 (get_or m (index (columns_of f) (place_in f lane (whose_bit f.bits k b).0)) 0))

unfoldable pub packed : Layout → List ℕ → List ℕ
packed f m = tab (lanes * f.words) (blocks f.words (word_at f m))

-- the same of a kind and a role
abbrev pub held_in : (kind role : ℕ) → List ℕ → (lane word bit : ℕ) → ℕ
held_in k r ws lane word bit = held_at (bits_at k r) (words_at k r) ws lane word bit

abbrev pub element_in : (kind role : ℕ) → List ℕ → (lane i : ℕ) → ℕ
element_in k r ws lane i = element_at (bits_at k r) (words_at k r) ws lane i

abbrev pub unpacked_of : (kind role : ℕ) → List ℕ → List ℕ
unpacked_of k r ws = unpacked (layout_of (entry_of k) (role_of r)) ws

abbrev pub packed_of : (kind role : ℕ) → List ℕ → List ℕ
packed_of k r m = packed (layout_of (entry_of k) (role_of r)) m

-- the lengths that a kind and a role need
abbrev pub words_needed : (kind role : ℕ) → ℕ
words_needed k r = lanes * words_at k r

abbrev pub entries_needed : (kind role : ℕ) → ℕ
entries_needed k r = rows_at k r * columns_at k r
