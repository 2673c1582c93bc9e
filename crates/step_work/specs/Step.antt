-- Document 01, 'One step', and document 02, K5: 13 and 14 take modes and signs as kind 1 does, and K12: where a step cuts off. Assumes nothing.
use Rattle.std.specs.Prelude.{ℕ, ◌*◌, ◌-◌, ◌^◌, Bool, ◌||◌, List, get_or, ℤ, pos, ◌*ℤ◌, if◌then◌else◌}
use Rattle.answers.specs.Tests.{holds}
use Rattle.laws.specs.Choice.{◌=?◌}
use Rattle.laws.specs.Bits.{combine, ones_in}
use Rattle.laws.specs.Integers.{value, sum_z}
use Rattle.laws.specs.Lists.{tab, blocks}
use Rattle.kinds.specs.Kinds.{entry_of, columns_at, rows_at, one_bit}
use Rattle.buffers.specs.Buffers.{index, unpacked_of, packed_of}
use Rattle.step_limit.specs.Limits.{cell_of, mark_of}

-- A, B, C and D in steps are warp buffers: the entry of a buffer's matrix at a row and a column.
unfoldable pub entry_in : (kind role : ℕ) → List ℕ → (row column : ℕ) → ℕ
entry_in kind role ws row column = get_or (unpacked_of kind role ws) (index (columns_at kind role) (row, column)) 0

-- K, and what the sign bit of an A or B element weighs
abbrev pub depth : (kind : ℕ) → ℕ
depth kind = (entry_of kind).k

abbrev pub sign_weight : (kind : ℕ) → ℕ
sign_weight kind = 2 ^ ((entry_of kind).bits - 1)

-- The sign selector: 0 both signed (two's complement), 1 A unsigned, 2 B unsigned, 3 both unsigned.
abbrev pub unsigned_a : (signs : ℕ) → Bool
unsigned_a signs = signs =? 1 || signs =? 3

abbrev pub unsigned_b : (signs : ℕ) → Bool
unsigned_b signs = signs =? 2 || signs =? 3

-- the sum over k of A(r, k) times B(k, c)
unfoldable pub products : (kind signs : ℕ) → (a b : List ℕ) → (row column : ℕ) → ℤ
products kind signs a b row column =
    sum_z (depth kind) (λ k. value (unsigned_a signs) (sign_weight kind) (entry_in kind 0 a row k) *ℤ value (unsigned_b signs) (sign_weight kind) (entry_in kind 1 b k column))

-- In the one-bit kinds mode 0 is xor, mode 1 is and: the K combined bits, of which the ones are counted.
unfoldable pub combined_bits : (kind mode : ℕ) → (a b : List ℕ) → (row column : ℕ) → List ℕ
combined_bits kind mode a b row column = tab (depth kind) (λ k. combine mode (entry_in kind 0 a row k) (entry_in kind 1 b k column))

-- what a block adds at a place
unfoldable pub added : (kind signs mode : ℕ) → (a b : List ℕ) → (row column : ℕ) → ℤ
added kind signs mode a b row column =
    if holds (one_bit kind) then pos (ones_in (combined_bits kind mode a b row column)) else products kind signs a b row column

-- The one-bit form wraps in both modes.
abbrev pub limit : (kind mode : ℕ) → ℕ
limit kind mode = if holds (one_bit kind) then 0 else mode

-- D at (r, c) is C at (r, c) plus what the block adds there.
unfoldable pub result_at : (kind signs mode : ℕ) → (a b c : List ℕ) → (row column : ℕ) → ℕ
result_at kind signs mode a b c row column = cell_of (limit kind mode) (entry_in kind 2 c row column) (added kind signs mode a b row column)

-- the words of D where its matrix has at (r, c) what `at` says
unfoldable pub words_d : (kind : ℕ) → (at : ℕ → ℕ → ℕ) → List ℕ
words_d kind at = packed_of kind 2 (tab (rows_at kind 2 * columns_at kind 2) (blocks (columns_at kind 2) at))

-- the words of D
unfoldable pub stepped : (kind signs mode : ℕ) → (a b c : List ℕ) → List ℕ
stepped kind signs mode a b c = words_d kind (result_at kind signs mode a b c)

-- Document 02, K12: 1 where the exact result at (r, c) lay outside 32 bits in mode 1 on an integer kind,
unfoldable pub cut_at : (kind signs mode : ℕ) → (a b c : List ℕ) → (row column : ℕ) → ℕ
cut_at kind signs mode a b c row column = mark_of (limit kind mode) (entry_in kind 2 c row column) (added kind signs mode a b row column)

-- and for each word of D, in word-buffer order.
unfoldable pub cuts : (kind signs mode : ℕ) → (a b c : List ℕ) → List ℕ
cuts kind signs mode a b c = words_d kind (cut_at kind signs mode a b c)
