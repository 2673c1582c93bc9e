-- Document 02, K1: the step records that the card's logger writes; and K2: what refuses one. Assumes nothing.
use Rattle.std.specs.Prelude.{ℕ, ◌+◌, ◌*◌, ◌^◌, List, [], ◌∷◌, length, get_or, take, drop, if◌then◌else◌}
use Rattle.laws.specs.Lists.{tab}
use Rattle.answers.specs.Tests.{Test, is, differs, either, both, within, somewhere, holds}
use Rattle.answers.specs.Calls.{Line, ◌when◌, ◌then◌, Call}
use Rattle.kinds.specs.Kinds.{kinds, entry_of, arithmetic}
use Rattle.kinds.specs.declared.Entry.{Entry}
use Rattle.buffers.specs.Buffers.{words_needed}
use Rattle.step.specs.StepCalls.{selector_refusals}

-- Step records of 1,800 bytes, no header: kind, signs, mode,
abbrev pub record_bytes : ℕ
record_bytes = 1800

abbrev pub kind_in : (bytes : List ℕ) → ℕ
kind_in bytes = get_or bytes 0 0

abbrev pub signs_in : (bytes : List ℕ) → ℕ
signs_in bytes = get_or bytes 1 0

abbrev pub mode_in : (bytes : List ℕ) → ℕ
mode_in bytes = get_or bytes 2 0

-- five zero bytes, then A (512), B (256), C (512) and D (512),
abbrev pub reserved : (bytes : List ℕ) → List ℕ
reserved bytes = take 5 (drop 3 bytes)

pub data Part : Type 0 where
  part_a part_b part_c part_d : Part

abbrev pub bytes_of : Part → (bytes : List ℕ) → List ℕ
bytes_of part_a bytes = take 512 (drop 8 bytes)
bytes_of part_b bytes = take 256 (drop 520 bytes)
bytes_of part_c bytes = take 512 (drop 776 bytes)
bytes_of part_d bytes = take 512 (drop 1288 bytes)

-- little-endian words,
unfoldable pub word_at : (bytes : List ℕ) → (n : ℕ) → ℕ
word_at bytes n = get_or bytes (4 * n) 0 + get_or bytes (4 * n + 1) 0 * 2 ^ 8 + get_or bytes (4 * n + 2) 0 * 2 ^ 16 + get_or bytes (4 * n + 3) 0 * 2 ^ 24

unfoldable pub words_in : (count : ℕ) → (bytes : List ℕ) → List ℕ
words_in count bytes = tab count (word_at bytes)

-- unused tails zero. A part has the words that its kind needs, and behind them its tail.
abbrev pub role_in : Part → ℕ
role_in part_a = 0
role_in part_b = 1
role_in part_c = 2
role_in part_d = 2

abbrev pub words_used : Part → (bytes : List ℕ) → ℕ
words_used part bytes = words_needed (kind_in bytes) (role_in part)

unfoldable pub logged : Part → (bytes : List ℕ) → List ℕ
logged part bytes = words_in (words_used part bytes) (bytes_of part bytes)

abbrev pub tail : Part → (bytes : List ℕ) → List ℕ
tail part bytes = drop (4 * words_used part bytes) (bytes_of part bytes)

-- K2. 11: a reserved byte or unused tail not zero; tails are looked at only in arithmetic kinds.
abbrev pub not_zero : List ℕ → Test
not_zero bytes = somewhere (length bytes) (λ i. differs (get_or bytes i 0) 0)

abbrev pub stray_tail : (bytes : List ℕ) → Test
stray_tail bytes = either (not_zero (tail part_a bytes)) (either (not_zero (tail part_b bytes)) (either (not_zero (tail part_c bytes)) (not_zero (tail part_d bytes))))

abbrev pub of_arithmetic : (kind : ℕ) → Test
of_arithmetic kind = both (within kind 1 kinds) (arithmetic kind)

abbrev pub unused_not_zero : (bytes : List ℕ) → Test
unused_not_zero bytes = either (not_zero (reserved bytes)) (both (of_arithmetic (kind_in bytes)) (stray_tail bytes))

-- Mode byte 255 with signs 0 asks for the plain step: signs 0, mode 0.
abbrev pub asks_plain : (signs mode : ℕ) → Test
asks_plain signs mode = both (is signs 0) (is mode 255)

abbrev pub mode_for : (signs mode : ℕ) → ℕ
mode_for signs mode = if holds (asks_plain signs mode) then 0 else mode

abbrev pub mode_asked : (bytes : List ℕ) → ℕ
mode_asked bytes = mode_for (signs_in bytes) (mode_in bytes)

-- 11 comes before 1; the others keep 01's order.
abbrev pub record_refusals : (bytes : List ℕ) → List Line
record_refusals bytes = (11 when unused_not_zero bytes ∷ []) then selector_refusals (kind_in bytes) (signs_in bytes) (mode_asked bytes)

-- a record that is not refused gives its kind's line of the table
abbrev pub record_call : (bytes : List ℕ) → Call Entry
record_call bytes = record { refusals = record_refusals bytes; gives = entry_of (kind_in bytes) }
