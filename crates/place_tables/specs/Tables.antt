-- Document 02, K10: for kind 5's A the lookup is a table, and its reverse likewise. Assumes nothing.
use Rattle.std.specs.Prelude.{ℕ, ◌+◌, ◌*◌, ◌/◌, ◌%◌, List}
use Rattle.laws.specs.Lists.{tab}
use Rattle.kinds.specs.Kinds.{kind5}
use Rattle.kinds.specs.Places.{place_a}

-- a constant table of 1,024 entries: 32 lanes of 32 elements, 16 rows of 64 columns
abbrev pub entries : ℕ
entries = 1024

-- two numbers in one entry: 64 times row plus column, 32 times lane plus element
abbrev pub joined : (times : ℕ) → ℕ × ℕ → ℕ
joined times x = times * x.0 + x.1

-- by lane and element, entry 32 · lane + element: where document 01's clause of kind 5's A places it
abbrev pub place_entry : (n : ℕ) → ℕ
place_entry n = joined 64 (place_a kind5 (n / 32 / 4) (n / 32 % 4) (n % 32))

-- its reverse, by row and column, entry 64 · row + column: lane and element by the one rule, with p = 8 and h = 2
abbrev pub holder_at : (row column : ℕ) → ℕ × ℕ
holder_at row column = (row % 8 * 4 + column / 8 % 4, (column / 8 / 4 * 2 + row / 8) * 8 + column % 8)

abbrev pub holder_entry : (n : ℕ) → ℕ
holder_entry n = joined 32 (holder_at (n / 64) (n % 64))

-- the lists that these rules give
unfoldable pub place_table : List ℕ
place_table = tab entries place_entry

unfoldable pub holder_table : List ℕ
holder_table = tab entries holder_entry
