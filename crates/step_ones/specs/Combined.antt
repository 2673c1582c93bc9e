-- The ones as the code counts them: pair by pair of words, a row of A beside the columns of B. The crate step_work ties them to document 01's
-- combined bits. Assumes nothing.
use Rattle.std.specs.Prelude.{ℕ, ◌+◌, ◌*◌, ◌/◌, ◌%◌, ◌^◌, ◌<◌, ◌≡◌, List, get_or, pos}
use Rattle.laws.specs.Bits.{combine, ones_in}
use Rattle.laws.specs.Fields.{joined}
use Rattle.laws.specs.Lists.{tab, blocks}
use Rattle.kinds.specs.Kinds.{lanes}
use Rattle.kinds.specs.Rule.{lane_of, element_of, major, minor}
use Rattle.step_limit.specs.Limits.{cell_of}

-- where word q of a row or a column stands in a warp buffer: by the rule again, one word side by side; and the words line by line
abbrev pub word_at : (spans halves x q : ℕ) → ℕ
word_at spans halves x q = lane_of 1 x q * (spans * halves) + element_of 1 halves x q

unfoldable pub lines_of : (spans halves : ℕ) → List ℕ → List ℕ
lines_of spans halves ws = tab (halves * 8 * (spans * 4)) (blocks (spans * 4) (λ x q. get_or ws (word_at spans halves x q) 0))

-- bit k of the words from i on, and of a column of a warp buffer
abbrev pub bit_in : List ℕ → (i k : ℕ) → ℕ
bit_in x i k = get_or x (i + k / 32) 0 / 2 ^ (k % 32) % 2

abbrev pub bit_of : (spans : ℕ) → List ℕ → (column k : ℕ) → ℕ
bit_of spans b column k = get_or b (word_at spans 1 column (k / 32)) 0 / 2 ^ (k % 32) % 2

-- the combined bits of a row in lines and a column
unfoldable pub bits_of : (spans mode : ℕ) → (x b : List ℕ) → (row column : ℕ) → List ℕ
bits_of spans mode x b row column = tab (64 * (spans * 2)) (λ k. combine mode (bit_in x (row * (spans * 4)) k) (bit_of spans b column k))

-- the words of D, of which a lane has a pair for each half
unfoldable pub ones_word : (spans halves mode : ℕ) → (x b c : List ℕ) → (lane i : ℕ) → ℕ
ones_word spans halves mode x b c lane i =
    cell_of 0 (get_or c (lane * (2 * halves) + i) 0) (pos (ones_in (bits_of spans mode x b (major 2 halves lane i) (minor 2 halves lane i))))

unfoldable pub ones_words : (spans halves mode : ℕ) → (x b c : List ℕ) → List ℕ
ones_words spans halves mode x b c = tab (lanes * (2 * halves)) (blocks (2 * halves) (ones_word spans halves mode x b c))

-- two words as one number, of a line and of a column; the pairs of B stand by their number in the column
abbrev pub pair_at : List ℕ → (i : ℕ) → ℕ
pair_at x i = joined 32 2 (λ k. get_or x (i + k) 0)

abbrev pub pair_of : (spans : ℕ) → List ℕ → (column q : ℕ) → ℕ
pair_of spans b column q = joined 32 2 (λ k. get_or b (word_at spans 1 column (2 * q + k)) 0)

pub record Paired (spans : ℕ) (b y : List ℕ) : Type 0 where
  pub at : (q column : ℕ) → q < spans * 2 → column < 8 → get_or y (q * 8 + column) 0 ≡ pair_of spans b column q

-- the combined bits of n pairs from i on and n pairs of a column; their ones, which stand by row and column
unfoldable pub down_bits : (mode n : ℕ) → (x y : List ℕ) → (i column : ℕ) → List ℕ
down_bits mode n x y i column = tab (64 * n) (λ k. combine mode (bit_in x i k) (get_or y (k / 64 * 8 + column) 0 / 2 ^ (k % 64) % 2))

abbrev pub ones_of : (spans mode : ℕ) → (x y : List ℕ) → (row column : ℕ) → ℕ
ones_of spans mode x y row column = ones_in (down_bits mode (spans * 2) x y (row * (spans * 4)) column)

pub record Summed (spans halves mode : ℕ) (x y s : List ℕ) : Type 0 where
  pub at : (row column : ℕ) → row < halves * 8 → column < 8 → get_or s (row * 8 + column) 0 ≡ ones_of spans mode x y row column

abbrev pub place_at : (halves lane i : ℕ) → ℕ
place_at halves lane i = major 2 halves lane i * 8 + minor 2 halves lane i

unfoldable pub sums_words : (halves : ℕ) → (s c : List ℕ) → List ℕ
sums_words halves s c =
    tab (lanes * (2 * halves)) (blocks (2 * halves) (λ lane i. cell_of 0 (get_or c (lane * (2 * halves) + i) 0) (pos (get_or s (place_at halves lane i) 0))))
