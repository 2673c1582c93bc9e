-- A stretch of a lane: the elements that one word holds, or one element that takes a word or two. Its places follow one another, and the
-- four lanes of a quad have theirs in one line; so buffers are filled stretch by stretch, quad by quad. For the workers. Assumes nothing.
use Rattle.std.specs.Prelude.{ℕ, ◌+◌, ◌*◌, Bool, true, false, if◌then◌else◌}
use Rattle.laws.specs.Choice.{◌<?◌, ◌=?◌}
use Rattle.laws.specs.Toward.{Below, At}
use Rattle.kinds.specs.Kinds.{word_bits}
use Rattle.kinds.specs.Rule.{Layout, columns_of, place_in}
use Rattle.buffers.specs.Buffers.{index}

-- the elements of a stretch, the stretches side by side, and those of a lane
abbrev pub size_of : Layout → ℕ
size_of f = if f.bits <? word_bits then f.side else 1

abbrev pub abreast_in : Layout → ℕ
abreast_in f = if f.bits <? word_bits then 1 else f.side

abbrev pub stretches_of : Layout → ℕ
stretches_of f = f.spans * f.halves * abreast_in f

-- the words that hold one, by the bits of an element
abbrev pub holding : ℕ → ℕ
holding b = if b =? 64 then 2 else 1

abbrev pub holding_of : Layout → ℕ
holding_of f = holding f.bits

-- the index of an element's place in the matrix
abbrev pub place_at : Layout → (lane i : ℕ) → ℕ
place_at f lane i = index (columns_of f) (place_in f lane i)

-- the indices of a stretch of n elements in the matrix: of a lane's, and of a quad's
abbrev pub OfLane : Layout → (n stretch lane : ℕ) → ℕ → Type 0
OfLane f n r lane = Below n (λ j. At (place_at f lane (r * n + j)))

abbrev pub OfQuad : Layout → (n stretch quad : ℕ) → ℕ → Type 0
OfQuad f n r quad = Below 4 (λ t. OfLane f n r (quad * 4 + t))

-- the indices of the n words that hold one in the warp buffer
abbrev pub WordsOfLane : Layout → (n stretch lane : ℕ) → ℕ → Type 0
WordsOfLane f n r lane = Below n (λ k. At (lane * f.words + (r * n + k)))

abbrev pub WordsOfQuad : Layout → (n stretch quad : ℕ) → ℕ → Type 0
WordsOfQuad f n r quad = Below 4 (λ t. WordsOfLane f n r (quad * 4 + t))

-- the step in a matrix buffer from a minor number to the next
abbrev pub step_of : (turned : Bool) → (columns : ℕ) → ℕ
step_of false columns = 1
step_of true columns = columns

-- what the lanes of a quad have, and those of every quad
abbrev pub LanesOf : ((lane : ℕ) → ℕ → Type 0) → (quad : ℕ) → ℕ → Type 0
LanesOf P q = Below 4 (λ t. P (q * 4 + t))

abbrev pub EveryLane : ((lane : ℕ) → ℕ → Type 0) → ℕ → Type 0
EveryLane P = Below 8 (LanesOf P)
