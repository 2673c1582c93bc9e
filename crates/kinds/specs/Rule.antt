-- One rule for every kind and role, over p, the elements that stand side by side, and h, the halves of eight rows: lane and element
-- are digits, and so are the major and the minor number. For A, C and D the row is the major number and the column the minor one; for B
-- the other way round. proofs/Whole.antt ties it to document 01's rules. Its words:
--   side     p, how many elements of a lane stand side by side in a row, or in B in a column
--   halves   h, how many halves of eight rows the matrix has, or in B of eight columns
--   spans    how often the four lanes of a quad, side by side, fit into a row
--   major    the number that a quad has: the row, or in B the column
--   minor    the number that runs along a quad's lanes: the column, or in B the row
--   turned   the major number is the column
-- Assumes nothing.
use Rattle.std.specs.Prelude.{ℕ, ◌+◌, ◌*◌, ◌/◌, ◌%◌, Bool, true, false, if◌then◌else◌}
use Rattle.laws.specs.Choice.{◌<?◌}
use Rattle.kinds.specs.Kinds.{KnownRole, role_a, role_b, role_c, word_bits, bits, words}
use Rattle.kinds.specs.declared.Entry.{Entry}
use Rattle.kinds.specs.declared.Shape.{Shape}

-- how one kind and role lies in a warp
abbrev pub Layout : Type 0
Layout = Shape

-- lane and element to the major and the minor number
unfoldable pub major : (p h lane i : ℕ) → ℕ
major p h lane i = i / p % h * 8 + lane / 4

unfoldable pub minor : (p h lane i : ℕ) → ℕ
minor p h lane i = (i / p / h * 4 + lane % 4) * p + i % p

-- the major number x and the minor number y to lane and element
unfoldable pub lane_of : (p x y : ℕ) → ℕ
lane_of p x y = x % 8 * 4 + y / p % 4

unfoldable pub element_of : (p h x y : ℕ) → ℕ
element_of p h x y = (y / p / 4 * h + x / 8) * p + y % p

-- A and B elements stand side by side as many as a word holds, or one where an element takes two words.
abbrev pub side_of : ℕ → ℕ
side_of b = if b <? word_bits then word_bits / b else 1

-- a layout from its numbers, and from the major and minor numbers that its matrix has
abbrev pub shape : (bits words side halves spans : ℕ) → Bool → Layout
shape b w p h s t = record { bits = b; words = w; side = p; halves = h; spans = s; turned = t }

abbrev pub spread : (bits words side majors minors : ℕ) → Bool → Layout
spread b w p x y t = shape b w p (x / 8) (y / 4 / p) t

-- A is m by k, B is k by n, C is m by n, with C's elements in pairs; in B the major number is the column.
abbrev pub layout_of : Entry → KnownRole → Layout
layout_of e role_a = spread (bits e role_a) (words e role_a) (side_of e.bits) e.m e.k false
layout_of e role_b = spread (bits e role_b) (words e role_b) (side_of e.bits) e.n e.k true
layout_of e role_c = spread (bits e role_c) (words e role_c) 2 e.m e.n false

-- a lane's elements; the major and the minor numbers there are
abbrev pub elements_of : Layout → ℕ
elements_of f = f.spans * f.halves * f.side

abbrev pub majors : Layout → ℕ
majors f = f.halves * 8

abbrev pub minors : Layout → ℕ
minors f = f.spans * 4 * f.side

-- row and column from major and minor, and back
abbrev pub turn : Bool → ℕ × ℕ → ℕ × ℕ
turn false x = x
turn true x = (x.1, x.0)

-- the rows and columns of the matrix
abbrev pub rows_of : Layout → ℕ
rows_of f = (turn f.turned (majors f, minors f)).0

abbrev pub columns_of : Layout → ℕ
columns_of f = (turn f.turned (majors f, minors f)).1

abbrev pub place_in : Layout → (lane i : ℕ) → ℕ × ℕ
place_in f lane i = turn f.turned (major f.side f.halves lane i, minor f.side f.halves lane i)

abbrev pub holder_in : Layout → ℕ × ℕ → ℕ × ℕ
holder_in f x = (lane_of f.side x.0 x.1, element_of f.side f.halves x.0 x.1)

abbrev pub holder_of : Layout → ℕ × ℕ → ℕ × ℕ
holder_of f x = holder_in f (turn f.turned x)
