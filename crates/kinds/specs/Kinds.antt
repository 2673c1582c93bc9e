-- Document 01, 'Kinds', and document 02, K5. Assumes nothing.
use Rattle.std.specs.Prelude.{ℕ, ◌-◌, ◌*◌, ◌/◌, ◌≤◌, List, [], ◌∷◌, get_or}
use Rattle.answers.specs.Tests.{Test, is, within, Says}
use Rattle.kinds.specs.declared.Format.{Format}
use Rattle.kinds.specs.declared.Format.TheVariants.{OneBit, Int8, Int4, F16, F16Sums, Tf32, F64}
use Rattle.kinds.specs.declared.Entry.{Entry}

-- A warp has 32 lanes, a quad 4 lanes.
abbrev pub lanes : ℕ
lanes = 32

-- Words are 32-bit.
abbrev pub word_bits : ℕ
word_bits = 32

-- The kinds are 1 to 14.
abbrev pub kinds : ℕ
kinds = 14

pub data KnownKind : Type 0 where
  kind1 kind2 kind3 kind4 kind5 kind6 kind7 kind8 kind9 kind10 kind11 kind12 kind13 kind14 : KnownKind

abbrev pub known_kinds : List KnownKind
known_kinds = kind1 ∷ kind2 ∷ kind3 ∷ kind4 ∷ kind5 ∷ kind6 ∷ kind7 ∷ kind8 ∷ kind9 ∷ kind10 ∷ kind11 ∷ kind12 ∷ kind13 ∷ kind14 ∷ []

abbrev pub kind_of : ℕ → KnownKind
kind_of k = get_or known_kinds (k - 1) kind1

-- Roles: 0 is A, 1 is B, 2 is C or D.
abbrev pub roles : ℕ
roles = 3

pub data KnownRole : Type 0 where
  role_a role_b role_c : KnownRole

abbrev pub role_of : ℕ → KnownRole
role_of r = get_or (role_a ∷ role_b ∷ role_c ∷ []) r role_a

-- What an element of A and B is, numbered: a bit, an integer, a float, in this order.
abbrev pub rank : Format → ℕ
rank OneBit = 1
rank Int8 = 2
rank Int4 = 3
rank F16 = 4
rank F16Sums = 5
rank Tf32 = 6
rank F64 = 7

abbrev pub one_bit_element : ℕ
one_bit_element = rank OneBit

abbrev pub int8_element : ℕ
int8_element = rank Int8

abbrev pub int4_element : ℕ
int4_element = rank Int4

abbrev pub one_bit_format : Format → Test
one_bit_format f = is (rank f) one_bit_element

abbrev pub arithmetic_format : Format → Test
arithmetic_format f = within (rank f) one_bit_element int4_element

-- m, n, k of the shape and the element; bits of an A or B element; words per lane of A, of B, of C or D
abbrev pub line : (m n k : ℕ) → Format → (bits a b c : ℕ) → Entry
line m n k element bits a b c = record { m = m; n = n; k = k; bits = bits; element = element; a = a; b = b; c = c }

-- The table, a line a kind.
abbrev pub table : List Entry
table =
    line 8 8 128 OneBit 1 1 1 2
    ∷ line 16 8 16 Int8 8 2 1 4
    ∷ line 16 8 32 Int8 8 4 2 4
    ∷ line 16 8 32 Int4 4 2 1 4
    ∷ line 16 8 64 Int4 4 4 2 4
    ∷ line 16 8 8 F16 16 2 1 4
    ∷ line 16 8 8 F16Sums 16 2 1 2
    ∷ line 16 8 8 Tf32 32 4 2 4
    ∷ line 16 8 8 F64 64 8 4 8
    ∷ line 8 8 4 F64 64 2 2 4
    ∷ line 8 8 16 Int8 8 1 1 2
    ∷ line 8 8 32 Int4 4 1 1 2
    ∷ line 16 8 128 OneBit 1 2 1 4
    ∷ line 16 8 256 OneBit 1 4 2 4
    ∷ []

-- C/D elements have 32 bits, except 16 in kind 7 and 64 in kinds 9 and 10.
abbrev pub sum_bits : Format → ℕ
sum_bits OneBit = 32
sum_bits Int8 = 32
sum_bits Int4 = 32
sum_bits F16 = 32
sum_bits F16Sums = 16
sum_bits Tf32 = 32
sum_bits F64 = 64

-- the line of a kind
abbrev pub line_at : ℕ → Entry
line_at j = get_or table j (line 0 0 0 Tf32 0 0 0 0)

abbrev pub entry_of : ℕ → Entry
entry_of k = line_at (k - 1)

-- Kinds 1, 13 and 14 are one-bit, kinds 2 to 5, 11 and 12 integer kinds; these are the arithmetic kinds.
abbrev pub one_bit : (kind : ℕ) → Test
one_bit k = one_bit_format (entry_of k).element

abbrev pub integer : (kind : ℕ) → Test
integer k = within (rank (entry_of k).element) int8_element int4_element

abbrev pub arithmetic : (kind : ℕ) → Test
arithmetic k = arithmetic_format (entry_of k).element

-- a kind that is arithmetic
pub record Arithmetic (k : ℕ) : Type 0 where
  pub low : 1 ≤ k
  pub high : k ≤ kinds
  pub is : Says (arithmetic k)

-- In mMnNkK, A is M by K, B is K by N, C and D are M by N.
abbrev pub rows : Entry → KnownRole → ℕ
rows e role_a = e.m
rows e role_b = e.k
rows e role_c = e.m

abbrev pub columns : Entry → KnownRole → ℕ
columns e role_a = e.k
columns e role_b = e.n
columns e role_c = e.n

abbrev pub bits : Entry → KnownRole → ℕ
bits e role_a = e.bits
bits e role_b = e.bits
bits e role_c = sum_bits e.element

abbrev pub words : Entry → KnownRole → ℕ
words e role_a = e.a
words e role_b = e.b
words e role_c = e.c

-- Elements fill a word from its low bits up, then the next word: so many elements has a lane.
abbrev pub elements : Entry → KnownRole → ℕ
elements e ρ = words e ρ * word_bits / bits e ρ

-- the same of a kind and a role by their numbers
abbrev pub rows_at : (kind role : ℕ) → ℕ
rows_at k r = rows (entry_of k) (role_of r)

abbrev pub columns_at : (kind role : ℕ) → ℕ
columns_at k r = columns (entry_of k) (role_of r)

abbrev pub bits_at : (kind role : ℕ) → ℕ
bits_at k r = bits (entry_of k) (role_of r)

abbrev pub words_at : (kind role : ℕ) → ℕ
words_at k r = words (entry_of k) (role_of r)

abbrev pub elements_at : (kind role : ℕ) → ℕ
elements_at k r = elements (entry_of k) (role_of r)

-- a kind and a role that are legal
pub record Legal (k r : ℕ) : Type 0 where
  pub low : 1 ≤ k
  pub high : k ≤ kinds
  pub role : r ≤ 2
