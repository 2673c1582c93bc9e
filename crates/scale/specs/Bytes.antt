-- Document 01, 'Scale bytes'. Assumes nothing.
use Rattle.std.specs.Prelude.{ℕ, ◌+◌, ◌*◌, ◌/◌, ◌%◌, ◌^◌, Bool, ◌||◌, List, [], ◌∷◌, ◌++◌, map, get_or, ℤ, if◌then◌else◌}
use Rattle.std.proofs.Math.IntN.{sub_ℕ}
use Rattle.laws.specs.Choice.{◌=?◌}
use Rattle.laws.specs.Lists.{tab}
use Rattle.answers.specs.Tests.{Test, is, reaches, either, both}
use Rattle.kinds.specs.Kinds.{lanes}

-- Legal sizes are 1, 2 and 4; side 0 is A, 1 is B.
abbrev pub legal_size : ℕ → Test
legal_size size = either (either (is size 1) (is size 2)) (is size 4)

abbrev pub legal_side : ℕ → Test
legal_side side = either (is side 0) (is side 1)

-- Legal byte-id: 0 to 3 for size 1; 0 or 2 for size 2; 0 for size 4.
abbrev pub legal_byte_id : (size byteId : ℕ) → Test
legal_byte_id size byteId =
    either
    (either (both (is size 1) (reaches 3 byteId)) (both (is size 2) (either (is byteId 0) (is byteId 2))))
    (both (is size 4) (is byteId 0))

-- Legal thread-id: 0 or 1 on side A, 0 to 3 on side B.
abbrev pub legal_thread_id : (side threadId : ℕ) → Test
legal_thread_id side threadId = either (both (is side 0) (reaches 1 threadId)) (both (is side 1) (reaches 3 threadId))

-- Side A takes the lanes with t = 0 or 1 (thread-id 0), or t = 2 or 3 (thread-id 1); side B those with t = thread-id.
abbrev pub takes : (side threadId lane : ℕ) → Bool
takes side threadId lane =
    if side =? 0
    then (if threadId =? 0 then lane % 4 =? 0 || lane % 4 =? 1 else lane % 4 =? 2 || lane % 4 =? 3)
    else lane % 4 =? threadId

-- those of a list that a test takes, in the list's order
abbrev pub taken : (ℕ → Bool) → List ℕ → List ℕ
taken test [] = []
taken test (x ∷ xs) = if test x then x ∷ taken test xs else taken test xs

-- the chosen lanes, ascending
unfoldable pub chosen_lanes : (side threadId : ℕ) → List ℕ
chosen_lanes side threadId = taken (takes side threadId) (tab lanes (λ lane. lane))

-- byte b of a word, the low byte being byte 0
abbrev pub byte_of : (word b : ℕ) → ℕ
byte_of word b = word / 2 ^ (8 * b) % 256

-- From each chosen lane come the `size` bytes starting at byte-id, low first.
abbrev pub bytes_from : (size byteId : ℕ) → List ℕ → (chosen : List ℕ) → List ℕ
bytes_from size byteId metadata [] = []
bytes_from size byteId metadata (lane ∷ rest) = tab size (λ j. byte_of (get_or metadata lane 0) (byteId + j)) ++ bytes_from size byteId metadata rest

unfoldable pub chosen_bytes : (size side byteId threadId : ℕ) → List ℕ → List ℕ
chosen_bytes size side byteId threadId metadata = bytes_from size byteId metadata (chosen_lanes side threadId)

-- Each byte b is written as a signed exponent b - 127.
abbrev pub exponent : ℕ → ℤ
exponent b = sub_ℕ b 127

unfoldable pub scaled : (size side byteId threadId : ℕ) → List ℕ → List ℤ
scaled size side byteId threadId metadata = map exponent (chosen_bytes size side byteId threadId metadata)

-- 32 metadata words; output: 16 times size numbers on side A, 8 times size on side B.
abbrev pub metadata_length : ℕ
metadata_length = lanes

abbrev pub output_length : (size side : ℕ) → ℕ
output_length size side = (if side =? 0 then 16 else 8) * size
