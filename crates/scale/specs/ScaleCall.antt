-- Document 01, 'Refusal numbers': scale 8, 5; then 12, document 02, K4. In 8 the first of size, side, byte-id, thread-id; in 5 metadata, output; in
-- 12 the output index. Assumes nothing.
use Rattle.std.specs.Prelude.{ℕ, List, [], ◌∷◌, ℤ, length, get_or}
use Rattle.answers.specs.Tests.{Test, is, differs, unless}
use Rattle.answers.specs.Calls.{Line, ◌at◌when◌, ◌at_first_below◌when◌, ◌then◌, Call}
use Rattle.scale.specs.Bytes.{legal_size, legal_side, legal_byte_id, legal_thread_id, metadata_length, output_length, chosen_bytes, scaled}

-- by the selectors and the lengths of the two buffers
abbrev pub legal_refusals : (size side byteId threadId metadata output : ℕ) → List Line
legal_refusals size side byteId threadId metadata output =
    8 at 0 when unless (legal_size size)
    ∷ 8 at 1 when unless (legal_side side)
    ∷ 8 at 2 when unless (legal_byte_id size byteId)
    ∷ 8 at 3 when unless (legal_thread_id side threadId)
    ∷ 5 at 0 when differs metadata metadata_length
    ∷ 5 at 1 when differs output (output_length size side)
    ∷ []

-- K4: 255 is not a number
abbrev pub not_a_number : (byte : ℕ) → Test
not_a_number byte = is byte 255

-- 255 in a chosen byte; the chosen bytes stand in the output's order
abbrev pub byte_refusals : (chosen : List ℕ) → List Line
byte_refusals chosen = 12 at_first_below length chosen when (λ i. not_a_number (get_or chosen i 0)) ∷ []

abbrev pub scale_call : (size side byteId threadId : ℕ) (metadata : List ℕ) (output : List ℤ) → Call (List ℤ)
scale_call size side byteId threadId metadata output = record {
  refusals = legal_refusals size side byteId threadId (length metadata) (length output) then byte_refusals (chosen_bytes size side byteId threadId metadata);
  gives = scaled size side byteId threadId metadata;
}
