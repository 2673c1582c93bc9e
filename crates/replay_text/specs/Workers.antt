-- What the workers make of a record's bytes, for a kind and selectors that were judged. Assumes nothing.
use Rattle.std.specs.Prelude.{ℕ, ◌+◌, ◌*◌, ◌/◌, ◌%◌, List}
use Rattle.kinds.specs.Rule.{lane_of, element_of}
use Rattle.buffers.specs.Buffers.{words_needed}
use Rattle.step_work.specs.Step.{stepped}
use Rattle.records.specs.Records.{Part, part_a, part_b, part_c, part_d, bytes_of, words_in, role_in}
use Rattle.replay_text.specs.Verdicts.{Compared, compared}

-- the word of D in which a place stands, by the words of a lane and the halves of eight rows: eight places are a row, and an element is a word
abbrev pub word_no : (words halves place : ℕ) → ℕ
word_no words halves place = lane_of 2 (place / 8) (place % 8) * words + element_of 2 halves (place / 8) (place % 8)

-- the words of a part, those of the step, and what they say
abbrev pub part_words : (kind : ℕ) → Part → (bytes : List ℕ) → List ℕ
part_words kind part bytes = words_in (words_needed kind (role_in part)) (bytes_of part bytes)

abbrev pub step_words : (kind signs mode : ℕ) → (bytes : List ℕ) → List ℕ
step_words kind signs mode bytes = stepped kind signs mode (part_words kind part_a bytes) (part_words kind part_b bytes) (part_words kind part_c bytes)

abbrev pub compared_by : (kind signs mode : ℕ) → (bytes : List ℕ) → Compared
compared_by kind signs mode bytes = compared kind (part_words kind part_d bytes) (step_words kind signs mode bytes)
