-- Document 02, K2: what the replay program prints, as a list of bytes. Assumes nothing.
use Rattle.std.specs.Prelude.{ℕ, zero, suc, ◌+◌, ◌*◌, ◌/◌, List, [], ◌∷◌, ◌++◌, length, take, drop}
use Rattle.answers.specs.Refusals.{Answer, given, refusal}
use Rattle.text.specs.Text.{decimal, space, newline, refused_line}
use Rattle.records.specs.Records.{record_bytes}
use Rattle.replay_text.specs.Verdicts.{Compared, ok, wrong, verdict_of}

-- `ok`, `refused n`, or `wrong` with row and column
abbrev pub ok_text : List ℕ
ok_text = 111 ∷ 107 ∷ newline ∷ []

abbrev pub wrong_text : List ℕ
wrong_text = 119 ∷ 114 ∷ 111 ∷ 110 ∷ 103 ∷ []

unfoldable pub verdict_text : Answer Compared → List ℕ
verdict_text (given ok) = ok_text
verdict_text (given (wrong row column)) = wrong_text ++ (space ∷ decimal row) ++ (space ∷ decimal column) ++ (newline ∷ [])
verdict_text (refusal number detail) = refused_line number

-- for each its number, with the verdict
unfoldable pub line_of : (number : ℕ) → Answer Compared → List ℕ
line_of number verdict = decimal number ++ (space ∷ verdict_text verdict)

-- A file of step records: the one with a number from 0, and the lines of the first so many, which are numbered from a number on.
abbrev pub record_at : (file : List ℕ) → ℕ → List ℕ
record_at file i = take record_bytes (drop (record_bytes * i) file)

unfoldable pub lines_of : (number count : ℕ) → (file : List ℕ) → List ℕ
lines_of number zero file = []
lines_of number (suc i) file = lines_of number i file ++ line_of (number + i) (verdict_of (record_at file i))

-- A part record at the end counts as absent.
abbrev pub whole_records : (file : List ℕ) → ℕ
whole_records file = length file / record_bytes

abbrev pub printed_from : (number : ℕ) → (file : List ℕ) → List ℕ
printed_from number file = lines_of number (whole_records file) file

-- Its number, from 0.
abbrev pub printed : (file : List ℕ) → List ℕ
printed file = printed_from 0 file
