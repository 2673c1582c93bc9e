-- What the C interface writes: a place, a pair, and a run as 136 words: kind, signs, mode, number, 128 sums, 4 words of marks.
-- Assumes nothing.
use Rattle.std.specs.Prelude.{ℕ, List, [], ◌∷◌, ◌++◌, get_or, take, drop}
use Rattle.answers.specs.Calls.{Call, giving, left_by}
use Rattle.kinds.specs.Places.{Place}
use Rattle.run.specs.Runs.{run_of, zero_run}
use Rattle.run.specs.RunCalls.{open_call, feed_call, read_call, marks_call}
use Rattle.run.specs.Blocks.{Block}
use Rattle.run.specs.declared.Run.{Run}

-- the four numbers that place writes, and the two that the reverse question writes: row, column, word and bit; lane and element
abbrev pub four_of : Place → List ℕ
four_of x = x.0 ∷ x.1 ∷ x.2 ∷ x.3 ∷ []

abbrev pub pair_of : ℕ × ℕ → List ℕ
pair_of x = x.0 ∷ x.1 ∷ []

unfoldable pub run_in : List ℕ → Run
run_in ws = run_of (get_or ws 0 0) (get_or ws 1 0) (get_or ws 2 0) (get_or ws 3 0) (take 128 (drop 4 ws)) (drop 132 ws)

unfoldable pub words_of : Run → List ℕ
words_of run = run.kind.0 ∷ run.signs.0 ∷ run.mode.0 ∷ run.blocks ∷ (run.sums ++ run.marks)

-- opening, feeding, reading and reading the marks, a run being its words
abbrev pub open_in_words : (kind signs mode : ℕ) (c : List ℕ) → Call (List ℕ)
open_in_words kind signs mode c = giving words_of (open_call kind signs mode c)

abbrev pub feed_in_words : (ws a b : List ℕ) → Call (List ℕ)
feed_in_words ws a b = giving words_of (feed_call (run_in ws) a b)

abbrev pub read_in_words : (ws d : List ℕ) → Call (List ℕ)
read_in_words ws d = giving (λ left. left.0) (read_call (run_in ws) d)

abbrev pub marks_in_words : (ws out : List ℕ) → Call (List ℕ)
marks_in_words ws out = giving (λ left. left.0) (marks_call (run_in ws) out)

-- what wz_open leaves in the words, wz_feed in words ws, wz_read of words ws in D, and wz_marks of them in its four words
abbrev pub opened_words : (kind signs mode : ℕ) → (c : List ℕ) → List ℕ
opened_words kind signs mode c = left_by (open_in_words kind signs mode c) (words_of zero_run)

abbrev pub fed_words : (ws a b : List ℕ) → List ℕ
fed_words ws a b = left_by (feed_in_words ws a b) ws

abbrev pub read_words : (ws d : List ℕ) → List ℕ
read_words ws d = left_by (read_in_words ws d) d

abbrev pub marks_words : (ws out : List ℕ) → List ℕ
marks_words ws out = left_by (marks_in_words ws out) out

-- the words after blocks, fed one after the other
unfoldable pub fed_all_words : List ℕ → List Block → List ℕ
fed_all_words ws [] = ws
fed_all_words ws (x ∷ xs) = fed_all_words (fed_words ws x.a x.b) xs
