-- Document 01, 'Refusal numbers': pack 1, 2, 5 (matrix, words), 7. Assumes nothing.
use Rattle.std.specs.Prelude.{ℕ, ◌^◌, List, [], ◌∷◌, length, get_or}
use Rattle.answers.specs.Refusals.{Answer}
use Rattle.answers.specs.Tests.{Test, reaches, differs}
use Rattle.answers.specs.Calls.{Line, ◌at◌when◌, ◌at_first_below◌when◌, ◌then◌, Call, judgement}
use Rattle.kinds.specs.Kinds.{bits_at}
use Rattle.kinds.specs.Refusals.{layout_refusals}
use Rattle.buffers.specs.Buffers.{words_needed, entries_needed, packed_of}

-- 7: a matrix entry doesn't fit the element's bits
abbrev pub too_wide : (bits : ℕ) → (matrix : List ℕ) → (i : ℕ) → Test
too_wide b matrix i = reaches (get_or matrix i 0) (2 ^ b)

-- by the matrix and the length of the words, and what is needed
abbrev pub matrix_refusals : (matrix : List ℕ) (entries words needed bits : ℕ) → List Line
matrix_refusals matrix entries words needed b =
    5 at 0 when differs (length matrix) entries
    ∷ 5 at 1 when differs words needed
    ∷ 7 at_first_below length matrix when too_wide b matrix
    ∷ []

abbrev pub pack_call : (kind role : ℕ) (matrix words : List ℕ) → Call (List ℕ)
pack_call k r matrix words = record {
  refusals = layout_refusals k r then matrix_refusals matrix (entries_needed k r) (length words) (words_needed k r) (bits_at k r);
  gives = packed_of k r matrix;
}

unfoldable pub pack_answer : (kind role : ℕ) (matrix words : List ℕ) → Answer (Unit {0})
pack_answer k r matrix words = judgement (pack_call k r matrix words)
