-- Document 01, 'Refusal numbers': unpack 1, 2, 5 (words, matrix). Assumes nothing.
use Rattle.std.specs.Prelude.{ℕ, List, [], ◌∷◌, length}
use Rattle.answers.specs.Tests.{differs}
use Rattle.answers.specs.Calls.{Line, ◌at◌when◌, ◌then◌, Call}
use Rattle.kinds.specs.Refusals.{layout_refusals}
use Rattle.buffers.specs.Buffers.{words_needed, entries_needed, unpacked_of}

-- by the lengths of the two buffers and the lengths needed
abbrev pub length_refusals : (words needed matrix entries : ℕ) → List Line
length_refusals words needed matrix entries = 5 at 0 when differs words needed ∷ 5 at 1 when differs matrix entries ∷ []

abbrev pub unpack_call : (kind role : ℕ) (words matrix : List ℕ) → Call (List ℕ)
unpack_call k r words matrix = record {
  refusals = layout_refusals k r then length_refusals (length words) (words_needed k r) (length matrix) (entries_needed k r);
  gives = unpacked_of k r words;
}
