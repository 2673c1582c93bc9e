-- Document 01, 'Refusal numbers', and document 02, K9: place 1, 2, 6, and the reverse question alike. Assumes nothing.
use Rattle.std.specs.Prelude.{ℕ, [], ◌∷◌, Result, Ok, Err}
use Rattle.answers.specs.Refusals.{Answer, given, refused}
use Rattle.answers.specs.Tests.{Test, reaches, either}
use Rattle.answers.specs.Calls.{◌when◌, ◌then◌, Call, answer}
use Rattle.kinds.specs.Kinds.{lanes, entry_of, kind_of, role_of, bits_at, columns_at, elements_at, rows_at}
use Rattle.kinds.specs.Places.{place_of, Place, with_word_and_bit}
use Rattle.kinds.specs.Rule.{layout_of, holder_of}
use Rattle.kinds.specs.Refusals.{layout_refusals}
use Rattle.answers.specs.declared.Refusal.{Refusal}
use Rattle.places.specs.declared.Placed.{Placed}
use Rattle.places.specs.declared.Held.{Held}

-- what each case of an answer means: row, column, word and bit; lane and element
abbrev pub told_place : Result Placed Refusal → Answer Place
told_place (Ok p) = given (p.row.0, p.column.0, p.word.0, p.bit.0)
told_place (Err x) = refused x

abbrev pub told_holder : Result Held Refusal → Answer (ℕ × ℕ)
told_holder (Ok h) = given (h.lane.0, h.element.0)
told_holder (Err x) = refused x

-- 6: lane over 31, element past the last; row or column past the last
abbrev pub element_outside : (elements lane i : ℕ) → Test
element_outside elements lane i = either (reaches lane lanes) (reaches i elements)

abbrev pub entry_outside : (rows columns row column : ℕ) → Test
entry_outside rows columns row column = either (reaches row rows) (reaches column columns)

-- the place of an element: row, column, word within the lane, lowest bit in that word
abbrev pub place_call : (kind role lane i : ℕ) → Call Place
place_call k r lane i = record {
  refusals = layout_refusals k r then 6 when element_outside (elements_at k r) lane i ∷ [];
  gives = with_word_and_bit (bits_at k r) i (place_of (kind_of k) (role_of r) lane i);
}

unfoldable pub place_answer : (kind role lane i : ℕ) → Answer Place
place_answer k r lane i = answer (place_call k r lane i)

-- the reverse question, whose place it is: lane and element
abbrev pub find_call : (kind role row column : ℕ) → Call (ℕ × ℕ)
find_call k r row column = record {
  refusals = layout_refusals k r then 6 when entry_outside (rows_at k r) (columns_at k r) row column ∷ [];
  gives = holder_of (layout_of (entry_of k) (role_of r)) (row, column);
}

unfoldable pub find_answer : (kind role row column : ℕ) → Answer (ℕ × ℕ)
find_answer k r row column = answer (find_call k r row column)
