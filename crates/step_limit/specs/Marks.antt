-- Document 02, K12: 128 marks as 128 bits in four words, low bit first. Assumes nothing.
use Rattle.std.specs.Prelude.{ℕ, ◌+◌, ◌*◌, ◌/◌, ◌%◌, List, slice_index, if◌then◌else◌}
use Rattle.laws.specs.Choice.{◌=?◌}
use Rattle.laws.specs.Fields.{field, joined}
use Rattle.laws.specs.Lists.{tab}

-- mark j is bit j mod 32 of word j div 32
unfoldable pub mark_in : (marks : List ℕ) (j : ℕ) → ℕ
mark_in marks j = field 1 (j % 32) (slice_index marks (j / 32))

-- the four words of the marks f 0, f 1, .., f 127
unfoldable pub mark_words : (ℕ → ℕ) → List ℕ
mark_words f = tab 4 (λ w. joined 1 32 (λ i. f (w * 32 + i)))

-- a mark once set is kept, and it is set where a list has 1
unfoldable pub kept_marks : (marks cuts : List ℕ) → List ℕ
kept_marks marks cuts = mark_words (λ j. if mark_in marks j =? 1 then 1 else slice_index cuts j)
