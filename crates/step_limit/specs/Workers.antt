-- How the code keeps marks, one after the other. Assumes nothing.
use Rattle.std.specs.Prelude.{ℕ, zero, suc, ◌+◌, ◌*◌, ◌/◌, ◌%◌, ◌^◌, List, bit_or, slice_index, slice_set}

-- one mark, and n of them from base on
unfoldable pub with_mark : (j mark : ℕ) (marks : List ℕ) → List ℕ
with_mark j mark marks = slice_set marks (j / 32) (bit_or (slice_index marks (j / 32)) (mark * 2 ^ (j % 32)))

unfoldable pub with_marks : (base n : ℕ) (cut : ℕ → ℕ) (marks : List ℕ) → List ℕ
with_marks base zero cut marks = marks
with_marks base (suc n) cut marks = with_mark (base + n) (cut (base + n)) (with_marks base n cut marks)
