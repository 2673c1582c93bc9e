-- Document 02, K2: the verdict of a step record. Assumes nothing.
use Rattle.std.specs.Prelude.{ℕ, ◌/◌, ◌%◌, ◌<◌, ◌≡◌, ◌≢◌, List, if◌then◌else◌, Option, Some, None, Result, Ok, Err}
use Rattle.laws.specs.Choice.{◌<?◌}
use Rattle.laws.specs.Lists.{blocks}
use Rattle.answers.specs.Refusals.{Answer, given, refused}
use Rattle.answers.specs.Tests.{Test, differs, first_of}
use Rattle.answers.specs.Calls.{Call, answer}
use Rattle.kinds.specs.Kinds.{rows_at, columns_at}
use Rattle.buffers.specs.Buffers.{index, entries_needed}
use Rattle.step_work.specs.Step.{entry_in, stepped}
use Rattle.records.specs.Records.{part_a, part_b, part_c, part_d, kind_in, signs_in, mode_asked, logged, record_refusals}
use Rattle.answers.specs.declared.Refusal.{Refusal}
use Rattle.replay_text.specs.declared.Wrong.{Wrong}

-- 'Work out D from its own selectors, A, B and C': the words that D ought to have.
unfoldable pub right_d : (bytes : List ℕ) → List ℕ
right_d bytes = stepped (kind_in bytes) (signs_in bytes) (mode_asked bytes) (logged part_a bytes) (logged part_b bytes) (logged part_c bytes)

-- `ok`, or `wrong` with a row and a column
pub data Compared : Type 0 where
  ok : Compared
  wrong : (row column : ℕ) → Compared

-- D's matrix has places in row-major order: whether the one that was logged and the right one differ at a place,
abbrev pub differs_at : (kind : ℕ) → (log right : List ℕ) → (place : ℕ) → Test
differs_at kind log right place =
    blocks (columns_at kind 2) (λ row column. differs (entry_in kind 2 log row column) (entry_in kind 2 right row column)) place

-- and the first differing row and column.
abbrev pub place_of : (columns places : ℕ) → (place : ℕ) → Compared
place_of columns places place = if place <? places then wrong (place / columns) (place % columns) else ok

unfoldable pub compared : (kind : ℕ) → (log right : List ℕ) → Compared
compared kind log right = place_of (columns_at kind 2) (entries_needed kind 2) (first_of (entries_needed kind 2) (differs_at kind log right))

-- The matrices differ at that row and column, and agree at every place before it in row-major order.
pub record FirstDiffering (kind : ℕ) (log right : List ℕ) (row column : ℕ) : Type 0 where
  pub row_in : row < rows_at kind 2
  pub column_in : column < columns_at kind 2
  pub differ : entry_in kind 2 log row column ≢ entry_in kind 2 right row column
  pub agree_before : (r c : ℕ) → c < columns_at kind 2 → index (columns_at kind 2) (r, c) < index (columns_at kind 2) (row, column)
      → entry_in kind 2 log r c ≡ entry_in kind 2 right r c

-- a record's refusals in their order, and what is said of one that is not refused
abbrev pub replay_call : (bytes : List ℕ) → Call Compared
replay_call bytes = record { refusals = record_refusals bytes; gives = compared (kind_in bytes) (logged part_d bytes) (right_d bytes) }

unfoldable pub verdict_of : (bytes : List ℕ) → Answer Compared
verdict_of bytes = answer (replay_call bytes)

-- what each case of a verdict means
abbrev pub told_wrong : Option Wrong → Compared
told_wrong None = ok
told_wrong (Some w) = wrong w.row.0 w.column.0

abbrev pub told_replay : Result (Option Wrong) Refusal → Answer Compared
told_replay (Ok x) = given (told_wrong x)
told_replay (Err x) = refused x
