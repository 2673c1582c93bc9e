-- Document 01, 'Runs', and document 02, K12: a run also holds a mark for each of its sums. Assumes nothing.
use Rattle.std.specs.Prelude.{ℕ, ◌+◌, List, ◌++◌, length, take, drop}
use Rattle.laws.specs.Lists.{tab}
use Rattle.buffers.specs.Buffers.{words_needed}
use Rattle.step_limit.specs.Marks.{kept_marks}
use Rattle.step_work.specs.Step.{stepped, cuts}
use Rattle.run.specs.declared.Run.{Run}

-- It holds 128 sum words in D's warp buffer order, its selectors and the number of accepted blocks, and four words of marks.
abbrev pub run_of : (kind signs mode blocks : ℕ) → (sums marks : List ℕ) → Run
run_of kind signs mode blocks sums marks =
    record {
      kind = record { 0 = kind };
      signs = record { 0 = signs };
      mode = record { 0 = mode };
      blocks = blocks;
      sums = sums;
      marks = marks;
    }

abbrev pub kind_in : Run → ℕ
kind_in run = run.kind.0

abbrev pub signs_in : Run → ℕ
signs_in run = run.signs.0

abbrev pub mode_in : Run → ℕ
mode_in run = run.mode.0

unfoldable pub zeros : List ℕ
zeros = tab 128 (λ i. 0)

unfoldable pub no_marks : List ℕ
no_marks = tab 4 (λ i. 0)

-- The used words, and the unused ones, at the end, carried along.
unfoldable pub with_used : (used sums : List ℕ) → List ℕ
with_used used sums = used ++ drop (length used) sums

unfoldable pub used_of : Run → List ℕ
used_of run = take (words_needed (kind_in run) 2) run.sums

-- An accepted opening makes C's words the sums and the number 0; unused sums are 0, and no mark is set.
unfoldable pub opened_run : (kind signs mode : ℕ) → (c : List ℕ) → Run
opened_run kind signs mode c = run_of kind signs mode 0 (with_used c zeros) no_marks

-- A refused opening hands back a run that is 0 throughout, kind included.
unfoldable pub zero_run : Run
zero_run = run_of 0 0 0 0 zeros no_marks

-- Each accepted feed makes the step's D, with the old sums as C, the new sums and adds 1 to the number. It sets the mark of a sum exactly when the
-- exact result at its place was cut off, and keeps those that are set.
unfoldable pub fed_run : Run → (a b : List ℕ) → Run
fed_run run a b =
    run_of (kind_in run) (signs_in run) (mode_in run) (run.blocks + 1)
    (with_used (stepped (kind_in run) (signs_in run) (mode_in run) a b (used_of run)) run.sums)
    (kept_marks run.marks (cuts (kind_in run) (signs_in run) (mode_in run) a b (used_of run)))
