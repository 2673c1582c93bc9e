-- Document 01, 'Refusal numbers': open 1, 3, 4, 5 (C); feed 10, 9, 5 (A, B); read 10, 5 (D). Document 02, K12: marks 10, 5. Assumes nothing.
use Rattle.std.specs.Prelude.{ℕ, List, [], ◌∷◌, length}
use Rattle.answers.specs.Refusals.{Answer}
use Rattle.answers.specs.Tests.{Test, over, reaches, is, differs, either, both, somewhere}
use Rattle.answers.specs.Calls.{Line, ◌when◌, ◌at◌when◌, ◌then◌, first, Call}
use Rattle.kinds.specs.Kinds.{one_bit}
use Rattle.buffers.specs.Buffers.{words_needed}
use Rattle.step_limit.specs.Marks.{mark_in}
use Rattle.step.specs.StepCalls.{unready, selector_refusals}
use Rattle.run.specs.Runs.{kind_in, signs_in, mode_in, opened_run, fed_run, used_of}
use Rattle.run.specs.declared.Run.{Run}

-- at most 4,096 blocks
abbrev pub max_blocks : ℕ
max_blocks = 4096

-- 9: the run already has 4,096 blocks
abbrev pub full_run : Run → Test
full_run run = reaches run.blocks max_blocks

-- a run that can't clamp: mode 0, or a one-bit kind
abbrev pub cannot_clamp : (kind mode : ℕ) → Test
cannot_clamp kind mode = either (is mode 0) (one_bit kind)

-- document 02, K12: a mark past the last sum or in a run that can't clamp
abbrev pub stray_mark : Run → Test
stray_mark run =
    somewhere 128 (λ j. both (is (mark_in run.marks j) 1) (either (reaches j (words_needed (kind_in run) 2)) (cannot_clamp (kind_in run) (mode_in run))))

-- 10: a run's kind is not arithmetic (1 to 5, 11 to 14), its selectors break 4, or its count is over 4,096; also covers a stray mark
abbrev pub bad_run : Run → Test
bad_run run = either (either (unready (kind_in run) (signs_in run) (mode_in run)) (over run.blocks max_blocks)) (stray_mark run)

-- by the lengths of the buffers
abbrev pub open_refusals : (kind signs mode c : ℕ) → List Line
open_refusals kind signs mode c = selector_refusals kind signs mode then 5 at 0 when differs c (words_needed kind 2) ∷ []

abbrev pub feed_refusals : Run → (a b : ℕ) → List Line
feed_refusals run a b =
    10 when bad_run run
    ∷ 9 when full_run run
    ∷ 5 at 0 when differs a (words_needed (kind_in run) 0)
    ∷ 5 at 1 when differs b (words_needed (kind_in run) 1)
    ∷ []

abbrev pub read_refusals : Run → (d : ℕ) → List Line
read_refusals run d = 10 when bad_run run ∷ 5 at 0 when differs d (words_needed (kind_in run) 2) ∷ []

-- the marks are four words
abbrev pub marks_refusals : Run → (n : ℕ) → List Line
marks_refusals run n = 10 when bad_run run ∷ 5 at 0 when differs n 4 ∷ []

abbrev pub open_call : (kind signs mode : ℕ) (c : List ℕ) → Call Run
open_call kind signs mode c = record { refusals = open_refusals kind signs mode (length c); gives = opened_run kind signs mode c }

abbrev pub feed_call : (run : Run) (a b : List ℕ) → Call Run
feed_call run a b = record { refusals = feed_refusals run (length a) (length b); gives = fed_run run a b }

-- a read gives D, and the run as it was
abbrev pub read_call : (run : Run) (d : List ℕ) → Call (List ℕ × Run)
read_call run d = record { refusals = read_refusals run (length d); gives = (used_of run, run) }

-- and so does reading the marks, which gives their words
abbrev pub marks_call : (run : Run) (out : List ℕ) → Call (List ℕ × Run)
marks_call run out = record { refusals = marks_refusals run (length out); gives = (run.marks, run) }

unfoldable pub open_answer : (kind signs mode c : ℕ) → Answer (Unit {0})
open_answer kind signs mode c = first (open_refusals kind signs mode c) tt

unfoldable pub feed_answer : Run → (a b : ℕ) → Answer (Unit {0})
feed_answer run a b = first (feed_refusals run a b) tt

unfoldable pub read_answer : Run → (d : ℕ) → Answer (Unit {0})
read_answer run d = first (read_refusals run d) tt

unfoldable pub marks_answer : Run → (n : ℕ) → Answer (Unit {0})
marks_answer run n = first (marks_refusals run n) tt
