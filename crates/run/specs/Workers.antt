-- What the workers answer, and what those of refusal 10 look for. Assumes nothing.
use Rattle.std.specs.Prelude.{ℕ, List, [], ◌∷◌, length, if◌then◌else◌}
use Rattle.answers.specs.Tests.{Test, holds, is, reaches, both, somewhere}
use Rattle.answers.specs.Calls.{◌when◌, Call}
use Rattle.kinds.specs.Kinds.{entry_of}
use Rattle.kinds.specs.declared.Entry.{Entry}
use Rattle.buffers.specs.Buffers.{words_needed}
use Rattle.step_limit.specs.Marks.{mark_in}
use Rattle.run.specs.Runs.{kind_in, used_of}
use Rattle.run.specs.RunCalls.{cannot_clamp, bad_run, read_refusals, marks_refusals}
use Rattle.run.specs.declared.Run.{Run}

-- how many marks may be set: those of the sums, in a run that can clamp
unfoldable pub markable : (kind mode : ℕ) → ℕ
markable kind mode = if holds (cannot_clamp kind mode) then 0 else words_needed kind 2

-- a mark is set from number n on
abbrev pub mark_from : (marks : List ℕ) (n : ℕ) → Test
mark_from marks n = somewhere 128 (λ j. both (is (mark_in marks j) 1) (reaches j n))

-- a run that is not refused gives its kind's line of the table; and its used sums, and its marks, as a buffer gets them
abbrev pub run_call : Run → Call Entry
run_call run = record { refusals = 10 when bad_run run ∷ []; gives = entry_of (kind_in run) }

abbrev pub sums_call : Run → (d : List ℕ) → Call (List ℕ)
sums_call run d = record { refusals = read_refusals run (length d); gives = used_of run }

abbrev pub words_call : Run → (out : List ℕ) → Call (List ℕ)
words_call run out = record { refusals = marks_refusals run (length out); gives = run.marks }
