-- What the workers answer. Assumes nothing.
use Rattle.std.specs.Prelude.{ℕ, List, length, Result, Ok, Err}
use Rattle.answers.specs.Refusals.{Answer, given, refused}
use Rattle.answers.specs.Calls.{Call}
use Rattle.kinds.specs.Kinds.{entry_of}
use Rattle.kinds.specs.declared.Entry.{Entry}
use Rattle.step_work.specs.Step.{stepped}
use Rattle.step.specs.StepCalls.{selector_refusals, buffer_refusals}
use Rattle.answers.specs.declared.Refusal.{Refusal}
use Rattle.step_work.specs.declared.Selected.{Selected}

-- the line of a kind whose selectors are judged
abbrev pub told_line : Result Selected Refusal → Answer Entry
told_line (Ok s) = given s.line
told_line (Err x) = refused x

abbrev pub selector_call : (kind signs mode : ℕ) → Call Entry
selector_call kind signs mode = record { refusals = selector_refusals kind signs mode; gives = entry_of kind }

-- a step whose selectors were judged
abbrev pub step_call_in : (kind signs mode : ℕ) (a b c d : List ℕ) → Call (List ℕ)
step_call_in kind signs mode a b c d = record { refusals = buffer_refusals kind (length a) (length b) (length c) (length d); gives = stepped kind signs mode a b c }
