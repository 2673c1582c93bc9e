-- The calls of the bench: of each the value that its contract names, its refusals in their order and what it gives. Assumes nothing.
use Rattle.std.specs.Prelude.{ℕ, List, ℤ}
use Rattle.answers.specs.Calls.{Call}
use Rattle.kinds.specs.Places.{Place}
use Rattle.places.specs.PlaceCalls.{place_call, find_call}
use Rattle.unpack.specs.UnpackCall.{unpack_call}
use Rattle.pack.specs.PackCall.{pack_call}
use Rattle.template.specs.Templates.{read_call as record_read_call, write_call as record_write_call}
use Rattle.step.specs.StepCalls.{step_call, plain_call}
use Rattle.run.specs.declared.Run.{Run}
use Rattle.run.specs.RunCalls.{open_call, feed_call, read_call, marks_call}
use Rattle.scale.specs.ScaleCall.{scale_call}

-- a call with what it leaves or gives back: a place, a lane and an element, a buffer, a run, or a buffer and the run
pub data OfBench : (X : Type 0) → Call X → Type 1 where
  place : (kind role lane i : ℕ) → OfBench Place (place_call kind role lane i)
  find : (kind role row column : ℕ) → OfBench (ℕ × ℕ) (find_call kind role row column)
  unpack : (kind role : ℕ) (words matrix : List ℕ) → OfBench (List ℕ) (unpack_call kind role words matrix)
  pack : (kind role : ℕ) (matrix words : List ℕ) → OfBench (List ℕ) (pack_call kind role matrix words)
  read_record : (bytes words : List ℕ) → OfBench (List ℕ) (record_read_call bytes words)
  write_record : (words bytes : List ℕ) → OfBench (List ℕ) (record_write_call words bytes)
  step : (kind signs mode : ℕ) (a b c d : List ℕ) → OfBench (List ℕ) (step_call kind signs mode a b c d)
  plain_step : (kind : ℕ) (a b c d : List ℕ) → OfBench (List ℕ) (plain_call kind a b c d)
  open_run : (kind signs mode : ℕ) (c : List ℕ) → OfBench Run (open_call kind signs mode c)
  feed_run : (run : Run) (a b : List ℕ) → OfBench Run (feed_call run a b)
  read_run : (run : Run) (d : List ℕ) → OfBench (List ℕ × Run) (read_call run d)
  read_marks : (run : Run) (out : List ℕ) → OfBench (List ℕ × Run) (marks_call run out)
  scale : (size side byteId threadId : ℕ) (metadata : List ℕ) (output : List ℤ)
      → OfBench (List ℤ) (scale_call size side byteId threadId metadata output)
