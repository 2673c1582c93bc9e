-- What the worker answers. Assumes nothing.
use Rattle.std.specs.Prelude.{ℕ, ◌*◌, List, length}
use Rattle.answers.specs.Calls.{Call}
use Rattle.kinds.specs.Kinds.{lanes}
use Rattle.kinds.specs.Rule.{Layout, rows_of, columns_of}
use Rattle.buffers.specs.Buffers.{unpacked}
use Rattle.unpack.specs.UnpackCall.{length_refusals}

-- the call in a layout
abbrev pub unpack_call_in : Layout → (words matrix : List ℕ) → Call (List ℕ)
unpack_call_in f ws m = record { refusals = length_refusals (length ws) (lanes * f.words) (length m) (rows_of f * columns_of f); gives = unpacked f ws }
