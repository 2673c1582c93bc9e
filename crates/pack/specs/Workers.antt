-- What the worker answers. Assumes nothing.
use Rattle.std.specs.Prelude.{ℕ, ◌*◌, List, length}
use Rattle.answers.specs.Calls.{Call}
use Rattle.kinds.specs.Kinds.{lanes}
use Rattle.kinds.specs.Rule.{Layout, rows_of, columns_of}
use Rattle.buffers.specs.Buffers.{packed}
use Rattle.pack.specs.PackCall.{matrix_refusals}

-- the call in a layout
abbrev pub pack_call_in : Layout → (matrix words : List ℕ) → Call (List ℕ)
pack_call_in f m ws = record { refusals = matrix_refusals m (rows_of f * columns_of f) (length ws) (lanes * f.words) f.bits; gives = packed f m }
