-- Bytes that are kept for the next read. Assumes nothing.
use Rattle.std.specs.Prelude.{ℕ, ◌+◌, List, get_or}
use Rattle.laws.specs.Lists.{fills}

-- a buffer with so many of its bytes from one on moved to its start
abbrev pub moved : (from count : ℕ) → List ℕ → List ℕ
moved from count bytes = fills 0 count (λ i. get_or bytes (from + i) 0) bytes
