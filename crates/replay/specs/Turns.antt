-- What is kept of the bytes that have come: those of a record that has begun. Assumes nothing.
use Rattle.std.specs.Prelude.{ℕ, ◌-◌, ◌%◌, List, length, take, drop}
use Rattle.records.specs.Records.{record_bytes}

-- the bytes of a file behind its whole records
abbrev pub part_of : (file : List ℕ) → List ℕ
part_of file = drop (length file - length file % record_bytes) file

-- what stands at the start of the buffer when so many bytes have come
abbrev pub begun : (come : ℕ) → (input : List ℕ) → List ℕ
begun come input = take (come % record_bytes) input
