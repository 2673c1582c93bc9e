-- What an argument names. Assumes nothing.
use Rattle.std.specs.Prelude.{ℕ, List, codes, ⊤}
use Rattle.stream.specs.declared.Named.{Named}
use Rattle.stream.specs.declared.Named.TheVariants.{Standard, File, TooLong}

-- the bytes that it is said by
abbrev pub said : Named → List ℕ
said Standard = codes "standard input"
said (File name) = name.now
said (TooLong name) = name.now

-- only the first bytes of its name are there
abbrev pub IsTooLong : Named → Type 0
IsTooLong (TooLong name) = ⊤
IsTooLong (File name) = ⊥
IsTooLong Standard = ⊥
