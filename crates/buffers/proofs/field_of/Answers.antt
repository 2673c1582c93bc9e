-- A shift is a division by a power of two, and 1 << b is 2 ^ b; the field starts below bit 32. Assumes nothing.
use Rattle.std.proofs.Common.{ℕ, ◌∙◌, ap, ◌/◌, ◌%◌, ◌^◌, arith}
use Rattle.laws.specs.Fields.{field}
use Rattle.kinds.proofs.Spots.{bit_first}
use Rattle.buffers.proofs.Elements.{one_shl}
use Rattle.buffers.proofs.field_of.Goals as goal

pub returns : goal.returns
unfolding field
returns c =
    let a = c.args in
    rw (one_shl a.bits (omega arith)) (ap (λ (n : ℕ). a.word / 2 ^ n % 2 ^ a.bits) (c.of.ensures.is.2 ∙ bit_first a.bits a.j c.requires.1))
