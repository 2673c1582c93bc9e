-- A word or two are the number's fields of 32 bits. Assumes nothing.
use Rattle.std.proofs.Common.{ℕ, ap₂, ◌+◌, List, set, arith}
use borrow.Author.Tests.{ne_eqb}
use Rattle.laws.specs.Fields.{field}
use Rattle.laws.specs.Toward.{stores}
use Rattle.pack_lanes.proofs.put.Goals as goal

pub returns-then-bits-eq64 : goal.returns-then-bits-eq64
unfolding stores field
returns-then-bits-eq64 c =
    let a = c.args in
    rw c.if-bits-eq64.true
    (ap₂ (λ (ws : List ℕ) (v : ℕ). set ws (a.k + 1) v) (ap₂ (set a.words.now) (omega arith) (omega arith)) (omega (arith, c.ranges.value.fits)))

pub returns-else-bits-eq64 : goal.returns-else-bits-eq64
unfolding stores field
returns-else-bits-eq64 c = rw (ne_eqb c.args.bits 64 c.if-bits-eq64.false) (ap₂ (set c.args.words.now) (omega arith) (omega arith))
