-- A turn stores one field more, a step after the last. Assumes nothing.
use Rattle.std.proofs.Common.{ℕ, refl, ap₂, ◌∙◌, ◌+◌, ◌*◌, List, set, arith}
use Rattle.laws.specs.Fields.{field}
use Rattle.laws.specs.Toward.{stores}
use Rattle.laws.proofs.Toward.{stores_more}
use Rattle.unpack_lanes.proofs.scatter.Goals as goal

pub loop-j-init : goal.loop-j-init
unfolding stores
loop-j-init c = (omega arith, refl)

pub loop-j-preserved : goal.loop-j-preserved
loop-j-preserved c =
    let a = c.args in (
      omega arith,
      ap₂ (λ (ys : List ℕ) (x : ℕ). set ys (a.base + c.loop-j.j * a.step) x) c.loop-j.invariant.1 c.field_of.ensures
          ∙ stores_more a.base a.step c.loop-j.j (λ (j : ℕ). field a.bits j a.word) a.matrix.now,
    )
