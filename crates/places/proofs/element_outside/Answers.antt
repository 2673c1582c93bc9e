-- Where the lane is one of the 32, the element's bits decide. Assumes nothing.
use Rattle.std.proofs.Common.{◌<◌, arith}
use Rattle.kinds.specs.Kinds.{lanes}
use Rattle.answers.proofs.Shows.{tells}
use Rattle.kinds.proofs.Table.{by_fields}
use Rattle.places.proofs.Limits.{second_decides, past_element}
use Rattle.places.proofs.element_outside.Goals as goal

pub returns-else-lane-ge-COUNT : goal.returns-else-lane-ge-COUNT
returns-else-lane-ge-COUNT c =
    let in_warp : c.args.lane.0 < lanes = omega arith in
    rw (← c.f.view_is) (tells _ _ (second_decides lanes _ in_warp (past_element (by_fields c.f.inside) c.f.invariant _)))
