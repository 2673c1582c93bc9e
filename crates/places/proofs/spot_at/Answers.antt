-- The element is one of the lane's, of which there are at most 128. Assumes nothing.
use Rattle.std.proofs.Common.{arith}
use Rattle.kinds.proofs.Digits.{element_lt}
use Rattle.places.proofs.spot_at.Goals as goal

pub of-requires : goal.of-requires
of-requires c =
    let f = c.f.inside in
    let ok = c.f.invariant in
    let within = rw (← c.f.view_is) at c.requires in
    (ok.width.le, omega (arith, element_lt f.side f.halves ok.side_pos ok.halves_pos f.spans c.args.x c.args.y within.0 within.1, ok.elements_le, c.element_at-i.ensures.is))
