-- The test decides; row and column are the entry's digits. Assumes nothing.
use Rattle.answers.proofs.Shows.{replies}
use Rattle.places.proofs.Limits.{given_by, inside}
use Rattle.places.proofs.ByTable.{placed}
use Rattle.places.proofs.place_by_table.Goals as goal

pub returns-else-outside : goal.returns-else-outside
returns-else-outside c =
    let in_table = inside c.outside.ensures c.if-outside.false in
    replies (given_by c.outside.ensures c.if-outside.false _ _
    (placed _ _ _ _ _ in_table.0 in_table.1 c.place_at-entry.ensures c.of-spot.ensures.is.1 c.of-spot.ensures.is.2))
