-- The test decides; lane and element are the entry's digits. Assumes nothing.
use Rattle.std.proofs.Common.{ap, ◌∙◌, ◌/◌}
use Rattle.answers.proofs.Shows.{replies}
use Rattle.kinds.specs.declared.Element.{Element}
use Rattle.places.proofs.Limits.{given_by, inside}
use Rattle.places.proofs.ByTable.{held}
use Rattle.places.proofs.find_by_table.Goals as goal

pub returns-else-outside : goal.returns-else-outside
returns-else-outside c =
    let in_table = inside c.outside.ensures c.if-outside.false in
    replies (given_by c.outside.ensures c.if-outside.false _ _
    (ap (λ (e : Element). (c.holder_at-entry.result / 32, e.0)) c.of.ensures.is.0
    ∙ held _ _ _ in_table.0 in_table.1 c.holder_at-entry.ensures))
