-- Every line of the table has what a layout must have. Assumes nothing.
use Rattle.std.proofs.Common.{◌∙◌, sym, ap}
use Rattle.kinds.specs.Rule.{side_of}
use Rattle.kinds.specs.declared.Entry.{Entry}
use Rattle.kinds.proofs.Table.{sane_in}
use Rattle.kinds.proofs.Layout.of.Goals as goal

pub layout_in-requires : goal.layout_in-requires
layout_in-requires c =
    let e = c.of-e in
    let k = c.requires in
    (c.side_of-side.ensures.is ∙ ap (λ (e : Entry). side_of e.bits) (sym e.ensures), k.2, sane_in c.args.kind.0 c.args.role.0 e.result e.ensures k.0 k.1 k.2)
