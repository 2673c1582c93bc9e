-- Every line of the table has what a layout must have, for A, B and C. Assumes nothing.
use Rattle.std.proofs.Common.{◌∙◌, sym, ap, arith}
use Rattle.kinds.specs.Rule.{side_of}
use Rattle.kinds.specs.declared.Entry.{Entry}
use Rattle.kinds.proofs.Table.{sane_in}
use Rattle.kinds.proofs.Layouts.of.Goals as goal

pub layout_in-a-requires : goal.layout_in-a-requires
layout_in-a-requires c =
    let e = c.of-e in
    let k = c.requires in
    (c.side_of-side.ensures.is ∙ ap (λ (e : Entry). side_of e.bits) (sym e.ensures), omega arith, sane_in c.args.kind.0 0 e.result e.ensures k.0 k.1 (omega arith))

pub layout_in-b-requires : goal.layout_in-b-requires
layout_in-b-requires c =
    let e = c.of-e in
    let k = c.requires in
    (c.side_of-side.ensures.is ∙ ap (λ (e : Entry). side_of e.bits) (sym e.ensures), omega arith, sane_in c.args.kind.0 1 e.result e.ensures k.0 k.1 (omega arith))

pub layout_in-c-requires : goal.layout_in-c-requires
layout_in-c-requires c =
    let e = c.of-e in
    let k = c.requires in
    (c.side_of-side.ensures.is ∙ ap (λ (e : Entry). side_of e.bits) (sym e.ensures), omega arith, sane_in c.args.kind.0 2 e.result e.ensures k.0 k.1 (omega arith))
