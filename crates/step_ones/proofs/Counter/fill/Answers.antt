-- The pairs and the ones are those of the row's and the column's bits, so the words are. Assumes nothing.
use Rattle.std.proofs.Common.{◌∙◌, arith}
use Rattle.step_ones.proofs.Counts.{few_ones, sums_are}
use Rattle.step_ones.proofs.Counter.fill.Goals as goal

pub put_cells-requires : goal.put_cells-requires
put_cells-requires g c = (omega arith, (few_ones _ _ _ _ _ _ c.sums-sums.ensures c.args.self.spans_in_range.1, c.requires.c_and_d))

pub returns : goal.returns
returns g c =
    c.put_cells.ensures
    ∙ sums_are _ _ _ _ _ _ _ c.args.c.now (λ i. (c.type_inv.b i).fits) c.pairs-pairs.ensures c.sums-sums.ensures c.args.self.halves_in_range.0
