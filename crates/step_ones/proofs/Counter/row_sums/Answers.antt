-- The loop stores the ones of the row with each column in order. Assumes nothing.
use Rattle.std.proofs.Common.{◌≡◌, ℕ, List, set, refl, ap, ap₂, ◌∙◌, arith}
use Rattle.laws.specs.Lists.{fills}
use Rattle.laws.proofs.Lists.{fills_front, fills_all}
use Rattle.step_ones.specs.Combined.{ones_of}
use Rattle.step_ones.proofs.Counter.row_sums.Goals as goal

pub loop-column-init : goal.loop-column-init
unfolding fills
loop-column-init g c = refl

pub loop-column-preserved : goal.loop-column-preserved
loop-column-preserved g c =
    let s = c.args in
    let column = c.loop-column.column in
    ap₂ (λ (ys : List ℕ) (v : ℕ). set ys column v) c.loop-column.invariant c.ones_of.ensures
    ∙ fills_front column (ones_of g.row.SPANS s.self.mode.0 s.rows.now s.pairs.now s.row) s.sums.now

pub returns : goal.returns
returns g c =
    let s = c.args in
    let f = ones_of g.row.SPANS s.self.mode.0 s.rows.now s.pairs.now s.row in
    let e : c.loop-column.column ≡ 8 = omega arith in
    c.loop-column.invariant ∙ ap (λ (n : ℕ). fills 0 n f s.sums.now) e ∙ fills_all 8 f s.sums.now 0 c.requires.1
