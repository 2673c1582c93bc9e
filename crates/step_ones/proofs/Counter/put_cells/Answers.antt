-- The loop stores the words of D in order, each with the ones at its row and column. Assumes nothing.
use Rattle.std.proofs.Common.{◌≡◌, ℕ, ◌*◌, List, set, refl, ap, ap₂, ◌∙◌, arith}
use Rattle.laws.specs.Lists.{fills}
use Rattle.laws.proofs.Lists.{fills_front, fills_all}
use Rattle.step_ones.specs.Combined.{sums_words}
use Rattle.step_ones.proofs.Counts.{word_is}
use Rattle.step_ones.proofs.Counter.put_cells.Invariants.{word}
use Rattle.step_ones.proofs.Counter.put_cells.Goals as goal

pub loop-k-init : goal.loop-k-init
unfolding fills
loop-k-init g c = refl

pub loop-k-preserved : goal.loop-k-preserved
loop-k-preserved g c =
    let k = c.loop-k.k in
    let s = c.args in
    let w = word_is g.row.HALVES s.sums.now s.c.now k _ _ _ c.place_of.ensures.is refl c.limited.ensures.0 in
    ap₂ (λ (ys : List ℕ) (v : ℕ). set ys k v) c.loop-k.invariant w ∙ fills_front k (word g.row.HALVES s.sums.now s.c.now) s.d.now

pub returns : goal.returns
unfolding sums_words
returns g c =
    let s = c.args in
    let f = word g.row.HALVES s.sums.now s.c.now in
    let e : c.loop-k.k ≡ 32 * (2 * g.row.HALVES) = omega arith in
    c.loop-k.invariant ∙ ap (λ (n : ℕ). fills 0 n f s.d.now) e ∙ fills_all _ f s.d.now 0 c.requires.c_and_d.1
