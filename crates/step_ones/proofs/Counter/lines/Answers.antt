-- The loop stores the words of the lines in order. Assumes nothing.
use Rattle.std.proofs.Common.{◌≡◌, ℕ, ◌*◌, List, set, refl, ap, ap₂, ◌∙◌, arith}
use Rattle.laws.specs.Lists.{fills}
use Rattle.laws.proofs.Lists.{fills_front, fills_all}
use Rattle.step_ones.specs.Combined.{lines_of}
use Rattle.step_ones.proofs.Counter.lines.Invariants.{word}
use Rattle.step_ones.proofs.Counter.lines.Goals as goal

pub loop-k-init : goal.loop-k-init
unfolding fills
loop-k-init g c = refl

pub loop-k-preserved : goal.loop-k-preserved
loop-k-preserved g c =
    let s = c.args in
    let k = c.loop-k.k in
    ap₂ (λ (ys : List ℕ) (v : ℕ). set ys k v) c.loop-k.invariant c.word_of.ensures ∙ fills_front k (word g.row.SPANS g.row.HALVES s.words.now) s.rows.now

pub returns : goal.returns
unfolding lines_of
returns g c =
    let s = c.args in
    let out = s.rows.now in
    let f = word g.row.SPANS g.row.HALVES s.words.now in
    let e : c.loop-k.k ≡ g.row.HALVES * 8 * (g.row.SPANS * 4) = omega (arith, c.requires.1) in
    c.loop-k.invariant ∙ ap (λ (n : ℕ). fills 0 n f out) e ∙ fills_all _ f out 0 c.requires.1
