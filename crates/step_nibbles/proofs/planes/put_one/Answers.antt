-- The loop stores the bits of the digits in order. Assumes nothing.
use Rattle.std.proofs.Common.{ℕ, ◌+◌, ◌*◌, List, set, refl, ap₂, ◌∙◌}
use Rattle.laws.specs.Lists.{fills}
use Rattle.laws.proofs.Lists.{fills_more}
use Rattle.step_nibbles.proofs.planes.put_one.Invariants.{bits}
use Rattle.step_nibbles.proofs.planes.put_one.Goals as goal

pub loop-j-init : goal.loop-j-init
unfolding fills
loop-j-init c = refl

pub loop-j-preserved : goal.loop-j-preserved
loop-j-preserved c =
    let s = c.args in
    let l = c.loop-j in
    ap₂ (λ (ys : List ℕ) (v : ℕ). set ys (s.i * 512 + l.j) v) l.invariant c.spread.ensures
    ∙ fills_more (s.i * 512) l.j (bits s.y.now s.i) s.out.now
