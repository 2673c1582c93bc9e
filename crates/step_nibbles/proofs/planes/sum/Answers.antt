-- After k turns s is the sum of k digits, of at most 15 each. Assumes nothing.
use Rattle.std.proofs.Common.{ℕ, ◌+◌, ◌<◌, get_or, refl, ap, add-one, arith}
use Rattle.laws.specs.Bits.{sum_n}
use Rattle.step_nibbles.proofs.planes.sum.Goals as goal

pub loop-k-init : goal.loop-k-init
unfolding sum_n
loop-k-init c = (refl, omega arith)

pub loop-k-preserved : goal.loop-k-preserved
unfolding sum_n
loop-k-preserved c =
    let l = c.loop-k in
    let v = get_or c.args.x.now (c.args.i + l.k) 0 in
    let small : v < 16 = c.requires.1 l.k c.loop-k-test.true in
    (rw (add-one l.k) (ap (λ (z : ℕ). z + v) l.invariant.0), omega (arith, l.invariant.1, small))
