-- After k turns s is the sum of k digits under their bytes, of at most 15 each. Assumes nothing.
use Rattle.std.proofs.Common.{ℕ, ◌+◌, ◌<◌, get_or, refl, ap, add-one, arith}
use lib.Bits.{bit_and, and_le_l}
use Rattle.laws.specs.Bits.{sum_n}
use Rattle.step_nibbles.proofs.planes.sum_under.Goals as goal

pub loop-k-init : goal.loop-k-init
unfolding sum_n
loop-k-init c = (refl, omega arith)

pub loop-k-preserved : goal.loop-k-preserved
unfolding sum_n
loop-k-preserved c =
    let l = c.loop-k in
    let u = get_or c.args.x.now (c.args.i + l.k) 0 in
    let v = get_or c.args.p.now (c.args.j + l.k) 0 in
    let small : bit_and u v < 16 = omega (arith, and_le_l u v, c.requires.2 l.k c.loop-k-test.true) in
    (rw (add-one l.k) (ap (λ (z : ℕ). z + bit_and u v) l.invariant.0), omega (arith, l.invariant.1, small))
