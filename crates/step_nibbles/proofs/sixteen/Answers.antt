-- The sums under the planes are put together by weight; the digits are added as they are. Assumes nothing.
use Rattle.std.proofs.Common.{◌∙◌, arith}
use Rattle.step_nibbles.proofs.Sixteens.{products_are}
use Rattle.step_nibbles.proofs.sixteen.Goals as goal

pub returns : goal.returns
returns c =
    let eights = c.sum_under-eights in
    let fours = c.sum_under-fours in
    let twos = c.sum_under-twos in
    let ones = c.sum_under-ones in
    let a = c.args in
    record {
      products = c.weighed.ensures ∙ rw (ones.ensures.0, twos.ensures.0, fours.ensures.0, eights.ensures.0) (products_are a.x.now a.y.now a.p.now a.i a.j c.requires.4 c.requires.1 c.requires.2 c.requires.3);
      of_a = c.sum.ensures.0;
      of_b = c.sum-2.ensures.0;
      products_le = omega (arith, c.weighed.ensures, ones.ensures.1, twos.ensures.1, fours.ensures.1, eights.ensures.1);
      a_le = omega (arith, c.sum.ensures.1);
      b_le = omega (arith, c.sum-2.ensures.1);
    }
