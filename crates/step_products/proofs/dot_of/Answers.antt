-- After k turns the three sums are those of k terms, and small. Assumes nothing.
use Rattle.std.proofs.Common.{◌+◌, ◌*◌, refl, ap₂, ◌∙◌, add-one, arith, rules}
use Rattle.laws.specs.Bits.{sum_n}
use Rattle.step_products.proofs.dot_of.Goals as goal

pub loop-k-init : goal.loop-k-init
unfolding sum_n
loop-k-init c = record { products = refl; of_a = refl; of_b = refl; products_le = search rules; a_le = search rules; b_le = search rules }

pub loop-k-preserved : goal.loop-k-preserved
unfolding sum_n
loop-k-preserved c =
    let l = c.loop-k in
    let u = c.wide-u in
    let v = c.wide-v in
    record {
      products = rw (add-one l.k) (ap₂ ◌+◌ l.invariant.products (c.product-products.ensures.is ∙ ap₂ ◌*◌ u.ensures.0 v.ensures.0));
      of_a = rw (add-one l.k) (ap₂ ◌+◌ l.invariant.of_a u.ensures.0);
      of_b = rw (add-one l.k) (ap₂ ◌+◌ l.invariant.of_b v.ensures.0);
      products_le = omega arith;
      a_le = omega arith;
      b_le = omega arith;
    }
