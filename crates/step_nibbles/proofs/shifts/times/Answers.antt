-- The four terms are the product. Assumes nothing.
use Rattle.std.proofs.Common.{◌∙◌}
use Rattle.step_nibbles.proofs.Terms.{terms}
use Rattle.step_nibbles.proofs.shifts.times.Goals as goal

pub returns-clause-is : goal.returns-clause-is
returns-clause-is c =
    let s = c.args in
    c.weighed.ensures ∙ rw (c.under.ensures.0, c.under-2.ensures.0, c.under-3.ensures.0, c.under-4.ensures.0) (terms s.x s.y c.requires.1)
