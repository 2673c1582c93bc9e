-- Where the major number is within its limit, the minor number's bits decide. Assumes nothing.
use Rattle.answers.proofs.Shows.{tells}
use Rattle.kinds.proofs.Table.{by_fields}
use Rattle.places.proofs.Limits.{second_decides, past_minor}
use Rattle.places.proofs.entry_outside.Goals as goal

pub returns-else-f-x : goal.returns-else-f-x
returns-else-f-x c = rw (← c.f.view_is) (tells _ _ (second_decides _ _ c.if-f-x.false (past_minor (by_fields c.f.inside) c.f.invariant _)))
