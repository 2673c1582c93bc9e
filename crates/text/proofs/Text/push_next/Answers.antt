-- A space, then the number. Assumes nothing.
use Rattle.text.proofs.Laws.{pushed_more}
use Rattle.text.proofs.Text.push_next.Goals as goal

pub returns : goal.returns
returns c = pushed_more c.push.ensures c.push_decimal.ensures
