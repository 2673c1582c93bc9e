-- The three texts of the line, one after another. Assumes nothing.
use Rattle.text.specs.Text.{refused_line}
use Rattle.text.proofs.Laws.{pushed_more}
use Rattle.text.proofs.Text.push_refused.Goals as goal

pub returns : goal.returns
unfolding refused_line
returns c = pushed_more c.push_text.ensures (pushed_more c.push_decimal.ensures c.push.ensures)
