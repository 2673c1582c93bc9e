-- Two bytes, one after the other. Assumes nothing.
use Rattle.text.proofs.Laws.{pushed_more, pushed_same, two_digits}
use Rattle.text.proofs.Text.push_two_digits.Goals as goal

pub returns : goal.returns
returns c = pushed_same (two_digits 18 c.args.n c.requires.0 c.requires.1) (pushed_more c.push.ensures c.push-2.ensures)
