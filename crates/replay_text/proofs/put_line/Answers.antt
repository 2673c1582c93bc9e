-- The number, a space, and the verdict's text: at most 20 bytes, one, and 28. Assumes nothing.
use Rattle.std.proofs.Common.{arith}
use Rattle.answers.proofs.Demand1.{reply_is}
use Rattle.text.proofs.Laws.{pushed_more}
use Rattle.replay_text.specs.Verdicts.{verdict_of}
use Rattle.replay_text.specs.Text.{line_of}
use Rattle.replay_text.proofs.Lines.{twenty}
use Rattle.replay_text.proofs.put_line.Goals as goal

pub returns : goal.returns
unfolding line_of verdict_of
returns c =
    let verdict = rw (reply_is c.replay.ensures) at c.put_verdict.ensures.0 in
    let all = pushed_more c.push_decimal.ensures (pushed_more c.push.ensures verdict) in
    (all, omega (arith, twenty _ c.ranges.number.fits, c.push_decimal.ensures.put, c.push.ensures.put, c.put_verdict.ensures.1))
