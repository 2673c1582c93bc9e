-- The four texts of the verdict, one after another: 5 bytes, at most 11 twice, and one. Assumes nothing.
use Rattle.std.proofs.Common.{rules, arith, length-append}
use Rattle.text.proofs.Laws.{pushed_more, pushed_ends}
use Rattle.replay_text.specs.Text.{verdict_text}
use Rattle.replay_text.proofs.Lines.{ten}
use Rattle.replay_text.proofs.put_wrong.Goals as goal

pub returns : goal.returns
unfolding verdict_text
returns c =
    let all = pushed_more (pushed_more (pushed_more c.push_text.ensures c.push_next.ensures) c.push_next-2.ensures) c.push.ensures in
    (all, pushed_ends all 28 (simp length-append (omega (arith, ten c.args.first.row.0 (search rules), ten c.args.first.column.0 (search rules)))))
