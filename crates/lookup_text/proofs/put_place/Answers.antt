-- The five texts of the line, one after another: at most 3, 4, 2, 3 bytes and one. Assumes nothing.
use Rattle.std.proofs.Common.{arith, length-append}
use Rattle.text.proofs.Laws.{pushed_more, pushed_ends}
use Rattle.lookup_text.specs.Text.{line_of}
use Rattle.lookup_text.proofs.Laws.{one, two, three}
use Rattle.lookup_text.proofs.put_place.Goals as goal

pub returns : goal.returns
unfolding line_of
returns c =
    let all = pushed_more (pushed_more (pushed_more (pushed_more c.push_decimal.ensures c.push_next.ensures) c.push_next-2.ensures) c.push_next-3.ensures) c.push.ensures in
    (all, pushed_ends all 13 (simp length-append (omega (arith, three _ c.requires.1, three _ c.requires.2, one _ c.requires.3, two _ c.requires.4))))
