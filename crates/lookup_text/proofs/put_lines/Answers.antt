-- One record more, and at the end the bytes that are no record. Assumes nothing.
use Rattle.std.proofs.Common.{rules, []}
use Rattle.std.proofs.lemmas.List.{take_more, flat_map_more}
use Rattle.text.specs.Text.{Pushed}
use Rattle.text.proofs.Laws.{pushed_more, pushed_put}
use Rattle.lookup_text.specs.Text.{printed}
use Rattle.lookup_text.proofs.Laws.{record_line, printed_none, printed_rest}
use Rattle.lookup_text.proofs.put_lines.Goals as goal
use Rattle.lookup_text.proofs.put_lines.Goals.{then-not-is_empty, else-not-is_empty}

pub loop-kind-preserved : goal.loop-kind-preserved
loop-kind-preserved c =
    (rw (take_more _ _ [] c.loop-kind-test.true, ← flat_map_more record_line [] _ _) (pushed_more c.loop-kind.invariant.0 c.put_line.ensures.0), search rules)

pub returns-clause-put : goal.returns-clause-put
returns-clause-put c =
    let records = c.args.records.now in
    let whole = c.as_chunks.ensures.front in
    let rest = c.as_chunks.ensures.back in
    let all : Pushed (printed records) c.new-text.result c.if-not-is_empty.text
    = elim c.if-not-is_empty.branch [
      | then-not-is_empty w ↦ rw (w.text-is, ← printed_rest records _ _ _ whole rest c.loop-kind-test.false (search rules) (search rules)) (pushed_more c.loop-kind.invariant.0 w.push_text.ensures)
      | else-not-is_empty w ↦ rw (w.text-is, ← printed_none records _ _ _ whole rest c.loop-kind-test.false (search rules)) c.loop-kind.invariant.0
    ] in
    pushed_put all c.new-text.ensures.bytes c.new-text.ensures.empty (search rules) c.len.ensures
