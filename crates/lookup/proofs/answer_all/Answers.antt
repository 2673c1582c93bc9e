-- What a turn took and printed follows what the turns before took and printed. Assumes nothing.
use Rattle.std.proofs.Common.{rules, arith, refl, [], ◌++◌, length-append}
use Rattle.std.proofs.KnownBytes.{Appends-nil, Consumes-nil, Consumes-trans}
use Rattle.lookup_text.specs.Text.{printed}
use Rattle.lookup.proofs.Answered.{answered_more, answered_all}
use Rattle.lookup.proofs.answer_all.Goals as goal

pub loop-turns-init : goal.loop-turns-init
unfolding printed
loop-turns-init g c = ([], Consumes-nil _, Appends-nil _, refl, search rules)

pub loop-turns-preserved : goal.loop-turns-preserved
loop-turns-preserved g c =
    let (bytes, read, written, whole, few) = c.loop-turns.invariant in
    let (more, read', written', goes, ends) = c.in_ok-turn.ensures in
    let on = goes (search rules) in (
      bytes ++ more,
      Consumes-trans _ _ _ bytes more read read',
      answered_more _ _ _ bytes more whole written written',
      omega (arith, length-append bytes more, whole, on.1),
      omega (arith, length-append bytes more, few, on.0),
    )

pub returns-then-not-branch : goal.returns-then-not-branch
returns-then-not-branch g c =
    let (bytes, read, written, whole, few) = c.loop-turns.invariant in
    let (more, read', written', goes, ends) = c.in_ok-turn.ensures in
    answered_all _ _ _ bytes more whole _ _ read (ends (search rules)) written written'
