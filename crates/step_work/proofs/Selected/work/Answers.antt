-- The kinds that count bits cut nothing off. Assumes nothing.
use Rattle.std.proofs.Common.{sym, subst, ◌∙◌}
use Rattle.answers.specs.Tests.{Says}
use Rattle.answers.proofs.Words.{says}
use Rattle.answers.proofs.Shows.{tells_is}
use Rattle.kinds.specs.Kinds.{one_bit_format}
use Rattle.kinds.specs.declared.Entry.{Entry}
use Rattle.step_limit.proofs.Marks.{none_cut}
use Rattle.step_work.proofs.Matrices.{uncut}
use Rattle.step_work.proofs.Counted.{wraps_always}
use Rattle.step_work.proofs.Selected.work.Goals as goal

pub returns-then-is_one_bit-clause-marks : goal.returns-then-is_one_bit-clause-marks
returns-then-is_one_bit-clause-marks c =
    let s = c.args.self in
    let here = (says (one_bit_format s.line.element)).0 (sym (tells_is c.is_one_bit.ensures) ∙ c.if-is_one_bit.true) in
    let bit = subst (λ (e : Entry). Says (one_bit_format e.element)) s.line_is here in
    sym (none_cut _ _ c.requires.marks (λ x. (c.type_inv.marks x).fits) (uncut _ s.ready.of _ _ _ _ _ (wraps_always s.kind.0 s.ready.of bit s.mode.0)))
