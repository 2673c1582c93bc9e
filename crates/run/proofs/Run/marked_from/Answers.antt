-- A word that is not 0 has a mark, and where all are 0 there is none. Assumes nothing.
use Rattle.std.proofs.Common.{◌*◌, true, false, sym, arith}
use Rattle.answers.proofs.Words.{says}
use Rattle.answers.proofs.Shows.{tells, deny}
use Rattle.run.specs.Workers.{mark_from}
use Rattle.run.proofs.Laws.{word_stray, words_clear}
use Rattle.run.proofs.Run.marked_from.Goals as goal

pub returns-then-marks-w-ne0 : goal.returns-then-marks-w-ne0
returns-then-marks-w-ne0 c =
    let m = c.args.marks.now in
    let from = c.args.from in
    let t = mark_from m (from * 32) in
    tells t true (sym ((says t).1 (word_stray m from c.loop-w.w (omega arith) (omega arith) (c.type_inv.marks c.loop-w.w).fits c.if-marks-w-ne0.true)))

pub returns : goal.returns
returns c =
    let m = c.args.marks.now in
    let from = c.args.from in
    let t = mark_from m (from * 32) in
    tells t false (sym (deny t (words_clear m from (λ w h less. c.loop-w.invariant w h (omega arith)))))
