-- In an arithmetic kind whose reserved bytes are zero the tails decide. Assumes nothing.
use Rattle.std.proofs.Common.{◌≡◌, ◌∙◌, ap, arith}
use Rattle.answers.specs.Tests.{Says}
use Rattle.answers.proofs.Shows.{other_tells, also_tells}
use Rattle.kinds.specs.Kinds.{entry_of}
use Rattle.records.specs.Records.{kind_in, of_arithmetic}
use Rattle.records.proofs.unused_not_zero.Goals as goal

pub returns : goal.returns
returns c =
    let k = kind_in c.args.«record».now in
    let line : c.of-line.result ≡ entry_of k = c.of-line.ensures ∙ ap entry_of c.requires.1 in
    let is : Says (of_arithmetic k) = ((omega arith, omega arith), grind arith) in
    other_tells c.not_zero.ensures c.if-not_zero.false (also_tells is c.stray_tail.ensures)
