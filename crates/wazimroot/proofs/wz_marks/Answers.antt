-- The four words are what reading the marks leaves there. Assumes nothing.
use Rattle.std.proofs.Common.{rules}
use Rattle.wazimroot.proofs.Taken.{marks}
use Rattle.wazimroot.proofs.wz_marks.Goals as goal

pub returns : goal.returns
returns c = search (rules, marks)
