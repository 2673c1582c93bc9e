-- D is what reading the run leaves there. Assumes nothing.
use Rattle.std.proofs.Common.{rules}
use Rattle.wazimroot.proofs.Taken.{read}
use Rattle.wazimroot.proofs.wz_read.Goals as goal

pub returns : goal.returns
returns c = search (rules, read)
