-- The code is that of the verdict, and the verdict is the answer. Assumes nothing.
use Rattle.answers.proofs.Codes.{coded}
use Rattle.wazimroot.proofs.wz_plain_step.Goals as goal

pub returns : goal.returns
returns c = coded c.plain_step.ensures c.code_of.ensures
