-- The run's words are those of the run that was opened, or of the zero run. Assumes nothing.
use Rattle.answers.proofs.Codes.{coded_as}
use Rattle.words.specs.Words.{words_of}
use Rattle.wazimroot.proofs.wz_open.Goals as goal

pub returns : goal.returns
returns c = coded_as words_of c.open-opened.ensures c.code_of.ensures c.put.ensures
