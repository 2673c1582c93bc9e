-- All its words are zeros. Assumes nothing.
use Rattle.std.proofs.Common.{rules}
use Rattle.laws.specs.Lists.{tab}
use Rattle.run.specs.Runs.{zeros, no_marks, zero_run}
use Rattle.run.proofs.Run.zero.Goals as goal

pub returns : goal.returns
unfolding zero_run zeros no_marks tab
returns c = search rules
