-- The run in the words was fed: its words are put where the feed was accepted. Assumes nothing.
use Rattle.std.proofs.Common.{rules}
use Rattle.wazimroot.proofs.Taken.{fed}
use Rattle.wazimroot.proofs.wz_feed.Goals as goal

pub returns : goal.returns
returns c = search (rules, fed)
