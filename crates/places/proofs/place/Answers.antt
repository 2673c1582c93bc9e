-- Where the table does not answer, the layout was given or refused; either way the place's answer follows from it. Assumes nothing.
use Rattle.std.proofs.Common.{◌∙◌}
use Rattle.answers.proofs.Shows.{replies}
use Rattle.answers.proofs.Demand1.{reply_is}
use Rattle.places.specs.PlaceCalls.{place_answer}
use Rattle.places.proofs.ByRule.{known_placed}
use Rattle.places.proofs.place.Goals as goal

pub returns-in_ok-f : goal.returns-in_ok-f
unfolding place_answer
returns-in_ok-f c = replies (reply_is c.place_in.ensures ∙ known_placed _ _ _ c.layout_of.ensures _ c.in_ok-f.was c.args.lane.0 c.args.element.0)
