-- Where the table does not answer, the layout was given or refused; either way the holder's answer follows from it, by major and minor
-- number. Assumes nothing.
use Rattle.std.proofs.Common.{sym, ap, ◌∙◌, Bool}
use Rattle.answers.specs.Calls.{answer}
use Rattle.answers.proofs.Shows.{replies}
use Rattle.answers.proofs.Demand1.{reply_is}
use Rattle.kinds.specs.Rule.{Layout, turn}
use Rattle.places.specs.PlaceCalls.{find_answer}
use Rattle.places.specs.Workers.{find_call_in}
use Rattle.places.proofs.ByRule.{known_found}
use Rattle.places.proofs.find.Goals as goal

pub returns-then-f : goal.returns-then-f
unfolding find_answer
returns-then-f c =
    let a = c.args in
    replies
    (reply_is c.find_in.ensures
    ∙ ap (λ (t : Bool). answer (find_call_in c.in_ok-f.f (turn t (a.row.0, a.column.0)))) (sym c.if-f.true ∙ ap (λ (f : Layout). f.turned) c.f.view_is)
    ∙ known_found _ _ _ c.layout_of.ensures _ c.in_ok-f.was _ _)

pub returns-else-f : goal.returns-else-f
unfolding find_answer
returns-else-f c =
    let a = c.args in
    replies
    (reply_is c.find_in-else-f.ensures
    ∙ ap (λ (t : Bool). answer (find_call_in c.in_ok-f.f (turn t (a.row.0, a.column.0)))) (sym c.if-f.false ∙ ap (λ (f : Layout). f.turned) c.f.view_is)
    ∙ known_found _ _ _ c.layout_of.ensures _ c.in_ok-f.was _ _)
