-- The place was given or refused, and the line is that answer's. Assumes nothing.
use Rattle.std.proofs.Common.{rules, arith, ◌<◌, sym, ap, ◌∙◌}
use Rattle.answers.proofs.Demand1.{reply_is}
use Rattle.answers.specs.Refusals.{number_of}
use Rattle.places.specs.PlaceCalls.{told_place, place_answer}
use Rattle.text.specs.Text.{refused_line, Pushed}
use Rattle.text.proofs.Laws.{pushed_ends, refused_length}
use Rattle.lookup_text.specs.Text.{line_of}
use Rattle.lookup_text.proofs.Laws.{three, place_small}
use Rattle.lookup_text.proofs.put_line.Goals as goal

pub put_place-requires : goal.put_place-requires
unfolding place_answer
put_place-requires c =
    let x = c.args in
    let small = place_small x.kind x.role x.lane x.element _ (sym (reply_is c.place.ensures) ∙ ap told_place c.in-Ok.is) in
    search rules

pub returns-in-Ok : goal.returns-in-Ok
unfolding place_answer
returns-in-Ok c = rw (sym (ap told_place c.in-Ok.is) ∙ reply_is c.place.ensures) at c.put_place.ensures

pub returns-in-Err : goal.returns-in-Err
unfolding line_of place_answer
returns-in-Err c =
    let said : Pushed (refused_line (number_of c.in-Err.refusal)) c.args.text.now c.push_refused.new.self = search rules in
    let number : number_of c.in-Err.refusal < 1000 = search rules in
    (rw (← (sym (ap told_place c.in-Err.is) ∙ reply_is c.place.ensures)) said, pushed_ends said 13 (omega (arith, refused_length, three _ number)))
