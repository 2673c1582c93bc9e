-- The record was accepted, and is compared, or refused, and the refusal stands. Assumes nothing.
use Rattle.std.proofs.Common.{◌≡◌, sym, ap, ◌∙◌, rules}
use Rattle.std.specs.Prelude.{Err}
use Rattle.answers.specs.Refusals.{given}
use Rattle.answers.proofs.Shows.{passing, replies}
use Rattle.records.specs.Records.{logged, record_refusals}
use Rattle.records.proofs.Laws.{judged, refused_first}
use Rattle.replay_text.specs.Verdicts.{right_d, replay_call, told_replay}
use Rattle.replay_text.proofs.replay.Goals as goal

pub returns : goal.returns
unfolding logged right_d
returns c =
    let of = c.in_ok-s.ensures.asked in
    let bytes = c.args.«record».now in
    let is = rw (of.0, of.1, of.2) at c.compare.ensures in
    replies (ap given is ∙ sym (passing (record_refusals bytes) (replay_call bytes).gives (judged bytes _ c.judge.ensures.line _ c.in_ok-s.was)))

pub returns-in_err-s : goal.returns-in_err-s
returns-in_err-s c =
    let e : c.from_residual.result ≡ Err c.in_err-s.field-0.0 = search rules in
    replies (ap told_replay e ∙ refused_first c.args.«record».now _ c.judge.ensures.line (replay_call c.args.«record».now).gives c.in_err-s.field-0.0 c.in_err-s.was)
