-- The refusal of a selector or of a length stands; where there is none, the chosen bytes decide. Assumes nothing.
use Rattle.std.proofs.Common.{refl, Ok, Err, length}
use Rattle.std.proofs.lemmas.Result.{err_from_is_err_and}
use Rattle.answers.specs.Calls.{◌then◌}
use Rattle.answers.specs.Promised.{Judges}
use Rattle.answers.proofs.Shows.{stands, continues, called_on, kept}
use Rattle.scale.specs.Bytes.{chosen_bytes, scaled}
use Rattle.scale.specs.ScaleCall.{byte_refusals}
use Rattle.scale.specs.Workers.{selector_refusals, length_refusals, bytes_call}
use Rattle.scale.proofs.scale.Goals as goal

pub returns-in_err-selectors : goal.returns-in_err-selectors
returns-in_err-selectors c =
    let p = err_from_is_err_and c.from_residual.result c.from_residual.ensures.1 in
    let a = c.args in
    let selectors : Judges (selector_refusals a.size.0 a.side.0 a.byte_id.0 a.thread_id.0) (Err c.in_err-selectors.field-0.0) = record { verdict_right = c.in_err-selectors.ensures.right } in
    let rest = length_refusals a.size.0 a.side.0 (length a.metadata.now) (length a.out.now) then byte_refusals (chosen_bytes a.size.0 a.side.0 a.byte_id.0 a.thread_id.0 a.metadata.now) in
    rw (p.1, p.2) (kept (stands rest selectors refl) refl)

pub returns-in_err-judge_lengths : goal.returns-in_err-judge_lengths
returns-in_err-judge_lengths c =
    let p = err_from_is_err_and c.from_residual-in_err-judge_lengths.result c.from_residual-in_err-judge_lengths.ensures.1 in
    let a = c.args in
    let (w, o, b, t) = c.in_ok-selectors.ensures.same in
    let selectors : Judges (selector_refusals a.size.0 a.side.0 a.byte_id.0 a.thread_id.0) (Ok tt) = record { verdict_right = c.in_ok-selectors.ensures.right } in
    let lengths = rw (w, o) at c.in_err-judge_lengths.ensures in
    let rest = byte_refusals (chosen_bytes a.size.0 a.side.0 a.byte_id.0 a.thread_id.0 a.metadata.now) in
    rw (p.1, p.2) (kept (continues selectors refl (stands rest lengths refl)) refl)

pub returns : goal.returns
unfolding scaled
returns c =
    let a = c.args in
    let (w, o, b, t) = c.in_ok-selectors.ensures.same in
    let selectors : Judges (selector_refusals a.size.0 a.side.0 a.byte_id.0 a.thread_id.0) (Ok tt) = record { verdict_right = c.in_ok-selectors.ensures.right } in
    let lengths = rw (w, o) at c.in_ok-judge_lengths.ensures in
    let chosen = chosen_bytes a.size.0 a.side.0 a.byte_id.0 a.thread_id.0 a.metadata.now in
    let bytes = rw (c.choose.ensures, w, o, b, t) at c.scale_bytes.ensures in
    called_on selectors refl (called_on lengths refl {call = bytes_call chosen} bytes)
