-- 11 is told first, and then the selectors decide, by the mode that is asked for. Assumes nothing.
use Rattle.std.proofs.Common.{sym, ap, ◌∙◌, Bool, if◌then◌else◌, rules}
use Rattle.answers.specs.Refusals.{refusal}
use Rattle.answers.specs.Calls.{answer}
use Rattle.answers.proofs.Demand1.{reply_is}
use Rattle.answers.proofs.Shows.{tells_is, replies}
use Rattle.step.specs.Workers.{selector_call}
use Rattle.records.specs.Records.{kind_in, signs_in, mode_asked}
use Rattle.records.proofs.judge.Goals as goal

pub returns-then-unused_not_zero : goal.returns-then-unused_not_zero
returns-then-unused_not_zero c =
    let bytes = c.args.«record».now in
    record {
      line = replies (sym (ap (λ (b : Bool). if b then refusal 11 0 else answer (selector_call (kind_in bytes) (signs_in bytes) (mode_asked bytes)))
          (sym (tells_is c.unused_not_zero.ensures) ∙ c.if-unused_not_zero.true)));
      asked = tt;
    }

pub returns : goal.returns
returns c =
    let bytes = c.args.«record».now in
    let of = c.of-header.ensures in
    let rest = reply_is c.select.ensures.line in
    record {
      line = replies ((rw (of.0, of.1, of.2) at rest)
          ∙ sym (ap (λ (b : Bool). if b then refusal 11 0 else answer (selector_call (kind_in bytes) (signs_in bytes) (mode_asked bytes)))
          (sym (tells_is c.unused_not_zero.ensures) ∙ c.if-unused_not_zero.false)));
      asked = search rules;
    }
