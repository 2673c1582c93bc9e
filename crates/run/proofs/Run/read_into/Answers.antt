-- D was accepted, and has the used sums. Assumes nothing.
use Rattle.std.proofs.Common.{ℕ, take, ap, ◌∙◌, rules}
use Rattle.answers.proofs.Shows.{admitted}
use Rattle.kinds.specs.declared.Kind.{Kind}
use Rattle.buffers.specs.Buffers.{words_needed}
use Rattle.run.specs.Runs.{used_of}
use Rattle.run.proofs.Run.read_into.Goals as goal

pub returns : goal.returns
unfolding used_of
returns c =
    let n = (admitted c.judge_sums.ensures c.in_ok-judge_sums.was).0 in
    record {
      verdict_right = search rules;
      left_is = c.copy_from_slice.ensures.after ∙ ap (λ (m : ℕ). take m c.args.self.now.sums) (n ∙ ap (λ (k : Kind). words_needed k.0 2) c.in_ok-s.ensures.own.0);
    }
