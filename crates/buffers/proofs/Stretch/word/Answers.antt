-- The stretch's first element is one of the lane's, and so are the words that hold it. Assumes nothing.
use Rattle.std.proofs.Common.{ℕ, ◌∙◌, sym, ap, subst, ◌+◌, ◌*◌, ◌≤◌}
use Rattle.kinds.specs.Rule.{Layout}
use Rattle.kinds.specs.Laid.{Laid}
use Rattle.kinds.specs.Places.{word_within}
use Rattle.buffers.specs.Stretches.{holding_of}
use Rattle.buffers.proofs.Stretches.{start_within}
use Rattle.buffers.proofs.Stretch.word.Goals as goal

pub returns-clause-within : goal.returns-clause-within
returns-clause-within c =
    let f = c.args.f.now in
    let r = c.args.self.0 in
    let laid : Laid f = subst Laid c.f.view_is c.f.invariant in
    subst (λ (n : ℕ). n + holding_of f ≤ f.words)
    (sym (c.of.ensures.is.1 ∙ ap (λ (f : Layout). word_within f.bits (r * c.size.result)) c.f.view_is ∙ ap (λ (n : ℕ). word_within f.bits (r * n)) c.size.ensures.is))
    (start_within f laid r c.requires)
