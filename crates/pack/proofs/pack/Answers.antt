-- Where the layout was given, the call is that of the layout. Assumes nothing.
use Rattle.kinds.specs.Rule.{Layout}
use Rattle.std.proofs.Common.{ap, ◌∙◌}
use Rattle.answers.specs.Refusals.{told, after}
use Rattle.answers.specs.Calls.{judgement}
use Rattle.answers.proofs.Shows.{meets}
use Rattle.answers.proofs.Demand1.{verdict_is}
use Rattle.kinds.proofs.Judged.{known_legal}
use Rattle.buffers.specs.Buffers.{packed}
use Rattle.pack.specs.Workers.{pack_call_in}
use Rattle.pack.proofs.ByLayout.{pack_is}
use Rattle.pack.proofs.pack.Goals as goal

pub returns : goal.returns
returns c =
    let a = c.args in
    let u = c.pack_in in
    let g = known_legal _ _ _ c.layout_of.ensures _ c.in_ok-f.was in
    meets
    (verdict_is u.ensures
    ∙ ap (λ (f : Layout). judgement (pack_call_in f a.matrix.now a.words.now)) g.1
    ∙ pack_is a.kind.0 a.role.0 g.0 a.matrix.now a.words.now)
    (u.ensures.left_is ∙ ap (λ (f : Layout). after (told u.result) (packed f a.matrix.now) a.words.now) g.1)
