-- The stretches that have been brought cover every index. Assumes nothing.
use Rattle.std.proofs.Common.{ℕ, ◌≡◌, sym, ap, subst, ◌∙◌, inl, arith}
use Rattle.laws.specs.Toward.{Below}
use Rattle.laws.proofs.Toward.{brings_all}
use Rattle.kinds.specs.Laid.{Laid}
use Rattle.buffers.specs.Stretches.{EveryLane, stretches_of}
use Rattle.buffers.proofs.walk.fill.Goals as goal

pub returns : goal.returns
returns g c =
    let F = g.F.Filling in
    let f = c.args.f.now in
    let l = c.loop-stretch in
    let every : l.stretch ≡ stretches_of (F.layout f) = (let e : l.stretch ≡ c.count-stretch-end.result = omega arith in e) ∙ c.count-stretch-end.ensures.is ∙ ap stretches_of c.layout.ensures in
    brings_all (F.target f) (Below l.stretch (λ (r : ℕ). EveryLane (F.Part f r))) _ _ c.requires
    (λ x h. inl (subst (λ (n : ℕ). Below n (λ (r : ℕ). EveryLane (F.Part f r)) x) (sym every) (g.met.F.Filling.covers f (subst Laid c.layout.ensures c.count-stretch-end.ensures.laid) x h))) l.invariant
