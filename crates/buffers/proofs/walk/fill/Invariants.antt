-- Each turn brings one stretch more; with all of them every index is brought. Assumes nothing.
use Rattle.std.proofs.Common.{ℕ}
use Rattle.laws.specs.Toward.{Brings, Below}
use Rattle.buffers.specs.Stretches.{EveryLane}
use Rattle.buffers.proofs.walk.fill.Given as goal

abbrev pub invariant-loop-stretch : goal.invariant-loop-stretch
invariant-loop-stretch g l =
    Brings (g.F.Filling.target l.f) (Below l.stretch (λ (r : ℕ). EveryLane (g.F.Filling.Part l.f r))) (g.F.Filling.held l.initial.buffer) (g.F.Filling.held l.buffer)
