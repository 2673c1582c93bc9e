-- Each turn brings the stretches of one quad more. Assumes nothing.
use Rattle.laws.specs.Toward.{Brings, Below}
use Rattle.buffers.specs.Stretches.{LanesOf}
use Rattle.buffers.proofs.walk.fill_stretch.Given as goal

abbrev pub invariant-loop-quad : goal.invariant-loop-quad
invariant-loop-quad g l =
    Brings (g.F.Filling.target l.f) (Below l.quad (LanesOf (g.F.Filling.Part l.f l.stretch.0))) (g.F.Filling.held l.initial.buffer) (g.F.Filling.held l.buffer)
