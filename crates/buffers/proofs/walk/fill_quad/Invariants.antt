-- Each turn brings the stretch of one lane more. Assumes nothing.
use Rattle.std.proofs.Common.{ℕ, ◌+◌, ◌*◌}
use Rattle.laws.specs.Toward.{Brings, Below}
use Rattle.buffers.proofs.walk.fill_quad.Given as goal

abbrev pub invariant-loop-t : goal.invariant-loop-t
invariant-loop-t g l =
    Brings (g.F.Filling.target l.f) (Below l.t (λ (t : ℕ). g.F.Filling.Part l.f l.stretch.0 (l.quad.0 * 4 + t))) (g.F.Filling.held l.initial.buffer) (g.F.Filling.held l.buffer)
