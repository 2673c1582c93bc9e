-- The loop stores the fields one after the other, a step apart. Assumes nothing.
use Rattle.std.proofs.Common.{ℕ, ◌≡◌, ◌≤◌}
use Rattle.laws.specs.Fields.{field}
use Rattle.laws.specs.Toward.{stores}
use Rattle.unpack_lanes.proofs.scatter.Given as goal

abbrev pub invariant-loop-j : goal.invariant-loop-j
invariant-loop-j l =
    (l.j ≤ l.side) × (l.matrix ≡ stores l.base l.step l.j (λ (j : ℕ). field l.bits j l.word) l.initial.matrix)
