use Rattle.std.proofs.Common.{◌≡◌, ℕ, ◌+◌, ◌*◌}
use Rattle.laws.specs.Toward.{Brings, Below, At}
use Rattle.kinds.specs.Rule.{minors}
use Rattle.kinds.specs.Rule.{Layout}
use Rattle.step_limit.specs.Workers.{with_marks}
use Rattle.step_products.proofs.Worded.{words_by, marks_by}
use Rattle.step_products.proofs.lane_cells.Given as goal

abbrev pub Words : Layout → (lane : ℕ) → ℕ → ℕ → Type 0
Words g lane i = At (lane * g.words + i)

-- Each turn brings one word more of the lane, and its mark.
abbrev pub invariant-loop-i : goal.invariant-loop-i
invariant-loop-i l =
    Brings (words_by l.fn.l.c (minors l.fn.l.a) l.mode.0 l.h l.x l.y l.c) (Below l.i (Words l.fn.l.c l.lane.0)) l.initial.d l.d
    × (l.marks ≡ with_marks (l.lane.0 * l.fn.l.c.words) l.i (marks_by l.fn.l.c (minors l.fn.l.a) l.mode.0 l.h l.x l.y l.c) l.initial.marks)
