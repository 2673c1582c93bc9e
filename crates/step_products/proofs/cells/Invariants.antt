use Rattle.std.proofs.Common.{◌≡◌, ℕ, ◌+◌, ◌*◌}
use Rattle.laws.specs.Toward.{Brings, Below, At}
use Rattle.step_limit.specs.Workers.{with_marks}
use Rattle.step_products.specs.Sums.{digits_words, digits_marks}
use Rattle.step_products.proofs.cells.Given as goal

abbrev pub Words : (each lane : ℕ) → ℕ → Type 0
Words each lane = Below each (λ i. At (lane * each + i))

-- Each turn brings the words of one lane more, and their marks.
abbrev pub invariant-loop-lane : goal.invariant-loop-lane
invariant-loop-lane l =
    Brings (digits_words l.l l.mode.0 l.h l.x l.y l.c) (Below l.lane (Words l.l.c.words)) l.initial.d l.d
    × (l.marks ≡ with_marks 0 (l.lane * l.l.c.words) (digits_marks l.l l.mode.0 l.h l.x l.y l.c) l.initial.marks)
