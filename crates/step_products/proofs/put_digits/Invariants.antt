use Rattle.std.proofs.Common.{ℕ, ◌+◌, ◌*◌, ◌/◌, false}
use Rattle.laws.specs.Toward.{Brings, Below, At}
use Rattle.kinds.specs.Rule.{shape}
use Rattle.kinds.specs.Rule.{Layout}
use Rattle.step_products.specs.Sums.{masked}
use Rattle.step_products.proofs.put_digits.Given as goal

abbrev pub laid : (bits spans halves : ℕ) → Layout
laid bits spans halves = shape bits (spans * halves) (32 / bits) halves spans false

-- the places of word t's fields
abbrev pub Fields : (side : ℕ) → ℕ → ℕ → Type 0
Fields p t = Below p (λ j. At (t * p + j))

-- Each turn brings the fields of one word more.
abbrev pub invariant-loop-t : goal.invariant-loop-t
invariant-loop-t l =
    Brings (masked (laid l.bits l.spans l.halves) l.mask l.words) (Below l.t (Fields (32 / l.bits))) l.initial.out l.out
