use Rattle.std.proofs.Common.{◌≡◌, ℕ, List}
use Rattle.laws.specs.Lists.{fills, blocks}
use Rattle.kinds.specs.Rule.{minors}
use Rattle.kinds.specs.declared.Layouts.{Layouts}
use Rattle.step_limit.specs.Workers.{with_marks}
use Rattle.step_products.specs.Sums.{digits_word}
use Rattle.step_products.specs.declared.Offsets.{Offsets}
use Rattle.step_products.proofs.Worded.{marks_by}
use Rattle.step_nibbles.proofs.cells.Given as goal

abbrev pub word : Layouts → (mode : ℕ) → Offsets → (x y c : List ℕ) → ℕ → ℕ
word l mode h x y c = blocks l.c.words (digits_word mode (minors l.a) h.a h.b l.c.words l.c.halves x y c)

abbrev pub mark : Layouts → (mode : ℕ) → Offsets → (x y c : List ℕ) → ℕ → ℕ
mark l mode h x y c = marks_by l.c (minors l.a) mode h x y c

-- The loop stores the words of D in order, and sets their marks.
abbrev pub invariant-loop-k : goal.invariant-loop-k
invariant-loop-k l =
    (l.d ≡ fills 0 l.k (word l.l l.mode.0 l.h l.x l.y l.c) l.initial.d)
    × (l.marks ≡ with_marks 0 l.k (mark l.l l.mode.0 l.h l.x l.y l.c) l.initial.marks)
