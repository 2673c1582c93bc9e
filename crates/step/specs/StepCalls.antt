-- Document 01, 'Refusal numbers': step 1, 3, 4, 5 (A, B, C, D); the plain step takes no selectors: signs 0, mode 0. Assumes nothing.
use Rattle.std.specs.Prelude.{ℕ, List, [], ◌∷◌, length}
use Rattle.answers.specs.Refusals.{Answer}
use Rattle.answers.specs.Tests.{Test, over, differs, either, both, unless}
use Rattle.answers.specs.Calls.{Line, ◌when◌, ◌at◌when◌, ◌then◌, first, Call}
use Rattle.kinds.specs.Kinds.{one_bit, arithmetic}
use Rattle.kinds.specs.Refusals.{unknown_kind}
use Rattle.buffers.specs.Buffers.{words_needed}
use Rattle.step_work.specs.Step.{stepped}

-- 3: a kind that is not arithmetic, 6 to 10
abbrev pub not_arithmetic : (kind : ℕ) → Test
not_arithmetic kind = unless (arithmetic kind)

-- 4: signs over 3, mode over 1, or a one-bit kind (1, 13, 14) with signs not 0
abbrev pub bad_selectors : (kind signs mode : ℕ) → Test
bad_selectors kind signs mode = either (either (over signs 3) (over mode 1)) (both (one_bit kind) (differs signs 0))

-- step and open: 1, 3, 4 before the rest
abbrev pub selector_refusals : (kind signs mode : ℕ) → List Line
selector_refusals kind signs mode =
    1 when unknown_kind kind
    ∷ 3 when not_arithmetic kind
    ∷ 4 when bad_selectors kind signs mode
    ∷ []

-- a number that one of them refuses
abbrev pub unready : (kind signs mode : ℕ) → Test
unready kind signs mode = either (either (unknown_kind kind) (not_arithmetic kind)) (bad_selectors kind signs mode)

-- 5: the first wrong buffer of A, B, C, D, by their lengths
abbrev pub buffer_refusals : (kind a b c d : ℕ) → List Line
buffer_refusals kind a b c d =
    5 at 0 when differs a (words_needed kind 0)
    ∷ 5 at 1 when differs b (words_needed kind 1)
    ∷ 5 at 2 when differs c (words_needed kind 2)
    ∷ 5 at 3 when differs d (words_needed kind 2)
    ∷ []

abbrev pub step_refusals : (kind signs mode a b c d : ℕ) → List Line
step_refusals kind signs mode a b c d = selector_refusals kind signs mode then buffer_refusals kind a b c d

abbrev pub plain_refusals : (kind a b c d : ℕ) → List Line
plain_refusals kind a b c d = 1 when unknown_kind kind ∷ 3 when not_arithmetic kind ∷ buffer_refusals kind a b c d

abbrev pub step_call : (kind signs mode : ℕ) (a b c d : List ℕ) → Call (List ℕ)
step_call kind signs mode a b c d =
    record { refusals = step_refusals kind signs mode (length a) (length b) (length c) (length d); gives = stepped kind signs mode a b c }

abbrev pub plain_call : (kind : ℕ) (a b c d : List ℕ) → Call (List ℕ)
plain_call kind a b c d = record { refusals = plain_refusals kind (length a) (length b) (length c) (length d); gives = stepped kind 0 0 a b c }

unfoldable pub step_answer : (kind signs mode a b c d : ℕ) → Answer (Unit {0})
step_answer kind signs mode a b c d = first (step_refusals kind signs mode a b c d) tt
