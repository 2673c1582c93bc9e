-- What an accepted step tells of its numbers and lengths, and that the plain step's selectors are never refused. Assumes nothing.
use Rattle.std.proofs.Common.{if◌then◌else◌}
use mathlib.Core.Path.{◌≡◌, refl, ap}
use mathlib.Core.Bool.{Bool, true, false, ◌&&◌}
use Prim.Native.Nat.{ℕ}
use Rattle.answers.specs.Refusals.{given, refusal}
use Rattle.answers.specs.Tests.{holds}
use Rattle.answers.specs.Calls.{first, judged_by}
use Rattle.answers.specs.Right.{Passes}
use Rattle.answers.proofs.Shows.{passes}
use Rattle.kinds.specs.Kinds.{one_bit}
use Rattle.kinds.specs.Refusals.{unknown_kind}
use Rattle.step_work.specs.Workers.{Ready, Sized}
use Rattle.step.specs.StepCalls.{not_arithmetic, selector_refusals, buffer_refusals, step_refusals, plain_refusals, step_answer}

-- the selectors pass exactly where the numbers are ready
module _ (k signs mode : ℕ) where
  pub ready : Passes (selector_refusals k signs mode) → Ready k signs mode
  ready p =
      record { of = record { low = search p; high = search p; is = search p }; signs_le = search p; mode_le = search p; plain = search p }

  pub ready_passes : Ready k signs mode → Passes (selector_refusals k signs mode)
  ready_passes ok = search ok

-- the lengths of an accepted step
pub sized : (k a b c d : ℕ) → Passes (buffer_refusals k a b c d) → Sized k a b c d
sized k a b c d p = record { of_a = search p; of_b = search p; of_c = search p; of_d = search p }

pub step_accepted : (k signs mode a b c d : ℕ) → step_answer k signs mode a b c d ≡ given tt → Ready k signs mode
unfolding step_answer
step_accepted k signs mode a b c d e =
    let p = passes (step_refusals k signs mode a b c d) tt e in
    ready k signs mode (search p)

-- signs 0 and mode 0 are never refused
both_off : (t : Bool) → (t && false) ≡ false
both_off true = refl
both_off false = refl

pub plain_is : (k a b c d : ℕ) → judged_by (step_refusals k 0 0 a b c d) ≡ judged_by (plain_refusals k a b c d)
plain_is k a b c d =
    ap (λ (t : Bool). if holds (unknown_kind k) then refusal 1 0 else if holds (not_arithmetic k) then refusal 3 0 else if t then refusal 4 0 else first (buffer_refusals k a b c d) tt) (both_off (holds (one_bit k)))
