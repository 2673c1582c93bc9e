-- What the workers ask for, which every accepted step has. Assumes nothing.
use Rattle.std.specs.Prelude.{ℕ, ◌≤◌, ◌≡◌}
use Rattle.answers.specs.Tests.{Says}
use Rattle.kinds.specs.Kinds.{one_bit, Arithmetic}
use Rattle.buffers.specs.Buffers.{words_needed}

-- its numbers
pub record Ready (kind signs mode : ℕ) : Type 0 where
  pub of : Arithmetic kind
  pub signs_le : signs ≤ 3
  pub mode_le : mode ≤ 1
  pub plain : Says (one_bit kind) → signs ≡ 0

-- the lengths of its A, B, C and D
pub record Sized (kind a b c d : ℕ) : Type 0 where
  pub of_a : a ≡ words_needed kind 0
  pub of_b : b ≡ words_needed kind 1
  pub of_c : c ≡ words_needed kind 2
  pub of_d : d ≡ words_needed kind 2
