-- Legal selectors: what they say of the numbers. Assumes nothing.
use mathlib.Core.Path.{◌≡◌, refl}
use mathlib.Core.Logic.{◌⊎◌, inl, inr, ⊎_elim}
use Prim.Native.Nat.{ℕ, ◌+◌, ◌*◌, ◌<◌, ◌≤◌}
use native.Mathlib.Omega.{arith}
use Rattle.answers.specs.Tests.{Says}
use Rattle.scale.specs.Bytes.{legal_byte_id, legal_thread_id}
use Rattle.answers.specs.Promised.{Tells}
use Rattle.answers.proofs.Shows.{tells}
use lib.Dec.{leb}
use Rattle.scale.specs.Workers.{side_of, lanes_of}
use Rattle.scale.specs.declared.selectors.Operand.{Operand}
use Rattle.scale.specs.declared.selectors.Operand.TheVariants.{A, B}

-- a byte-id that a size allows: the size is not 0, and its bytes lie in a word
pub bytes_fit : (s b : ℕ) → Says (legal_byte_id s b) → (0 < s) × (b + s ≤ 4)
bytes_fit s b ok = ⊎_elim (λ p. ⊎_elim one two p) four ok
  where
    one : (s ≡ 1) × (b ≤ 3) → (0 < s) × (b + s ≤ 4)
    one p = (omega arith, omega arith)

    two : (s ≡ 2) × ((b ≡ 0) ⊎ (b ≡ 2)) → (0 < s) × (b + s ≤ 4)
    two p = (omega arith, ⊎_elim (λ z. omega arith) (λ z. omega arith) p.1)

    four : (s ≡ 4) × (b ≡ 0) → (0 < s) × (b + s ≤ 4)
    four p = (omega arith, omega arith)

-- and which size it is: 4 begins at the low byte, and what is neither 4 nor 2 is 1
pub at_low : (s b : ℕ) → Says (legal_byte_id s b) → s ≡ 4 → b ≡ 0
at_low s b ok e = ⊎_elim (λ p. ⊎_elim (λ q. omega arith) (λ q. omega arith) p) (λ p. p.1) ok

pub is_one : (s b : ℕ) → Says (legal_byte_id s b) → ¬ (s ≡ 4) → ¬ (s ≡ 2) → s ≡ 1
is_one s b ok n4 n2 = ⊎_elim (λ p. ⊎_elim (λ q. q.0) (λ q. absurd (n2 q.0)) p) (λ p. absurd (n4 p.0)) ok

-- a thread-id that a side allows
module _ (side t : ℕ) (ok : Says (legal_thread_id side t)) where
  pub thread_A : side ≡ 0 → t < 2
  thread_A e = ⊎_elim (λ p. omega arith) (λ p. omega arith) ok

  pub thread_B : (side ≡ 0 → ⊥) → (side ≡ 1) × (t < 4)
  thread_B ne = ⊎_elim (λ p. absurd (ne p.0)) (λ p. (p.0, omega arith)) ok

-- the selectors that the workers hold
pub thread_legal : (operand : Operand) (t : ℕ) → (t + 1) * lanes_of operand ≤ 4 → Says (legal_thread_id (side_of operand) t)
thread_legal A t h = inl (refl, omega arith)
thread_legal B t h = inr (refl, omega arith)

pub thread_B_tells : (t : ℕ) → Tells (legal_thread_id 1 t) (leb t 3)
thread_B_tells t = tells (legal_thread_id 1 t) (leb t 3) refl
