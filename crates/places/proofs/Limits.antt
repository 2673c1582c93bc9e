-- What a test for 6 decides, once it was told. And past the last element or minor number, told by bits: a lane's words hold the bits of its
-- elements and no more, so that both sides of the test are the definition's, times one number. Assumes nothing.
use Rattle.std.proofs.Common.{if◌then◌else◌}
use mathlib.Core.Path.{◌≡◌, sym, ap, ap₂, ◌∙◌}
use mathlib.Core.Bool.{Bool, true, false, ◌||◌}
use Prim.Native.Nat.{ℕ, suc, ◌*◌, ◌≤◌, ◌<◌}
use native.Mathlib.Nat.{mul-le-mul, mul-le-mul_left, mul-suc, mul_comm}
use native.Mathlib.Decide.{dec_le}
use native.Mathlib.Omega.{arith}
use borrow.Author.Tests.{le-leb, lt-leb}
use Rattle.laws.specs.Choice.{◌≤?◌}
use Rattle.answers.specs.Refusals.{given, refusal}
use Rattle.answers.specs.Tests.{Test, holds}
use Rattle.answers.specs.Right.{Denies}
use Rattle.answers.specs.Promised.{Tells}
use Rattle.answers.proofs.Shows.{tells_is, denied}
use Rattle.kinds.specs.Rule.{Layout, elements_of, minors}
use Rattle.kinds.specs.Laid.{Laid}

-- the test's answer is the call's
module _ {X : Type 0} {t : Test} {b : Bool} (told : Tells t b) where
  pub refused_by : b ≡ true → (x : X) → refusal 6 0 ≡ (if holds t then refusal 6 0 else given x)
  refused_by e x = ap (λ (h : Bool). if h then refusal 6 0 else given x) (sym e ∙ tells_is told)

  pub given_by : b ≡ false → (x y : X) → y ≡ x → given y ≡ (if holds t then refusal 6 0 else given x)
  given_by e x y p = ap given p ∙ ap (λ (h : Bool). if h then refusal 6 0 else given x) (sym e ∙ tells_is told)

pub inside : {t : Test} {b : Bool} → Tells t b → b ≡ false → Denies t
inside {t = t} told e = denied t (sym (tells_is told) ∙ e)

-- where the first of two numbers is not past its last, the second decides
pub second_decides : (n l : ℕ) {b c : Bool} → l < n → b ≡ c → b ≡ (n ≤? l || c)
second_decides n l {c = c} h e = e ∙ sym (ap (λ (t : Bool). t || c) (lt-leb n l h))

-- both sides of a test times one number
scaled : (b a x : ℕ) → 0 < b → Dec (a ≤ x) → (b * a ≤? b * x) ≡ (a ≤? x)
scaled b a x some (yes l) = le-leb (b * a) (b * x) (mul-le-mul_left b l) ∙ sym (le-leb a x l)
scaled b a x some (no n) =
    let l : suc x ≤ a = omega (arith, n) in
    lt-leb (b * a) (b * x) (omega (arith, some, mul-le-mul_left b l, mul-suc b x)) ∙ sym (lt-leb a x l)

module _ (f : Layout) (ok : Laid f) where
  pub past_element : (i : ℕ) → (f.words * 32 ≤? i * f.bits) ≡ (elements_of f ≤? i)
  past_element i =
      let full : f.words * 32 ≡ f.bits * elements_of f = omega (arith, ok.full) in
      ap₂ ◌≤?◌ full (mul_comm i f.bits) ∙ scaled f.bits (elements_of f) i ok.width.pos (dec_le _ _)

  -- the bits of a warp that a minor number takes
  abbrev pub taken : ℕ
  taken = f.halves * 8 * f.bits

  taken_full : f.words * 1024 ≡ taken * minors f
  taken_full = omega (arith, ok.full)

  taken_pos : 0 < taken
  taken_pos = omega (arith, mul-le-mul {n₁ = 8} {m₁ = 1} {n₂ = f.halves * 8} {m₂ = f.bits} (let h = ok.halves_pos in omega arith) ok.width.pos)

  pub past_minor : (y : ℕ) → (f.words * 1024 ≤? y * taken) ≡ (minors f ≤? y)
  past_minor y = ap₂ ◌≤?◌ taken_full (mul_comm y taken) ∙ scaled taken (minors f) y taken_pos (dec_le _ _)

  pub taken_le : taken ≤ 1024
  taken_le = mul-le-mul {n₁ = f.halves * 8} {m₁ = f.bits} {n₂ = 16} {m₂ = 64} (let h = ok.halves_le in omega arith) ok.width.le
