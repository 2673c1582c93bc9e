-- The ones of xor or and pairs are the sum of the combined digits, and at most 64. Assumes nothing.
use Rattle.std.proofs.Common.{◌≡◌, ℕ, zero, suc, ◌/◌, ◌%◌, ◌^◌, ◌<◌, ◌≤◌, refl, subst, sym, ap, ◌∙◌, arith}
use lib.Count.{ones, ones-le}
use lib.Bits.{bit_xor, bit_and, xor_lt, and_lt}
use lib.Dec.{eqb-suc-zero}
use Rattle.laws.specs.Bits.{combine, sum_n}
use Rattle.laws.proofs.Bits.{sum_cong, ones_xor, ones_and}
use Rattle.step_ones.proofs.pair_ones.Goals as goal
use Rattle.step_ones.proofs.pair_ones.Goals.{then-is_xor, else-is_xor}

-- every mode but 0 is and
and_else : (mode x y : ℕ) → (mode ≡ 0 → ⊥) → combine 1 x y ≡ combine mode x y
unfolding combine
and_else zero x y ne = absurd (ne refl)
and_else (suc m) x y ne = rw eqb-suc-zero refl

module _ (mode x y : ℕ) (hx : x < 2 ^ 64) (hy : y < 2 ^ 64) (n combined : ℕ) (e : n ≡ ones combined) where
  xor : mode ≡ 0 → combined ≡ bit_xor x y → (n ≡ sum_n 64 (λ i. combine mode (x / 2 ^ i % 2) (y / 2 ^ i % 2))) × (n ≤ 64)
  xor zeroth is = (
    e ∙ ap ones is ∙ rw zeroth (ones_xor 64 x y hx hy),
    subst (λ (m : ℕ). m ≤ 64) (sym (e ∙ ap ones is)) (ones-le 64 (bit_xor x y) (xor_lt 64 x y hx hy)),
  )

  and : (mode ≡ 0 → ⊥) → combined ≡ bit_and x y → (n ≡ sum_n 64 (λ i. combine mode (x / 2 ^ i % 2) (y / 2 ^ i % 2))) × (n ≤ 64)
  and ne is = (
    e ∙ ap ones is ∙ ones_and 64 x y hx hy ∙ sum_cong 64 _ _ (λ i h. and_else mode _ _ ne),
    subst (λ (m : ℕ). m ≤ 64) (sym (e ∙ ap ones is)) (ones-le 64 (bit_and x y) (and_lt 64 x y hx hy)),
  )

pub returns : goal.returns
returns c =
    let s = c.args in
    elim c.if-is_xor.branch [
      | then-is_xor w ↦ xor s.mode.0 s.x s.y (omega arith) (omega arith) _ _ refl w.if-is_xor.true w.combined-is
      | else-is_xor w ↦ and s.mode.0 s.x s.y (omega arith) (omega arith) _ _ refl w.if-is_xor.false w.combined-is
    ]
