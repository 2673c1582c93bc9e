-- What document 01 and demand 2 promise of one step, a sentence above its statement. Assumes nothing.
use Rattle.std.proofs.Common.{if◌then◌else◌}
use mathlib.Core.Path.{◌≡◌, sym, ap₂, subst, ◌∙◌}
use mathlib.Core.List.{List}
use Prim.Native.Nat.{ℕ, ◌^◌, ◌<◌, ◌≤◌}
use native.Mathlib.Omega.{arith}
use lib.IntN.{ℤ, pos, negsuc, ◌+ℤ◌, ◌*ℤ◌}
use Rattle.laws.specs.Bits.{combine, ones_in}
use Rattle.laws.specs.Integers.{value, int32, clamp}
use Rattle.laws.specs.Totals.{Wraps}
use Rattle.laws.proofs.Integers.{sum_z_cong, wraps, wraps_only, clamp_in, clamp_past}
use Rattle.laws.proofs.Lists.{tab_ext}
use Rattle.laws.proofs.Totals.{clamp_word}
use Rattle.kinds.specs.Kinds.{columns_at, rows_at, one_bit}
use Rattle.answers.specs.Refusals.{given}
use Rattle.answers.specs.Tests.{holds}
use Rattle.kinds.proofs.Table.{rows_are, columns_are}
use Rattle.step_work.specs.Step.{entry_in, depth, sign_weight, unsigned_a, unsigned_b, products, combined_bits, added, limit, result_at, stepped}
use Rattle.step_limit.specs.Limits.{cell_of}
use Rattle.step.specs.StepCalls.{step_answer}
use Rattle.step_work.specs.Workers.{Ready}
use Rattle.step.proofs.Accepted.{step_accepted}
use Rattle.step_work.proofs.Matrices.{legal, entry_D}

-- the rows and the columns of C and D
abbrev pub rows_d : (kind : ℕ) → ℕ
rows_d kind = rows_at kind 2

abbrev pub columns_d : (kind : ℕ) → ℕ
columns_d kind = columns_at kind 2

-- D's words, read as a matrix, have the result at every row and column.
pub result_at_lem : (k signs mode : ℕ) → Ready k signs mode → (a b c : List ℕ) (row column : ℕ) → row < rows_d k
    → column < columns_d k
    → entry_in k 2 (stepped k signs mode a b c) row column ≡ result_at k signs mode a b c row column
result_at_lem k signs mode ok a b c row column hr hc =
    let l = legal k ok.of 2 (omega arith) in
    entry_D k ok.of signs mode a b c row column (subst (λ (n : ℕ). row < n) (rows_are k 2 l) hr) (subst (λ (n : ℕ). column < n) (columns_are k 2 l) hc)

-- In mode 0 the word's signed number differs from it by a multiple of 2^32, and no other 32-bit word's does.
pub wrapped : (c : ℕ) (exact : ℤ) → Wraps (int32 (cell_of 0 c exact)) (int32 c +ℤ exact)
unfolding cell_of
wrapped c exact = wraps (int32 c +ℤ exact)

pub wrapped_only : (c w : ℕ) (exact : ℤ) → w < 2 ^ 32 → Wraps (int32 w) (int32 c +ℤ exact) → w ≡ cell_of 0 c exact
unfolding cell_of
wrapped_only c w exact h e = wraps_only w (int32 c +ℤ exact) h e

-- In mode 1 the word's signed number is the clamped one, which is the exact one in range and the end that it is past else.
pub clamped : (c : ℕ) (exact : ℤ) → int32 (cell_of 1 c exact) ≡ clamp (int32 c +ℤ exact)
unfolding cell_of
clamped c exact = clamp_word (int32 c +ℤ exact)

pub in_range : (n : ℕ) → n ≤ 2147483647 → (clamp (pos n) ≡ pos n) × (clamp (negsuc n) ≡ negsuc n)
in_range = clamp_in

pub past_end : (n : ℕ) → 2147483647 ≤ n → (clamp (pos n) ≡ pos 2147483647) × (clamp (negsuc n) ≡ negsuc 2147483647)
past_end = clamp_past

-- Two accepted steps that agree in row r of A and C and in B agree in row r of D.
module _ (k signs mode row : ℕ) (a a' b b' c c' : List ℕ)
    (same-a : (kk : ℕ) → kk < depth k → entry_in k 0 a row kk ≡ entry_in k 0 a' row kk)
    (same-b : (kk column : ℕ) → kk < depth k → column < columns_d k → entry_in k 1 b kk column ≡ entry_in k 1 b' kk column)
    (same-c : (column : ℕ) → column < columns_d k → entry_in k 2 c row column ≡ entry_in k 2 c' row column) where
  same_products : (column : ℕ) → column < columns_d k
      → products k signs a b row column ≡ products k signs a' b' row column
  unfolding products
  same_products column h =
      sum_z_cong (depth k) _ _ (λ kk l. ap₂ (λ (x y : ℕ). value (unsigned_a signs) (sign_weight k) x *ℤ value (unsigned_b signs) (sign_weight k) y) (same-a kk l) (same-b kk column l h))

  same_bits : (column : ℕ) → column < columns_d k
      → combined_bits k mode a b row column ≡ combined_bits k mode a' b' row column
  unfolding combined_bits
  same_bits column h = tab_ext (depth k) _ _ (λ kk l. ap₂ (combine mode) (same-a kk l) (same-b kk column l h))

  pub same_added : (column : ℕ) → column < columns_d k
      → added k signs mode a b row column ≡ added k signs mode a' b' row column
  unfolding added
  same_added column h = ap₂ (λ (bits : List ℕ) (z : ℤ). if holds (one_bit k) then pos (ones_in bits) else z) (same_bits column h) (same_products column h)

  pub own_row : (na nb nc nd : ℕ) → step_answer k signs mode na nb nc nd ≡ given tt → row < rows_d k → (column : ℕ)
      → column < columns_d k
      → entry_in k 2 (stepped k signs mode a b c) row column ≡ entry_in k 2 (stepped k signs mode a' b' c') row column
  unfolding result_at
  own_row na nb nc nd e hr column hc =
      let ok = step_accepted k signs mode na nb nc nd e in
      result_at_lem k signs mode ok a b c row column hr hc
      ∙ ap₂ (cell_of (limit k mode)) (same-c column hc) (same_added column hc)
      ∙ sym (result_at_lem k signs mode ok a' b' c' row column hr hc)
