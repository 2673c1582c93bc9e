-- The words of D, one at a place: in mode 0 the word that is congruent to the sum of C's word and a difference, in mode 1 a minimum and a
-- truncated difference above the lowest number. There the result is inside or not, as the sum above the lowest number says. Assumes nothing.
use Rattle.std.proofs.Common.{◌≡◌, ℕ, ◌+◌, ◌-◌, ◌%◌, ◌^◌, ◌<◌, ◌≤◌, min, Bool, true, false, ◌⊎◌, inl, inr, sym, ℤ, ◌+ℤ◌, refl, arith, if◌then◌else◌}
use lib.IntN.{sub_ℕ}
use Rattle.laws.specs.Choice.{◌=?◌}
use Rattle.laws.specs.Integers.{int32, outside}
use Rattle.laws.proofs.Differences.{sub_add}
use Rattle.laws.proofs.Integers.{int_is, word_is, clamp_is, inside_is, outside_is, outside_le}
use Rattle.step_limit.specs.Limits.{cell_of, mark_of}

module _ (mode c p n : ℕ) (hc : c < 2 ^ 32) where
  pub wrapped : {w : ℕ} → mode ≡ 0 → w < 2 ^ 32 → (w + n) % 2 ^ 32 ≡ (c + p) % 2 ^ 32 → w ≡ cell_of mode c (sub_ℕ p n)
  unfolding cell_of
  wrapped {w} m hw e =
      rw (m, int_is c hc, sub_add ((c + 2 ^ 31) % 2 ^ 32) (2 ^ 31) p n) (word_is w ((c + 2 ^ 31) % 2 ^ 32 + p) (2 ^ 31 + n) hw (omega arith))

  pub clamped : {w : ℕ} → mode ≡ 1 → w ≡ (min (2 ^ 32 - 1) ((c + 2 ^ 31) % 2 ^ 32 + p - n) + 2 ^ 31) % 2 ^ 32 → w ≡ cell_of mode c (sub_ℕ p n)
  unfolding cell_of
  clamped {w} m e =
      rw (m, int_is c hc, sub_add ((c + 2 ^ 31) % 2 ^ 32) (2 ^ 31) p n, clamp_is)
      (word_is w (min (2 ^ 32 - 1) ((c + 2 ^ 31) % 2 ^ 32 + p - n)) (2 ^ 31) (omega arith) (omega arith))

  pub wraps_unmarked : mode ≡ 0 → 0 ≡ mark_of mode c (sub_ℕ p n)
  unfolding mark_of
  wraps_unmarked m = rw m refl

  pub inside : mode ≡ 1 → n ≤ (c + 2 ^ 31) % 2 ^ 32 + p → (c + 2 ^ 31) % 2 ^ 32 + p < 2 ^ 32 + n → 0 ≡ mark_of mode c (sub_ℕ p n)
  unfolding mark_of
  inside m low high = rw (m, int_is c hc, sub_add ((c + 2 ^ 31) % 2 ^ 32) (2 ^ 31) p n, inside_is ((c + 2 ^ 31) % 2 ^ 32 + p) n low high) refl

  pub cut_off : mode ≡ 1 → ((c + 2 ^ 31) % 2 ^ 32 + p < n) ⊎ (2 ^ 32 + n ≤ (c + 2 ^ 31) % 2 ^ 32 + p) → 1 ≡ mark_of mode c (sub_ℕ p n)
  unfolding mark_of
  cut_off m h = rw (m, int_is c hc, sub_add ((c + 2 ^ 31) % 2 ^ 32) (2 ^ 31) p n, outside_is ((c + 2 ^ 31) % 2 ^ 32 + p) n h) refl

-- the word and its mark in each case, as the code tells them apart
pub cell_wraps : (mode c p n : ℕ) → c < 2 ^ 32 → n ≤ 2 ^ 32 → mode ≡ 0 → cell_of mode c (sub_ℕ p n) ≡ (c + p + (2 ^ 32 - n)) % 2 ^ 32
cell_wraps mode c p n hc hn m = sym (wrapped mode c p n hc m (omega arith) (omega arith))

pub cell_clamps : (mode c p n : ℕ) → c < 2 ^ 32 → mode ≡ 1
    → cell_of mode c (sub_ℕ p n) ≡ (min (2 ^ 32 - 1) ((c + 2 ^ 31) % 2 ^ 32 + p - n) + 2 ^ 31) % 2 ^ 32
cell_clamps mode c p n hc m = sym (clamped mode c p n hc m refl)

pub mark_wraps : (mode c p n : ℕ) → c < 2 ^ 32 → mode ≡ 0 → mark_of mode c (sub_ℕ p n) ≡ 0
mark_wraps mode c p n hc m = sym (wraps_unmarked mode c p n hc m)

pub mark_inside : (mode c p n : ℕ) → c < 2 ^ 32 → mode ≡ 1 → n ≤ (c + 2 ^ 31) % 2 ^ 32 + p → (c + 2 ^ 31) % 2 ^ 32 + p < 2 ^ 32 + n
    → mark_of mode c (sub_ℕ p n) ≡ 0
mark_inside mode c p n hc m low high = sym (inside mode c p n hc m low high)

pub mark_below : (mode c p n : ℕ) → c < 2 ^ 32 → mode ≡ 1 → (c + 2 ^ 31) % 2 ^ 32 + p < n → mark_of mode c (sub_ℕ p n) ≡ 1
mark_below mode c p n hc m h = sym (cut_off mode c p n hc m (inl h))

pub mark_above : (mode c p n : ℕ) → c < 2 ^ 32 → mode ≡ 1 → 2 ^ 32 + n ≤ (c + 2 ^ 31) % 2 ^ 32 + p → mark_of mode c (sub_ℕ p n) ≡ 1
mark_above mode c p n hc m h = sym (cut_off mode c p n hc m (inr h))

pub ruleset limits = (cell_wraps, cell_clamps, mark_wraps, mark_inside, mark_below, mark_above)

-- a mark is 0 or 1
pub mark_le : (mode c : ℕ) (z : ℤ) → mark_of mode c z ≤ 1
unfolding mark_of
mark_le mode c z = either (mode =? 0)
  where
    either : (t : Bool) → (if t then 0 else outside (int32 c +ℤ z)) ≤ 1
    either true = omega arith
    either false = outside_le (int32 c +ℤ z)
