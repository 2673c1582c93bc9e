-- The index of a place is inside the matrix, and the elements of a word stand side by side: their indices are a step apart. Assumes nothing.
use mathlib.Core.Path.{◌≡◌, sym, ap, ap₂, ◌∙◌, subst}
use mathlib.Core.Bool.{Bool, true, false}
use Prim.Native.Nat.{ℕ, ◌+◌, ◌*◌, ◌/◌, ◌%◌, ◌≤◌, ◌<◌}
use native.Mathlib.Nat.{mul_assoc, add-mul, add-zero, eq_of_mul-eq-mul_left, mul_comm, mul-pos}
use native.Mathlib.Omega.{arith}
use lib.Arith.{digits_lt, digits_div, digits_mod}
use Rattle.kinds.specs.Kinds.{lanes}
use Rattle.kinds.specs.Rule.{Layout, elements_of, majors, minors, rows_of, columns_of, turn, major, minor, place_in}
use Rattle.kinds.specs.Laid.{Laid}
use Rattle.kinds.proofs.Digits.{major_lt, minor_lt}
use Rattle.buffers.specs.Buffers.{index}
use Rattle.buffers.specs.Stretches.{step_of}
use Rattle.buffers.proofs.Elements.{bits_le}

index_in : (t : Bool) (m n x y : ℕ) → x < m → y < n → index (turn t (m, n)).1 (turn t (x, y)) < (turn t (m, n)).0 * (turn t (m, n)).1
index_in false m n x y hx hy = digits_lt hx hy
index_in true m n x y hx hy = digits_lt hy hx

index_next : (t : Bool) (columns x y j : ℕ) → index columns (turn t (x, y + j)) ≡ index columns (turn t (x, y)) + j * step_of t columns
index_next false columns x y j = omega arith
index_next true columns x y j = omega (arith, add-mul y j columns)

-- elements side by side have one major number, and their minor numbers follow one another
module _ (p h l r j : ℕ) (lt : j < p) where
  side_major : major p h l (r * p + j) ≡ r % h * 8 + l / 4
  unfolding major
  side_major = ap (λ (n : ℕ). n % h * 8 + l / 4) (digits_div r lt)

  side_minor : minor p h l (r * p + j) ≡ (r / h * 4 + l % 4) * p + j
  unfolding minor
  side_minor = ap₂ (λ (m n : ℕ). (m / h * 4 + l % 4) * p + n) (digits_div r lt) (digits_mod r lt)

-- the place of the first of them
module _ (p h l r : ℕ) (some : 0 < p) where
  pub first_major : major p h l (r * p) ≡ r % h * 8 + l / 4
  first_major = ap (major p h l) (sym (add-zero (r * p))) ∙ side_major p h l r 0 some

  pub first_minor : minor p h l (r * p) ≡ (r / h * 4 + l % 4) * p
  first_minor = ap (minor p h l) (sym (add-zero (r * p))) ∙ side_minor p h l r 0 some ∙ add-zero ((r / h * 4 + l % 4) * p)

module _ (f : Layout) (ok : Laid f) where
  pub place_in_lem : (lane i : ℕ) → lane < lanes → i < elements_of f → index (columns_of f) (place_in f lane i) < rows_of f * columns_of f
  place_in_lem lane i hl hi =
      index_in f.turned (majors f) (minors f) (major f.side f.halves lane i) (minor f.side f.halves lane i)
      (major_lt f.side f.halves ok.side_pos ok.halves_pos lane i hl) (minor_lt f.side f.halves ok.side_pos ok.halves_pos f.spans lane i hi)

  pub side_index : (lane r j : ℕ) → j < f.side
      → index (columns_of f) (place_in f lane (r * f.side + j)) ≡ index (columns_of f) (place_in f lane (r * f.side)) + j * step_of f.turned (columns_of f)
  side_index lane r j h =
      ap₂ (λ (x y : ℕ). index (columns_of f) (turn f.turned (x, y)))
      (side_major f.side f.halves lane r j h ∙ sym (first_major f.side f.halves lane r ok.side_pos))
      (side_minor f.side f.halves lane r j h ∙ ap (λ (y : ℕ). y + j) (sym (first_minor f.side f.halves lane r ok.side_pos)))
      ∙ index_next f.turned (columns_of f) (major f.side f.halves lane (r * f.side)) (minor f.side f.halves lane (r * f.side)) j

  pub halves_per : f.bits ≡ 64 → f.words ≡ 2 * elements_of f
  halves_per e = let g : 64 * elements_of f ≡ 32 * f.words = subst (λ (b : ℕ). b * elements_of f ≡ 32 * f.words) e ok.full in omega arith

  -- a wide element takes a word, or two
  pub wide_is : 32 ≤ f.bits → (f.bits ≡ 64 → ⊥) → (f.bits ≡ 32) × (elements_of f ≡ f.words)
  wide_is h ne =
      let e : f.bits ≡ 32 = omega (arith, bits_le f.bits ok.width ne) in
      (e, let g : 32 * elements_of f ≡ 32 * f.words = subst (λ (b : ℕ). b * elements_of f ≡ 32 * f.words) e ok.full in omega arith)

  -- the elements of a narrow stretch fill a word
  module _ (h : f.bits < 32) where
    pub stretch_fills : f.bits * f.side ≡ 32
    stretch_fills = ap (λ (p : ℕ). f.bits * p) (ok.narrow_side h) ∙ ok.width.narrow (λ e. omega arith)

    pub stretch_words : f.spans * f.halves ≡ f.words
    stretch_words =
        eq_of_mul-eq-mul_left 32 (omega arith) (f.spans * f.halves) f.words
        (ap (λ (z : ℕ). z * (f.spans * f.halves)) (sym stretch_fills) ∙ mul_assoc f.bits f.side (f.spans * f.halves) ∙ ap (λ (z : ℕ). f.bits * z) (mul_comm f.side (f.spans * f.halves)) ∙ ok.full)

  pub columns_pos : 0 < columns_of f
  columns_pos = go f.turned
    where
      go : (t : Bool) → 0 < (turn t (majors f, minors f)).1
      go false = mul-pos (mul-pos ok.spans_pos (omega arith)) ok.side_pos
      go true = omega (arith, ok.halves_pos)
