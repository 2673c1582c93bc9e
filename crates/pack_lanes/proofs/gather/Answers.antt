-- A turn puts one entry more on top; there is room for it, and the sum stays below 2 ^ 32. Assumes nothing.
use lib.Pow.{shl_exact, pow_mono}
use Rattle.std.proofs.Common.{ℕ, ◌≡◌, refl, sym, ap, ap₂, subst, ◌∙◌, ◌+◌, ◌*◌, ◌%◌, ◌^◌, ◌<◌, ◌≤◌, List, length, get_or, arith}
use Rattle.std.proofs.Math.Nat.{mul-le-mul_left, lt_of_lt_of_le, le_trans, mul-suc}
use Rattle.laws.specs.Fields.{joined}
use Rattle.laws.proofs.Fields.{joined_more, joined_lt}
use Rattle.kinds.specs.Places.{lowest_bit}
use Rattle.kinds.proofs.Spots.{bit_first}
use Rattle.buffers.specs.Buffers.{Fitting}
use Rattle.pack_lanes.proofs.gather.Goals as goal

module _ (m : List ℕ) (bits base step count : ℕ) (narrow : bits * count ≤ 32) (fitting : Fitting bits m) (inside : (j : ℕ) → j < count → base + j * step < length m) where
  abbrev entry : ℕ → ℕ
  entry j = get_or m (base + j * step) 0

  fit : (j : ℕ) → j < count → entry j < 2 ^ bits
  fit j h = fitting (base + j * step) (inside j h)

  -- so many entries make a number below 2 ^ 32
  below : (n : ℕ) → n ≤ count → joined bits n entry < 2 ^ 32
  below n h = lt_of_lt_of_le (joined_lt bits n entry (λ k l. fit k (omega arith))) (pow_mono (le_trans (mul-le-mul_left bits h) narrow))

  module _ (j : ℕ) (h : j < count) where
    -- there is room for one entry more
    room : bits + bits * j ≤ 32
    room = omega (arith, mul-suc bits j, mul-le-mul_left bits h, narrow)

    -- the number after a turn
    value : (n sum : ℕ) → n ≡ lowest_bit bits j → sum ≡ joined bits j entry → entry j * 2 ^ n % 2 ^ 64 + sum ≡ joined bits (j + 1) entry
    value n sum e es =
        ap₂ (λ (x y : ℕ). x + y)
        (ap (λ (n : ℕ). entry j * 2 ^ n % 2 ^ 64) (e ∙ bit_first bits j room)
        ∙ shl_exact bits (bits * j) 64 (fit j h) (omega (arith, room)))
        es
        ∙ sym (joined_more bits j entry)

    value_lt : (n sum : ℕ) → n ≡ lowest_bit bits j → sum ≡ joined bits j entry → entry j * 2 ^ n % 2 ^ 64 + sum < 2 ^ 64
    value_lt n sum e es = subst (λ (z : ℕ). z < 2 ^ 64) (sym (value n sum e es)) (omega (arith, below (j + 1) (omega arith)))

pub loop-j-init : goal.loop-j-init
unfolding joined
loop-j-init c = (omega arith, refl)

pub overflow_add-sum-in-loop-j : goal.overflow_add-sum-in-loop-j
overflow_add-sum-in-loop-j c =
    let a = c.args in
    let b = c.requires.count_bound in
    record { fits = value_lt a.matrix.now a.bits a.base a.step a.count b.0 b.4 c.requires.by_index c.loop-j.j (omega arith) _ _ c.of.ensures.is.2 c.loop-j.invariant.1 }

pub loop-j-preserved : goal.loop-j-preserved
loop-j-preserved c =
    let a = c.args in
    let b = c.requires.count_bound in
    (omega arith, value a.matrix.now a.bits a.base a.step a.count b.0 b.4 c.requires.by_index c.loop-j.j (omega arith) _ _ c.of.ensures.is.2 c.loop-j.invariant.1)

pub returns-clause-small : goal.returns-clause-small
returns-clause-small c =
    let a = c.args in
    let b = c.requires.count_bound in
    subst (λ (z : ℕ). z < 2 ^ 32) (sym c.loop-j.invariant.1) (below a.matrix.now a.bits a.base a.step a.count b.0 b.4 c.requires.by_index c.loop-j.j (omega arith))
