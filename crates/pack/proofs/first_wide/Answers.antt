-- The largest number of b bits is all ones, shifted: what is above it does not fit. Assumes nothing.
use lib.Pow.{pow_pos, ones_split, ones_lt, high}
use borrow.Author.Count.{below_more}
use Rattle.std.proofs.Common.{ℕ, ◌≡◌, refl, ap, ◌∙◌, ◌+◌, ◌-◌, ◌/◌, ◌^◌, ◌≤◌, length, arith}
use Rattle.std.proofs.Math.Nat.{not-le_of_lt}
use Rattle.answers.proofs.Words.{first_here, first_nowhere}
use Rattle.pack.specs.PackCall.{too_wide}
use Rattle.pack.proofs.first_wide.Goals as goal

ones : (bits : ℕ) → bits ≤ 64 → 18446744073709551615 / 2 ^ (64 - bits) ≡ 2 ^ bits - 1
ones bits l =
    let e : 64 ≡ bits + (64 - bits) = omega arith in
    ap (λ (n : ℕ). (2 ^ n - 1) / 2 ^ (64 - bits)) e
    ∙ ap (λ (n : ℕ). n / 2 ^ (64 - bits)) (ones_split bits (64 - bits))
    ∙ high (2 ^ bits - 1) (64 - bits) (ones_lt (64 - bits))

pub returns-then-most-matrix : goal.returns-then-most-matrix
returns-then-most-matrix c =
    let a = c.args in
    first_here (length a.matrix.now) (too_wide a.bits a.matrix.now) c.loop-i.i (omega arith)
    (λ j l. not-le_of_lt (c.loop-i.invariant.1 j l)) (omega (arith, ones a.bits c.requires.1, c.if-most-matrix.true))

pub loop-i-preserved : goal.loop-i-preserved
loop-i-preserved c =
    (omega arith, below_more _ _ c.loop-i.invariant.1 (omega (arith, ones c.args.bits c.requires.1, c.if-most-matrix.false, pow_pos c.args.bits)))

pub returns : goal.returns
returns c =
    let a = c.args in
    first_nowhere (length a.matrix.now) (too_wide a.bits a.matrix.now) (length a.matrix.now) refl (λ j l. not-le_of_lt (c.loop-i.invariant.1 j (omega (arith, l))))
