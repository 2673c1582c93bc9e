-- Of one half and of two, by the digits of k. Assumes nothing.
use Rattle.std.proofs.Common.{◌≡◌, ℕ, ◌+◌, ◌*◌, ◌/◌, ◌%◌, ap₂, arith}
use Rattle.kinds.specs.Rule.{major, minor}
use Rattle.step_ones.specs.Combined.{place_at}
use Rattle.step_ones.proofs.Counter.place_of.Goals as goal

one : (k : ℕ) → k ≡ place_at 1 (k / 2) (k % 2)
unfolding major minor
one k = let deep : k / 2 / 4 ≡ k / 8 = omega arith in omega arith

row : (k : ℕ) → k % 4 / 2 * 8 + k / 16 ≡ major 2 2 (k / 4) (k % 4)
unfolding major
row k = let deep : k / 4 / 4 ≡ k / 16 = omega arith in omega arith

column : (k : ℕ) → k / 4 % 4 * 2 + k % 2 ≡ minor 2 2 (k / 4) (k % 4)
unfolding minor
column k = omega arith

pub returns-then-this-eq1-clause-is : goal.returns-then-this-eq1-clause-is
returns-then-this-eq1-clause-is g c = rw c.if-this-eq1.true (one c.args.k)

pub returns-clause-is : goal.returns-clause-is
returns-clause-is g c = let s = c.args in let e : g.row.HALVES ≡ 2 = omega arith in rw e (ap₂ (λ (r c : ℕ). r * 8 + c) (row s.k) (column s.k))
