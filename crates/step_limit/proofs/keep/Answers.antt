-- Where nothing is to be set the word stays, and a mark that is shifted within a word loses nothing. Assumes nothing.
use Rattle.std.proofs.Common.{ℕ, ◌+◌, ◌*◌, ◌/◌, ◌%◌, ◌^◌, ◌≤◌, get_or, set, sym, ap, ◌∙◌, zero-mul, arith, shl_exact}
use lib.Bits.{bit_or, or_zero_r}
use lib.Seq.{set-get_or}
use Rattle.step_limit.specs.Workers.{with_mark}
use Rattle.step_limit.proofs.keep.Goals as goal

pub returns-then-mark-eq0 : goal.returns-then-mark-eq0
unfolding with_mark
returns-then-mark-eq0 c =
    let a = c.args in
    let m = a.marks.now in
    let w = get_or m (a.k / 32) 0 in
    sym
    (ap (λ (n : ℕ). set m (a.k / 32) (bit_or w (n * 2 ^ (a.k % 32)))) c.if-mark-eq0.true
    ∙ ap (λ (n : ℕ). set m (a.k / 32) (bit_or w n)) (zero-mul (2 ^ (a.k % 32)))
    ∙ ap (λ (n : ℕ). set m (a.k / 32) n) (or_zero_r w)
    ∙ set-get_or m (a.k / 32) 0)

pub returns : goal.returns
unfolding with_mark
returns c =
    let a = c.args in
    let m = a.marks.now in
    let few : 1 + a.k % 32 ≤ 32 = omega arith in
    ap (λ (v : ℕ). set m (a.k / 32) (bit_or (get_or m (a.k / 32) 0) v)) (shl_exact 1 (a.k % 32) 32 (omega arith) few)
