-- After q turns the sum is the ones among the combined bits of the first q pairs. Assumes nothing.
use Rattle.std.proofs.Common.{◌≡◌, ℕ, ◌+◌, ◌*◌, ◌/◌, ◌%◌, ◌^◌, get_or, refl, sym, ap, ◌∙◌, arith, rules}
use native.Mathlib.Nat.{add-zero}
use Rattle.laws.specs.Bits.{combine, ones_in, sum_n}
use Rattle.laws.specs.Lists.{tab}
use Rattle.laws.proofs.Fields.{joined_is}
use Rattle.step_ones.specs.Combined.{down_bits}
use Rattle.step_ones.proofs.Counts.{ones_more}
use Rattle.step_ones.proofs.Counter.ones_of.Goals as goal

pub loop-q-init : goal.loop-q-init
unfolding down_bits tab ones_in
loop-q-init g c = (search rules, refl)

pub loop-q-preserved : goal.loop-q-preserved
loop-q-preserved g c =
    let s = c.args in
    let q = c.loop-q.q in
    let i = s.row * (g.row.SPANS * 4) in
    let ones = c.pair_ones-ones in
    let word : ℕ → ℕ = λ k. get_or s.rows.now (i + 2 * q + k) 0 in
    let joined = c.join.ensures ∙ joined_is 32 word _ _ (sym (ap (λ (n : ℕ). get_or s.rows.now n 0) (add-zero (i + 2 * q)))) refl in
    let counted =
    ones.ensures.0
    ∙ ap (λ (p : ℕ). sum_n 64 (λ t. combine s.self.mode.0 (p / 2 ^ t % 2) (get_or s.pairs.now (q * 8 + s.column) 0 / 2 ^ t % 2))) joined in
    let m =
    ones_more s.self.mode.0 s.rows.now s.pairs.now i s.column (λ k. (c.type_inv.rows k).fits) q ones.result counted in
    (omega arith, ap (λ (n : ℕ). n + ones.result) c.loop-q.invariant.1 ∙ m)

pub returns : goal.returns
returns g c =
    let s = c.args in
    let e : c.loop-q.q ≡ g.row.SPANS * 2 = omega arith in
    c.loop-q.invariant.1 ∙ ap (λ (n : ℕ). ones_in (down_bits s.self.mode.0 n s.rows.now s.pairs.now (s.row * (g.row.SPANS * 4)) s.column)) e
