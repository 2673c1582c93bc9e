-- The loop stores the pairs in order, eight columns for each number. Assumes nothing.
use Rattle.std.proofs.Common.{◌≡◌, ℕ, ◌+◌, ◌*◌, ◌/◌, ◌%◌, List, length, get_or, set, take, drop, replicate, refl, ap, ap₂, ◌∙◌, arith, length-take}
use Rattle.std.proofs.Math.ListN.{get_or-append}
use lib.Arith.{digits_lt}
use Rattle.laws.specs.Lists.{fills}
use Rattle.laws.proofs.Fields.{joined_is}
use Rattle.laws.proofs.Lists.{fills_front, fills_at}
use Rattle.step_ones.specs.Combined.{word_at, pair_of}
use Rattle.step_ones.proofs.Counter.pairs.Invariants.{pair_at}
use Rattle.step_ones.proofs.Counter.pairs.Goals as goal

-- the front that is filled, and what is left
zeros : List ℕ
zeros = replicate 32 0

pub loop-k-init : goal.loop-k-init
unfolding fills
loop-k-init g c = refl

pub loop-k-preserved : goal.loop-k-preserved
unfolding zeros
loop-k-preserved g c =
    let s = c.args in
    let spans = g.row.SPANS in
    let k = c.loop-k.k in
    let word : ℕ → ℕ = λ h. get_or s.words.now (word_at spans 1 (k % 8) (2 * (k / 8) + h)) 0 in
    let low : k / 8 * 2 ≡ 2 * (k / 8) + 0 = omega arith in
    let high : k / 8 * 2 + 1 ≡ 2 * (k / 8) + 1 = omega arith in
    let value =
    c.join.ensures
    ∙ joined_is 32 word _ _
    (c.word_of.ensures ∙ ap (λ (n : ℕ). get_or s.words.now (word_at spans 1 (k % 8) n) 0) low)
    (c.word_of-in-loop-k.ensures ∙ ap (λ (n : ℕ). get_or s.words.now (word_at spans 1 (k % 8) n) 0) high) in
    ap₂ (λ (ys : List ℕ) (v : ℕ). set ys k v) c.loop-k.invariant value ∙ fills_front k (pair_at spans s.words.now) (take (spans * 16) zeros)

pub returns : goal.returns
unfolding zeros
returns g c =
    let s = c.args in
    let spans = g.row.SPANS in
    let front = take (spans * 16) zeros in
    let long : length front ≡ spans * 2 * 8 = omega (arith, length-take (spans * 16) zeros) in
    let e : c.loop-k.k ≡ spans * 2 * 8 = omega arith in
    record {
      at = λ q column hq hc.
          get_or-append c.loop-k.pair-items (drop (spans * 16) zeros) 0 (q * 8 + column) (omega (arith, digits_lt hq hc))
          ∙ ap (λ (xs : List ℕ). get_or xs (q * 8 + column) 0) (c.loop-k.invariant ∙ ap (λ (n : ℕ). fills 0 n (pair_at spans s.words.now) front) e)
          ∙ fills_at (spans * 2) 8 (λ q column. pair_of spans s.words.now column q) front 0 q column (omega arith) hq hc;
    }
