-- After i turns the buffer holds i planes, one after another. Assumes nothing.
use Rattle.std.proofs.Common.{◌≡◌, ℕ, ◌+◌, ◌*◌, List, length, get_or, refl, sym, ap, ◌∙◌, arith}
use native.Mathlib.Nat.{zero-add}
use Rattle.laws.specs.Lists.{fills, blocks}
use Rattle.laws.proofs.Lists.{fills_block, fills_at, length_fills}
use Rattle.step_nibbles.proofs.planes.put.Invariants.{bits}
use Rattle.step_nibbles.proofs.planes.put.Goals as goal

pub loop-i-init : goal.loop-i-init
unfolding fills
loop-i-init c = refl

pub put_one-requires : goal.put_one-requires
put_one-requires c =
    let s = c.args in
    (c.loop-i-test.true, ap length c.loop-i.invariant ∙ length_fills 0 (c.loop-i.i * 512) (blocks 512 (bits s.y.now)) s.out.now ∙ c.requires)

pub loop-i-preserved : goal.loop-i-preserved
loop-i-preserved c =
    let i = c.loop-i.i in
    let g = bits c.args.y.now in
    let out = c.args.out.now in
    c.put_one.ensures
    ∙ ap (λ (xs : List ℕ). fills (i * 512) 512 (g i) xs) c.loop-i.invariant
    ∙ ap (λ (base : ℕ). fills base 512 (g i) (fills 0 (i * 512) (blocks 512 g) out)) (sym (zero-add (i * 512)))
    ∙ fills_block 0 i 512 g out

pub returns : goal.returns
returns c i j hi hj =
    let g = bits c.args.y.now in
    let out = c.args.out.now in
    let e : c.loop-i.i ≡ 4 = omega arith in
    ap (λ (xs : List ℕ). get_or xs (i * 512 + j) 0) (c.loop-i.invariant ∙ ap (λ (n : ℕ). fills 0 (n * 512) (blocks 512 g) out) e)
    ∙ fills_at 4 512 g out 0 i j (omega (arith, c.requires)) hi hj
