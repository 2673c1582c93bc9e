-- After q turns the three sums are those of q times sixteen digits. Assumes nothing.
use Rattle.std.proofs.Common.{◌≡◌, ℕ, ◌+◌, ◌*◌, ◌<◌, ◌≤◌, List, get_or, refl, ap, subst, arith}
use Rattle.laws.specs.Bits.{sum_n}
use Rattle.step_products.specs.Sums.{Dots}
use Rattle.step_nibbles.specs.Planes.{Small}
use Rattle.step_nibbles.proofs.Sixteens.{dots_more}
use Rattle.step_nibbles.proofs.dot_of.Goals as goal

pub loop-q-init : goal.loop-q-init
unfolding sum_n
loop-q-init c = record { products = refl; of_a = refl; of_b = refl; products_le = omega arith; a_le = omega arith; b_le = omega arith }

-- a part of what is small
part : (m n i : ℕ) (x : List ℕ) → m + 16 ≤ n → Small n i x → Small 16 (i + m) x
part m n i x h s k l =
    let e : i + (m + k) ≡ i + m + k = omega arith in
    subst (λ (z : ℕ). get_or x z 0 < 16) e (s (m + k) (omega arith))

pub sixteen-s-requires : goal.sixteen-s-requires
sixteen-s-requires c =
    let a = c.args in
    let s = c.requires in
    let q = c.loop-q.q in
    let ends : q * 16 + 16 ≤ a.n * 16 = omega (arith, c.loop-q-test.true) in
    (omega (arith, s.1, ends), omega (arith, s.2, ends), part (q * 16) (a.n * 16) a.i a.x.now ends s.3, part (q * 16) (a.n * 16) a.j a.y.now ends s.4, s.5)

pub loop-q-preserved : goal.loop-q-preserved
loop-q-preserved c =
    let l = c.loop-q in
    let a = c.args in
    let r = c.sixteen-s.result in
    let e : l.q * 16 + 16 ≡ (l.q + 1) * 16 = omega arith in
    subst (λ (n : ℕ). Dots n (λ k. get_or a.x.now (a.i + k) 0) (λ k. get_or a.y.now (a.j + k) 0) (record { products = l.products + r.products; a = l.a + r.a; b = l.b + r.b })) e
    (dots_more (l.q * 16) 16 _ _ _ _ _ _ l.invariant c.sixteen-s.ensures
    (λ k h. (ap (λ (z : ℕ). get_or a.x.now z 0) (omega arith), ap (λ (z : ℕ). get_or a.y.now z 0) (omega arith))))
