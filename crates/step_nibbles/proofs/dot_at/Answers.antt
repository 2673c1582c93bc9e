-- The spans are one or two, written out. Assumes nothing.
use Rattle.std.proofs.Common.{◌≡◌, ℕ, ◌+◌, ◌*◌, List, get_or, sym, subst, arith}
use Rattle.step_products.specs.Sums.{Dots}
use Rattle.step_products.specs.declared.Dot.{Dot}
use Rattle.step_nibbles.specs.Planes.{Small}
use Rattle.step_nibbles.proofs.dot_at.Goals as goal

rows : (spans n row : ℕ) (x : List ℕ) → spans ≡ n → Small (spans * 32) (row * (spans * 32)) x → Small (n * 32) (row * (n * 32)) x
rows spans n row x e = subst (λ (n : ℕ). Small (n * 32) (row * (n * 32)) x) e

dots : (spans n row column : ℕ) (x y : List ℕ) (r : Dot) → spans ≡ n
    → Dots (n * 32) (λ k. get_or x (row * (n * 32) + k) 0) (λ k. get_or y (column * (n * 32) + k) 0) r
    → Dots (spans * 32) (λ k. get_or x (row * (spans * 32) + k) 0) (λ k. get_or y (column * (spans * 32) + k) 0) r
dots spans n row column x y r e d =
    subst (λ (n : ℕ). Dots (n * 32) (λ k. get_or x (row * (n * 32) + k) 0) (λ k. get_or y (column * (n * 32) + k) 0) r) (sym e) d

pub returns-then-spans-eq1 : goal.returns-then-spans-eq1
returns-then-spans-eq1 c =
    let s = c.args in
    dots _ 1 s.row s.column s.x.now s.y.now _ c.if-spans-eq1.true c.dot_of.ensures

pub dot_of-requires-2 : goal.dot_of-requires-2
dot_of-requires-2 c =
    let s = c.args in
    let e : s.spans ≡ 2 = omega (arith, c.if-spans-eq1.false, c.requires) in
    (omega arith, omega (arith, c.requires), omega (arith, c.requires), rows _ 2 s.row s.x.now e c.requires.4, rows _ 2 s.column s.y.now e c.requires.5, c.requires.6)

pub returns : goal.returns
returns c =
    let s = c.args in
    let e : s.spans ≡ 2 = omega (arith, c.if-spans-eq1.false, c.requires) in
    dots _ 2 s.row s.column s.x.now s.y.now _ e c.dot_of-2.ensures
