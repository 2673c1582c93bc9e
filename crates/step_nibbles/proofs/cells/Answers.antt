-- The loop stores the words of D in order, and sets their marks. Assumes nothing.
use Rattle.std.proofs.Common.{◌≡◌, ℕ, ◌+◌, ◌*◌, ◌<◌, ◌≤◌, List, set, refl, sym, ap, ap₂, subst, ◌∙◌, arith}
use native.Mathlib.Nat.{zero-add}
use Rattle.laws.specs.Lists.{fills}
use Rattle.laws.proofs.Lists.{fills_front, fills_all}
use Rattle.kinds.specs.Kinds.{lanes}
use Rattle.kinds.specs.Rule.{minors}
use Rattle.step_limit.specs.Workers.{with_mark, with_marks}
use Rattle.step_limit.proofs.Marks.{with_one}
use Rattle.step_products.specs.Sums.{digits_words, digits_marks}
use Rattle.step_products.proofs.Worded.{marks_le}
use Rattle.step_nibbles.proofs.cells.Invariants.{word, mark}
use Rattle.step_nibbles.proofs.cells.Goals as goal
use Rattle.step_nibbles.proofs.cells.Goals.{After-cell-one}

module _ (c : After-cell-one) where
  abbrev f : ℕ → ℕ
  f = mark c.args.l c.args.mode.0 c.args.h c.args.x.now c.args.y.now c.args.c.now

  in_marks : c.loop-k.k < 128
  in_marks = omega (arith, c.loop-k-test.true, c.requires.0.of_d, c.requires.0.pairs, c.requires.0.halves_le)

  small : c.cell-one.result.mark ≤ 1
  small =
      let a = c.args in
      subst (λ (m : ℕ). m ≤ 1) (sym c.cell-one.ensures.mark) (marks_le a.l.c (minors a.l.a) a.mode.0 a.h a.x.now a.y.now a.c.now c.loop-k.k)

pub loop-k-init : goal.loop-k-init
unfolding fills with_marks
loop-k-init c = (refl, refl)

pub keep-requires : goal.keep-requires
keep-requires c =
    let t = (goal.at.keep-requires c).After-cell-one in
    (c.loop-k.auto.marks ∙ c.requires.2, in_marks t, small t)

pub loop-k-preserved : goal.loop-k-preserved
loop-k-preserved c =
    let t = (goal.at.loop-k-preserved c).After-cell-one in
    let l = c.loop-k in
    let s = c.args in
    let k = l.k in
    let d = s.d.now in
    let g = word s.l s.mode.0 s.h s.x.now s.y.now s.c.now in
    let set-one : with_mark k (f t k) (with_marks 0 k (f t) s.marks.now) ≡ with_marks 0 (k + 1) (f t) s.marks.now
    = ap (λ (j : ℕ). with_mark j (f t j) (with_marks 0 k (f t) s.marks.now)) (sym (zero-add k)) ∙ with_one 0 k (f t) s.marks.now in (
      ap₂ (λ (ys : List ℕ) (v : ℕ). set ys k v) l.invariant.0 c.cell-one.ensures.word ∙ fills_front k g d,
      c.keep.ensures ∙ ap₂ (λ (m : ℕ) (ms : List ℕ). with_mark k m ms) c.cell-one.ensures.mark l.invariant.1 ∙ set-one,
    )

pub returns-clause-words : goal.returns-clause-words
unfolding digits_words
returns-clause-words c =
    let a = c.args in
    let d = a.d.now in
    let g = word a.l a.mode.0 a.h a.x.now a.y.now a.c.now in
    let e : c.loop-k.k ≡ lanes * a.l.c.words = omega (arith, c.requires.0.of_d) in
    c.loop-k.invariant.0 ∙ ap (λ (n : ℕ). fills 0 n g d) e ∙ fills_all _ g d 0 c.requires.0.of_d

pub returns-clause-marks : goal.returns-clause-marks
unfolding digits_marks
returns-clause-marks c =
    let a = c.args in
    let e : c.loop-k.k ≡ lanes * a.l.c.words = omega (arith, c.requires.0.of_d) in
    c.loop-k.invariant.1 ∙ ap (λ (n : ℕ). with_marks 0 n (mark a.l a.mode.0 a.h a.x.now a.y.now a.c.now) a.marks.now) e
