-- Each turn brings the words of one lane more, and at the end every word of D is one of them. Assumes nothing.
use Rattle.std.proofs.Common.{◌≡◌, ℕ, ◌*◌, ◌<◌, inl, sym, ap, subst, ◌∙◌, zero-mul, arith}
use Rattle.laws.specs.Toward.{Brings, Below}
use Rattle.laws.proofs.Toward.{brings_none, brings_more, brings_all}
use Rattle.step_limit.specs.Workers.{with_marks}
use Rattle.step_limit.proofs.Marks.{with_block}
use Rattle.kinds.specs.Kinds.{lanes}
use Rattle.step_products.specs.Sums.{digits_words, digits_marks}
use Rattle.step_products.proofs.Worded.{words_length, lane_covered}
use Rattle.step_products.proofs.cells.Invariants.{Words}
use Rattle.step_products.proofs.cells.Goals as goal

pub loop-lane-init : goal.loop-lane-init
unfolding with_marks
loop-lane-init c =
    let a = c.args in
    let u = digits_words a.l a.mode.0 a.h a.x.now a.y.now a.c.now in
    let v = digits_marks a.l a.mode.0 a.h a.x.now a.y.now a.c.now in
    (brings_none u (Words a.l.c.words) a.d.now, ap (λ (n : ℕ). with_marks 0 n v a.marks.now) (sym (zero-mul a.l.c.words)))

pub loop-lane-preserved : goal.loop-lane-preserved
loop-lane-preserved c =
    let a = c.args in
    let l = c.loop-lane in
    let each = a.l.c.words in
    let u = digits_words a.l a.mode.0 a.h a.x.now a.y.now a.c.now in
    let v = digits_marks a.l a.mode.0 a.h a.x.now a.y.now a.c.now in (
      brings_more u (Words each) l.lane a.d.now l.d _ l.invariant.0 c.lane_cells.ensures.words,
      c.lane_cells.ensures.marks ∙ ap (with_marks (l.lane * each) each v) l.invariant.1 ∙ with_block l.lane each v a.marks.now,
    )

pub returns-clause-words : goal.returns-clause-words
returns-clause-words c =
    let a = c.args in
    let l = c.loop-lane in
    let each = a.l.c.words in
    let u = digits_words a.l a.mode.0 a.h a.x.now a.y.now a.c.now in
    let size = words_length a.l a.mode.0 a.h a.x.now a.y.now a.c.now in
    let some : 0 < each = omega (arith, c.requires.0.pairs, c.requires.0.halves_pos) in
    let e : l.lane ≡ lanes = omega arith in
    brings_all u (Below lanes (Words each)) a.d.now l.d (c.requires.0.of_d ∙ sym size)
    (λ x h. inl (lane_covered each x some (subst (λ (n : ℕ). x < n) size h)))
    (subst (λ (n : ℕ). Brings u (Below n (Words each)) a.d.now l.d) e l.invariant.0)
