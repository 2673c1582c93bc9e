-- Each turn brings one word more of the lane. Assumes nothing.
use Rattle.std.proofs.Common.{◌≡◌, ℕ, ◌+◌, ◌*◌, ◌<◌, ◌≤◌, List, length, get_or, refl, sym, ap, ap₂, subst, ◌∙◌, arith}
use Rattle.laws.specs.Toward.{Brings, Below}
use Rattle.laws.proofs.Lists.{block_le}
use Rattle.laws.proofs.Toward.{brings_none, brings_more, brings_set}
use Rattle.kinds.specs.Rule.{minor, minors}
use Rattle.kinds.specs.Rule.{Layout}
use Rattle.kinds.proofs.Digits.{minor_lt}
use Rattle.step_products.specs.Sums.{digits_words, digits_marks}
use Rattle.step_limit.specs.Workers.{with_mark, with_marks}
use Rattle.step_limit.proofs.Marks.{with_one}
use Rattle.step_products.proofs.Worded.{words_by, marks_by, word_at_lem, mark_at_lem, marks_le, digits_word_lem, digits_mark_lem}
use Rattle.step_products.proofs.lane_cells.Invariants.{Words}
use Rattle.step_products.proofs.lane_cells.Goals as goal
use Rattle.step_products.proofs.lane_cells.Goals.{After-along-column, After-limited-cell}

module _ (c : After-along-column) where
  abbrev n : ℕ
  n = minors c.args.l.a

  -- the word lies within the buffers, which are small
  word_in : (c.args.lane.0 * c.args.l.c.words + c.loop-i.i < 32 * c.args.l.c.words) × (c.args.lane.0 * c.args.l.c.words + c.loop-i.i < 128)
  word_in = omega (arith, block_le c.args.lane.0 32 c.args.l.c.words c.requires.1, c.loop-i-test.true, c.requires.0.pairs, c.requires.0.halves_le)

  column_lt : minor 2 c.args.l.c.halves c.args.lane.0 c.loop-i.i < 8
  column_lt = minor_lt 2 c.args.l.c.halves (omega arith) c.requires.0.halves_pos 1 c.args.lane.0 c.loop-i.i (omega (arith, c.loop-i-test.true, c.requires.0.pairs))

  row_ends : c.across-row.result * n + n ≤ 1024
  row_ends = omega (arith, block_le c.across-row.result 16 n c.across-row.ensures.small, c.requires.0.deep)

  column_ends : c.along-column.result * n + n ≤ 1024
  column_ends = omega (arith, block_le c.along-column.result 8 n (omega (arith, c.along-column.ensures.is, column_lt)), c.requires.0.deep)

-- the word and its mark are those of the lane's element
module _ (c : After-limited-cell) where
  abbrev u : List ℕ
  u = words_by c.args.l.c (minors c.args.l.a) c.args.mode.0 c.args.h c.args.x.now c.args.y.now c.args.c.now

  abbrev v : ℕ → ℕ
  v = marks_by c.args.l.c (minors c.args.l.a) c.args.mode.0 c.args.h c.args.x.now c.args.y.now c.args.c.now

  word_is : c.limited-cell.result.word ≡ get_or u (c.args.lane.0 * c.args.l.c.words + c.loop-i.i) 0
  word_is =
      let a = c.args in
      digits_word_lem a.mode.0 (minors a.l.a) a.l.c.words a.l.c.halves a.h a.x.now a.y.now a.c.now a.lane.0 c.loop-i.i c.dot_of.result c.exact-s.result
      c.across-row.ensures.is c.along-column.ensures.is c.dot_of.ensures c.exact-s.ensures.is c.limited-cell.ensures.0
      ∙ sym (word_at_lem a.l.c (minors a.l.a) a.mode.0 a.h a.x.now a.y.now a.c.now a.lane.0 c.loop-i.i c.requires.1 c.loop-i-test.true)

  mark_is : c.limited-cell.result.mark ≡ v (c.args.lane.0 * c.args.l.c.words + c.loop-i.i)
  mark_is =
      let a = c.args in
      digits_mark_lem a.mode.0 (minors a.l.a) a.l.c.words a.l.c.halves a.h a.x.now a.y.now a.c.now a.lane.0 c.loop-i.i c.dot_of.result c.exact-s.result
      c.across-row.ensures.is c.along-column.ensures.is c.dot_of.ensures c.exact-s.ensures.is c.limited-cell.ensures.1
      ∙ sym (mark_at_lem a.l.c (minors a.l.a) a.mode.0 a.h a.x.now a.y.now a.c.now a.lane.0 c.loop-i.i c.loop-i-test.true)

  small : c.limited-cell.result.mark ≤ 1
  small = let a = c.args in subst (λ (m : ℕ). m ≤ 1) (sym mark_is) (marks_le a.l.c (minors a.l.a) a.mode.0 a.h a.x.now a.y.now a.c.now (a.lane.0 * a.l.c.words + c.loop-i.i))

pub loop-i-init : goal.loop-i-init
unfolding with_marks
loop-i-init c =
    let a = c.args in
    (brings_none (words_by a.l.c (minors a.l.a) a.mode.0 a.h a.x.now a.y.now a.c.now) (Words a.l.c a.lane.0) a.d.now, refl)

pub dot_of-requires : goal.dot_of-requires
dot_of-requires c =
    let t = (goal.at.dot_of-requires c).After-along-column in
    (c.requires.0.deep, row_ends t, column_ends t)

pub keep-requires : goal.keep-requires
keep-requires c =
    let t = (goal.at.keep-requires c).After-along-column in
    let w = (goal.at.keep-requires c).After-limited-cell in
    (c.loop-i.auto.marks ∙ c.requires.2, (word_in t).1, small w)

pub loop-i-preserved : goal.loop-i-preserved
loop-i-preserved c =
    let t = (goal.at.loop-i-preserved c).After-along-column in
    let w = (goal.at.loop-i-preserved c).After-limited-cell in
    let l = c.loop-i in
    let g : Layout = c.args.l.c in
    let at-word = c.args.lane.0 * g.words + l.i in
    let at : at-word < length l.d = omega (arith, word_in t, l.invariant.0.same, c.requires.0.of_d) in (
      brings_more (u w) (Words g c.args.lane.0) l.i c.args.d.now l.d _ l.invariant.0 (brings_set (u w) l.d at-word c.limited-cell.result.word at (word_is w)),
      c.keep.ensures ∙ ap₂ (λ (m : ℕ) (ms : List ℕ). with_mark at-word m ms) (mark_is w) l.invariant.1 ∙ with_one (c.args.lane.0 * g.words) l.i (v w) c.args.marks.now,
    )

pub returns-clause-words : goal.returns-clause-words
unfolding digits_words
returns-clause-words c =
    let a = c.args in
    let l = c.loop-i in
    let e : l.i ≡ a.l.c.words = omega arith in
    subst
    (λ (n : ℕ). Brings (words_by a.l.c (minors a.l.a) a.mode.0 a.h a.x.now a.y.now a.c.now) (Below n (Words a.l.c a.lane.0)) a.d.now l.d) e l.invariant.0

pub returns-clause-marks : goal.returns-clause-marks
unfolding digits_marks
returns-clause-marks c =
    let a = c.args in
    let l = c.loop-i in
    let e : l.i ≡ a.l.c.words = omega arith in
    l.invariant.1 ∙ ap (λ (n : ℕ). with_marks (a.lane.0 * a.l.c.words) n (marks_by a.l.c (minors a.l.a) a.mode.0 a.h a.x.now a.y.now a.c.now) a.marks.now) e
