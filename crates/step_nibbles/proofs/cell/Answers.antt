-- The word's lane and element have their row and column by the rule, and the sums there are exact. Assumes nothing.
use Rattle.std.proofs.Common.{◌≡◌, ℕ, ◌+◌, ◌*◌, ◌/◌, ◌%◌, ◌<◌, get_or, sym, ap, ap₂, subst, ◌∙◌, arith}
use native.Mathlib.Nat.{div-add-mod'}
use lib.IntN.{sub_ℕ}
use Rattle.kinds.specs.Rule.{major, minor, minors}
use Rattle.kinds.proofs.Digits.{major_lt, minor_lt}
use Rattle.step_limit.specs.Limits.{cell_of, mark_of}
use Rattle.step_products.specs.Sums.{digits_word, digits_mark}
use Rattle.step_products.proofs.Worded.{digits_word_lem, digits_mark_lem}
use Rattle.step_nibbles.specs.Planes.{Small}
use Rattle.step_nibbles.proofs.cell.Goals as goal
use Rattle.step_nibbles.proofs.cell.Goals.{After-along-column, After-limited}

module _ (c : After-along-column) where
  abbrev spans : ℕ
  spans = c.args.l.a.spans

  abbrev halves : ℕ
  halves = c.args.l.c.halves

  -- a row of digits
  long : minors c.args.l.a ≡ spans * 32
  long = ap (λ (p : ℕ). spans * 4 * p) c.requires.1.side ∙ omega arith

  row_in : c.across-row.result < halves * 8
  row_in = subst (λ (n : ℕ). n < halves * 8) (sym c.across-row.ensures.is) (major_lt 2 halves (omega arith) c.requires.0.halves_pos c.lane_of-lane.result.0 c.element_of-element.result.0 c.lane_of-lane.ensures.1)

  column_in : c.along-column.result < 8
  column_in = subst (λ (n : ℕ). n < 8) (sym c.along-column.ensures.is) (minor_lt 2 halves (omega arith) c.requires.0.halves_pos 1 c.lane_of-lane.result.0 c.element_of-element.result.0 (omega (arith, c.element_of-element.ensures.1)))

  rows : Small (spans * 32) (c.across-row.result * (spans * 32)) c.args.x.now
  rows = subst (λ (n : ℕ). Small n (c.across-row.result * n) c.args.x.now) long (c.requires.1.rows c.across-row.result row_in)

  columns : Small (spans * 32) (c.along-column.result * (spans * 32)) c.args.y.now
  columns = subst (λ (n : ℕ). Small n (c.along-column.result * n) c.args.y.now) long (c.requires.1.columns c.along-column.result column_in)

pub dot_at-requires : goal.dot_at-requires
dot_at-requires c =
    let t = (goal.at.dot_at-requires c).After-along-column in
    let p = c.requires in
    (p.1.spans_pos, p.0.spans_le, c.across-row.ensures.small, column_in t, rows t, columns t, p.2)

-- the sums that were worked out are those at the place of the word's lane and element
module _ (c : After-limited) where
  abbrev each : ℕ
  each = c.args.l.c.words

  lane_is : c.lane_of-lane.result.0 ≡ c.args.k / each
  lane_is = c.lane_of-lane.ensures.0 ∙ ap (λ (n : ℕ). c.args.k / n) (sym c.requires.0.pairs)

  element_is : c.element_of-element.result.0 ≡ c.args.k % each
  element_is = c.element_of-element.ensures.0 ∙ ap (λ (n : ℕ). c.args.k % n) (sym c.requires.0.pairs)

  row_is : c.across-row.result ≡ major 2 c.args.l.c.halves (c.args.k / each) (c.args.k % each)
  row_is = c.across-row.ensures.is ∙ ap₂ (major 2 c.args.l.c.halves) lane_is element_is

  column_is : c.along-column.result ≡ minor 2 c.args.l.c.halves (c.args.k / each) (c.args.k % each)
  column_is = c.along-column.ensures.is ∙ ap₂ (minor 2 c.args.l.c.halves) lane_is element_is

  split : (c.exact-s.result.plus ≡ c.dot_at.result.products + c.args.l.a.spans * 32 * (c.args.h.a * c.args.h.b))
      × (c.exact-s.result.minus ≡ c.args.h.a * c.dot_at.result.b + c.args.h.b * c.dot_at.result.a)
  split =
      let n : c.multiple.result ≡ c.args.l.a.spans * 32 = c.multiple.ensures.0 ∙ omega arith in
      (c.exact-s.ensures.is.0 ∙ ap (λ (n : ℕ). c.dot_at.result.products + n * (c.args.h.a * c.args.h.b)) n, c.exact-s.ensures.is.1)

pub returns-clause-word : goal.returns-clause-word
returns-clause-word c =
    let t = (goal.at.returns-clause-word c).After-along-column in
    let r = (goal.at.returns-clause-word c).After-limited in
    let a = c.args in
    let e = c.exact-s.result in
    subst (λ (n : ℕ). c.limited.result.word ≡ digits_word a.mode.0 n a.h.a a.h.b (each r) (halves t) a.x.now a.y.now a.c.now (a.k / each r) (a.k % each r)) (sym (long t))
    (digits_word_lem a.mode.0 (spans t * 32) (each r) (halves t) a.h a.x.now a.y.now a.c.now (a.k / each r) (a.k % each r) c.dot_at.result e (row_is r) (column_is r) c.dot_at.ensures (split r)
    (c.limited.ensures.0 ∙ ap (λ (n : ℕ). cell_of a.mode.0 (get_or a.c.now n 0) (sub_ℕ e.plus e.minus)) (sym (div-add-mod' a.k (each r)))))

pub returns-clause-mark : goal.returns-clause-mark
returns-clause-mark c =
    let t = (goal.at.returns-clause-mark c).After-along-column in
    let r = (goal.at.returns-clause-mark c).After-limited in
    let a = c.args in
    let e = c.exact-s.result in
    subst (λ (n : ℕ). c.limited.result.mark ≡ digits_mark a.mode.0 n a.h.a a.h.b (each r) (halves t) a.x.now a.y.now a.c.now (a.k / each r) (a.k % each r)) (sym (long t))
    (digits_mark_lem a.mode.0 (spans t * 32) (each r) (halves t) a.h a.x.now a.y.now a.c.now (a.k / each r) (a.k % each r) c.dot_at.result e (row_is r) (column_is r) c.dot_at.ensures (split r)
    (c.limited.ensures.1 ∙ ap (λ (n : ℕ). mark_of a.mode.0 (get_or a.c.now n 0) (sub_ℕ e.plus e.minus)) (sym (div-add-mod' a.k (each r)))))
