-- Document 02, K12, a sentence above its statement. A mark is 1 where it is set and 0 where not; markAt is the mark of the sum at a row and a column, which
-- is that of the sum's word; outside is 1 for a number outside 32 bits. Assumes nothing.
use mathlib.Core.Path.{◌≡◌, refl, sym, ap, ap₂, ◌∙◌}
use mathlib.Core.List.{List, ◌++◌}
use mathlib.Core.Logic.{◌↔◌, ◌⊎◌, inl, inr}
use Prim.Native.Nat.{ℕ, ◌+◌, ◌*◌, ◌/◌, ◌%◌, ◌^◌, ◌<◌, ◌≤◌}
use native.Mathlib.Omega.{arith}
use lib.Arith.{digits_div, digits_mod}
use lib.IntN.{ℤ, ◌+ℤ◌}
use lib.ListN.{length, get_or}
use Rattle.laws.specs.Integers.{int32, clamp, outside}
use Rattle.laws.specs.Fields.{field, joined}
use Rattle.laws.specs.Lists.{tab}
use Rattle.laws.specs.Totals.{total}
use Rattle.laws.proofs.Fields.{bit_is}
use Rattle.laws.proofs.Integers.{left_alone}
use Rattle.answers.specs.Refusals.{given, refusal}
use Rattle.answers.specs.Tests.{Says}
use Rattle.answers.specs.Right.{Denies}
use Rattle.answers.proofs.Words.{says}
use Rattle.answers.proofs.Shows.{passes}
use Rattle.kinds.specs.Kinds.{one_bit, integer}
use Rattle.kinds.proofs.Table.{not_one_bit}
use Rattle.buffers.specs.Buffers.{words_needed}
use Rattle.step_limit.specs.Limits.{mark_of}
use Rattle.step_limit.specs.Marks.{mark_in, mark_words}
use Rattle.step_limit.proofs.Marks.{mark_lt, words_marks}
use Rattle.step_work.specs.Step.{entry_in, added, limit, result_at, stepped, cut_at}
use Rattle.step_work.specs.Workers.{Ready}
use Rattle.step.proofs.Promises.{rows_d, columns_d, result_at_lem, clamped}
use Rattle.run.specs.declared.Run.{Run}
use Rattle.run.specs.Runs.{kind_in, mode_in, no_marks, zero_run, opened_run}
use Rattle.run.specs.RunCalls.{cannot_clamp, bad_run, open_answer, feed_answer, read_answer, marks_refusals, marks_answer}
use Rattle.run.specs.Blocks.{Block, fed_by, fed_all, AllAccepted, contributions, sum_at, mark_at, exact_at, CutAmong}
use Rattle.run.proofs.Laws.{unmarked}
use Rattle.run.proofs.Marks as marks
use Rattle.run.proofs.Promises as runs

-- 'outside 32 bits': exactly the numbers that the clamp changes.
pub outside_when : (z : ℤ) → (outside z ≡ 0) ↔ (clamp z ≡ z)
outside_when = left_alone

-- 'A run now also holds a mark for each of its sums, none set at opening'; and none in the run that a refused opening hands back.
pub none_at_opening : (kind signs mode : ℕ) (c : List ℕ) (j : ℕ) → j < 128
    → (mark_in (opened_run kind signs mode c).marks j ≡ 0) × (mark_in zero_run.marks j ≡ 0)
unfolding opened_run zero_run
none_at_opening kind signs mode c j l = (unmarked j l, unmarked j l)

-- 'set by a feed exactly when the exact result at that place lay outside 32 bits in mode 1 on an integer kind, and kept from then on'
pub set_exactly_when : (run : Run) (x : Block) → feed_answer run (length x.a) (length x.b) ≡ given tt
    → (row column : ℕ) → row < rows_d (kind_in run) → column < columns_d (kind_in run)
    → (mark_at (fed_by run x) row column ≡ 1)
    ↔ ((mark_at run row column ≡ 1) ⊎ ((mode_in run ≡ 1) × Says (integer (kind_in run)) × (outside (exact_at run x row column) ≡ 1)))
set_exactly_when run x e row column hr hc = marks.marked_when run x e row column hr hc

-- 'kept from then on', over blocks of which any may be refused: a mark after xs is there after xs ++ ys. A refused feed sets none: the run is as it was.
pub kept_from_then_on : (run : Run) (xs ys : List Block) (j : ℕ) → j < 128 → mark_in (fed_all run xs).marks j ≡ 1
    → mark_in (fed_all run (xs ++ ys)).marks j ≡ 1
kept_from_then_on run xs ys j l m =
    ap (λ (r : Run). mark_in r.marks j) (marks.fed_more run xs ys) ∙ marks.kept_all (fed_all run xs) ys j l m

-- 'It can be read as 128 bits in four words, word-buffer order, low bit first': mark 32 w + i is bit i of word w, of what `Run::marks` gives.
pub as_bits : (marks : List ℕ) (w i : ℕ) → i < 32 → mark_in marks (w * 32 + i) ≡ get_or marks w 0 / 2 ^ i % 2
unfolding mark_in
as_bits marks w i l = ap₂ (λ (i w : ℕ). field 1 i (get_or marks w 0)) (digits_mod w l) (digits_div w l) ∙ bit_is i (get_or marks w 0)

-- The mark says what the clamp did: in mode 1 of an integer kind the step's D at a place is the exact result exactly where nothing is cut off there.
pub step_exact_when : (k signs mode : ℕ) → Ready k signs mode → mode ≡ 1 → Says (integer k) → (a b c : List ℕ) (row column : ℕ) → row < rows_d k → column < columns_d k
    → (int32 (entry_in k 2 (stepped k signs mode a b c) row column) ≡ int32 (entry_in k 2 c row column) +ℤ added k signs mode a b row column)
    ↔ (cut_at k signs mode a b c row column ≡ 0)
unfolding cut_at mark_of result_at
step_exact_when k signs mode ok one two a b c row column hr hc =
    let clamping : limit k mode ≡ 1 = simp (not_one_bit k two) one in
    let exact = int32 (entry_in k 2 c row column) +ℤ added k signs mode a b row column in
    let d : int32 (entry_in k 2 (stepped k signs mode a b c) row column) ≡ clamp exact
    = ap int32 (result_at_lem k signs mode ok a b c row column hr hc) ∙ rw clamping (clamped (entry_in k 2 c row column) (added k signs mode a b row column)) in
    rw clamping (λ e. (left_alone exact).1 (sym d ∙ e), λ m. d ∙ (left_alone exact).0 m)

-- 'In a mode 1 run of an integer kind, opened and fed as above,
module _ (k signs mode : ℕ) (c : List ℕ) (opened : open_answer k signs mode (length c) ≡ given tt) (one : mode ≡ 1) (two : Says (integer k))
    (xs : List Block) (accepted : AllAccepted (opened_run k signs mode c) xs)
    (row column : ℕ) (hr : row < rows_d k) (hc : column < columns_d k) where
  -- an unmarked sum equals its exact total', whatever the signs of what was added;
  pub unmarked_exact : mark_at (fed_all (opened_run k signs mode c) xs) row column ≡ 0
      → sum_at (fed_all (opened_run k signs mode c) xs) row column ≡ int32 (entry_in k 2 c row column) +ℤ total (contributions k signs mode row column xs)
  unfolding opened_run
  unmarked_exact m =
      (marks.exact_all row column (opened_run k signs mode c) xs accepted hr hc one two m).1
      ∙ ap (λ (z : ℤ). z +ℤ total (contributions k signs mode row column xs)) (runs.opened_sum k signs mode c opened row column hr hc)

  -- and a marked one had a block at which the exact result lay outside, and only such a one.
  pub marked_when : (mark_at (fed_all (opened_run k signs mode c) xs) row column ≡ 1) ↔ CutAmong (opened_run k signs mode c) xs row column
  unfolding opened_run
  marked_when =
      let m = marks.marked_all row column (opened_run k signs mode c) xs accepted hr hc one two in
      (λ e. only (m.0 e), λ h. m.1 (inr h))
    where
      only : (mark_at (opened_run k signs mode c) row column ≡ 1) ⊎ CutAmong (opened_run k signs mode c) xs row column → CutAmong (opened_run k signs mode c) xs row column
      only (inl e) = absurd (omega (arith, e, runs.none_marked k signs mode c opened row column hr hc))
      only (inr h) = h

-- 'Refusals: 10 also covers a mark past the last sum or in a run that can't clamp', which is one of mode 0 or of a one-bit kind, in feed, in read and in
-- reading marks.
module _ (run : Run) (j : ℕ) (l : j < 128) (set : mark_in run.marks j ≡ 1) (stray : (words_needed (kind_in run) 2 ≤ j) ⊎ ((mode_in run ≡ 0) ⊎ Says (one_bit (kind_in run)))) where
  bad : Says (bad_run run)
  bad = inr (j, l, (set, stray))

  pub stray_refused : (a b d n : ℕ) → (feed_answer run a b ≡ refusal 10 0) × (read_answer run d ≡ refusal 10 0) × (marks_answer run n ≡ refusal 10 0)
  unfolding feed_answer read_answer marks_answer
  stray_refused a b d n = let h = (says (bad_run run)).1 bad in (rw h refl, rw h refl, rw h refl)

-- The marks of a good run that can't clamp read as four zero words.
pub reads_zeros : (run : Run) (n : ℕ) → marks_answer run n ≡ given tt → (mode_in run ≡ 0) ⊎ Says (one_bit (kind_in run))
    → length run.marks ≡ 4 → ((w : ℕ) → get_or run.marks w 0 < 2 ^ 32)
    → run.marks ≡ no_marks
unfolding marks_answer no_marks mark_words tab joined
reads_zeros run n e never size fit = words_marks run.marks size fit (λ j. 0) none
  where
    good : Denies (bad_run run)
    good = (passes (marks_refusals run n) tt e).0

    clash : (mode_in run ≡ 0) ⊎ Says (one_bit (kind_in run)) → Denies (cannot_clamp (kind_in run) (mode_in run)) → ⊥
    clash (inl m) d = d.0 m
    clash (inr b) d = d.1 b

    none : (j : ℕ) → j < 128 → mark_in run.marks j ≡ 0
    none j l =
        let unset : mark_in run.marks j ≡ 1 → ⊥ = λ m. clash never (good.1 j l m).1 in
        omega (arith, mark_lt run.marks j, unset)
