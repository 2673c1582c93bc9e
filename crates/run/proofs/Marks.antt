-- A feed keeps the mark at a place, or sets it where the clamp changed the exact result. So as long as none is set every sum is exact, and one that is set
-- tells of a block that was cut off. Assumes nothing.
use Rattle.std.proofs.Common.{if◌then◌else◌}
use mathlib.Core.Path.{◌≡◌, refl, sym, ap, ap₂, subst, ◌∙◌}
use mathlib.Core.Bool.{Bool, true, false}
use mathlib.Core.List.{List, [], ◌∷◌, ◌++◌}
use mathlib.Core.Logic.{◌↔◌, ◌⊎◌, inl, inr}
use Prim.Native.Nat.{ℕ, ◌^◌, ◌<◌, ◌≤◌}
use native.Mathlib.Omega.{arith}
use borrow.Author.Tests.{ltb-true, ltb-false, eqb-true, eqb-false}
use lib.Dec.{ltb}
use lib.IntN.{ℤ, ◌+ℤ◌, +ℤ_assoc, +ℤ_idr}
use lib.ListN.{length, get_or, drop, length-append}
use Rattle.laws.specs.Choice.{◌=?◌}
use Rattle.laws.specs.Integers.{int32, clamp, outside}
use Rattle.laws.specs.Lists.{tab}
use Rattle.laws.specs.Totals.{total}
use Rattle.laws.proofs.Integers.{left_alone, outside_le}
use Rattle.laws.proofs.Lists.{get_or_tab, length_tab}
use Rattle.laws.proofs.Totals.{clamp_word}
use Rattle.answers.specs.Refusals.{Answer, given, refusal, after}
use Rattle.answers.specs.Tests.{Says}
use Rattle.answers.proofs.Words.{says_not}
use Rattle.answers.proofs.Shows.{denied}
use Rattle.kinds.specs.Kinds.{integer}
use Rattle.kinds.specs.Rule.{rows_of, columns_of}
use Rattle.kinds.proofs.Table.{layout_at, not_one_bit, rows_are, columns_are}
use Rattle.buffers.specs.Buffers.{words_needed}
use Rattle.step_limit.specs.Limits.{cell_of, mark_of}
use Rattle.step_limit.specs.Marks.{mark_in}
use Rattle.step_limit.proofs.Marks.{or_mark, mark_lt, get_d_past}
use Rattle.step_work.specs.Step.{entry_in, added, limit, cut_at, cuts}
use Rattle.step_work.specs.Workers.{Ready}
use Rattle.step_work.proofs.Matrices.{legal, word_of, word_in, entry_word, cut_le, cuts_lt, entry_cut, uncut_at}
use Rattle.step.proofs.Promises.{rows_d, columns_d}
use Rattle.run.specs.declared.Run.{Run}
use Rattle.run.specs.Runs.{kind_in, signs_in, mode_in, used_of, fed_run}
use Rattle.run.specs.RunCalls.{cannot_clamp, feed_answer}
use Rattle.run.specs.Blocks.{Block, fed_by, fed_all, AllAccepted, contributions, sum_at, mark_at, exact_at, CutAmong}
use Rattle.run.proofs.Laws.{used_le, wrapping, feed_accepted, mark_after}
use Rattle.run.proofs.Demand.{place_next}

-- one of two marks
marked_or : (x y : ℕ) → y ≤ 1 → (or_mark x y ≡ 1) ↔ ((x ≡ 1) ⊎ (y ≡ 1))
marked_or x y h = either (x =? 1) refl
  where
    either : (t : Bool) → (x =? 1) ≡ t → (◌≡◌ {A = ℕ} (if t then 1 else y) 1) ↔ ((x ≡ 1) ⊎ (y ≡ 1))
    either true e = (λ _. inl (eqb-true x 1 e), λ _. refl)
    either false e = (λ m. inr m, back)
      where
        back : (x ≡ 1) ⊎ (y ≡ 1) → y ≡ 1
        back (inl f) = absurd (eqb-false x 1 e f)
        back (inr f) = f

-- a place of a run's D
module _ (run : Run) (ok : Ready (kind_in run) (signs_in run) (mode_in run)) (row column : ℕ) (hr : row < rows_d (kind_in run)) (hc : column < columns_d (kind_in run)) where
  abbrev k : ℕ
  k = kind_in run

  -- the word in which it stands
  abbrev J : ℕ
  J = word_of k ok.of row column

  row_in : row < rows_of (layout_at k 2)
  row_in = subst (λ (n : ℕ). row < n) (rows_are k 2 (legal k ok.of 2 (omega arith))) hr

  column_in : column < columns_of (layout_at k 2)
  column_in = subst (λ (n : ℕ). column < n) (columns_are k 2 (legal k ok.of 2 (omega arith))) hc

  J_in : J < words_needed k 2
  J_in = word_in k ok.of row column row_in column_in

  pub J_few : J < 128
  J_few = omega (arith, J_in, used_le k ok.of)

  -- its mark is that of the word, and so is what a step cuts off there
  bits_fit : (marks : List ℕ) (x : ℕ) → get_or (tab (words_needed k 2) (mark_in marks)) x 0 < 2 ^ 32
  bits_fit marks x = either (ltb x (words_needed k 2)) refl
    where
      either : (t : Bool) → ltb x (words_needed k 2) ≡ t → get_or (tab (words_needed k 2) (mark_in marks)) x 0 < 2 ^ 32
      either true l = omega (arith, get_or_tab (words_needed k 2) (mark_in marks) x 0 (ltb-true x (words_needed k 2) l), mark_lt marks x)
      either false l = omega (arith, get_d_past (tab (words_needed k 2) (mark_in marks)) x (omega (arith, length_tab (words_needed k 2) (mark_in marks), ltb-false x (words_needed k 2) l)))

  word_mark : (marks : List ℕ) → entry_in k 2 (tab (words_needed k 2) (mark_in marks)) row column ≡ mark_in marks J
  word_mark marks =
      entry_word k ok.of row column row_in column_in (tab (words_needed k 2) (mark_in marks)) (bits_fit marks)
      ∙ get_or_tab (words_needed k 2) (mark_in marks) J 0 J_in

  word_cut : (a b c : List ℕ) → get_or (cuts k (signs_in run) (mode_in run) a b c) J 0 ≡ cut_at k (signs_in run) (mode_in run) a b c row column
  word_cut a b c =
      let all = cuts k (signs_in run) (mode_in run) a b c in
      sym (entry_word k ok.of row column row_in column_in all (λ x. omega (arith, cuts_lt k ok.of (signs_in run) (mode_in run) a b c x)))
      ∙ entry_cut k ok.of (signs_in run) (mode_in run) a b c row column row_in column_in

  pub mark_is : mark_at run row column ≡ mark_in run.marks J
  unfolding mark_at
  mark_is = word_mark run.marks

-- an accepted feed, at a place
module _ (run : Run) (x : Block) (accepted : feed_answer run (length x.a) (length x.b) ≡ given tt) (row column : ℕ) (hr : row < rows_d (kind_in run)) (hc : column < columns_d (kind_in run)) where
  ready : Ready (kind_in run) (signs_in run) (mode_in run)
  ready = (feed_accepted run (length x.a) (length x.b) accepted).0

  fed_is : fed_by run x ≡ fed_run run x.a x.b
  fed_is = ap (λ (q : Answer (Unit {0})). after q (fed_run run x.a x.b) run) accepted

  abbrev cut : ℕ
  cut = cut_at (kind_in run) (signs_in run) (mode_in run) x.a x.b (used_of run) row column

  pub mark_next : mark_at (fed_by run x) row column ≡ or_mark (mark_at run row column) cut
  unfolding mark_at fed_run
  mark_next =
      ap (λ (r : Run). entry_in (kind_in r) 2 (tab (words_needed (kind_in r) 2) (mark_in r.marks)) row column) fed_is
      ∙ word_mark run ready row column hr hc _
      ∙ mark_after (kind_in run) (signs_in run) (mode_in run) ready.of x.a x.b (used_of run) run.marks (J run ready row column hr hc) (J_few run ready row column hr hc)
      ∙ ap₂ or_mark (sym (word_mark run ready row column hr hc run.marks)) (word_cut run ready row column hr hc x.a x.b (used_of run))

  abbrev next : ℕ
  next = cell_of (limit (kind_in run) (mode_in run)) (entry_in (kind_in run) 2 (used_of run) row column) (added (kind_in run) (signs_in run) (mode_in run) x.a x.b row column)

  cell_next : entry_in (kind_in (fed_by run x)) 2 (used_of (fed_by run x)) row column ≡ next
  unfolding fed_run used_of
  cell_next =
      ap (λ (r : Run). entry_in (kind_in r) 2 (used_of r) row column) fed_is
      ∙ place_next (kind_in run) (signs_in run) (mode_in run) ready run.sums x row column hr hc

  sum_next : sum_at (fed_by run x) row column ≡ int32 next
  unfolding sum_at
  sum_next = ap int32 cell_next

  -- set exactly when it was set, or this feed's exact result lay outside in mode 1 of an integer kind
  abbrev Cuts : Type 0
  Cuts = (mode_in run ≡ 1) × Says (integer (kind_in run)) × (outside (exact_at run x row column) ≡ 1)

  -- where the run can clamp, the mark is that the exact result lies outside, and the sum is the clamped one
  module _ (one : mode_in run ≡ 1) (two : Says (integer (kind_in run))) where
    clamping : limit (kind_in run) (mode_in run) ≡ 1
    clamping = simp (not_one_bit (kind_in run) two) one

    cut_is : cut ≡ outside (exact_at run x row column)
    unfolding cut_at mark_of exact_at sum_at
    cut_is = rw clamping refl

    pub clamped_next : sum_at (fed_by run x) row column ≡ clamp (exact_at run x row column)
    unfolding cell_of exact_at sum_at
    clamped_next = sum_next ∙ rw clamping (clamp_word _)

  cut_when : (cut ≡ 1) ↔ Cuts
  cut_when = (there, λ h. cut_is h.0 h.1 ∙ h.2)
    where
      clamps : cut ≡ 1 → ¬ Says (cannot_clamp (kind_in run) (mode_in run))
      clamps e w = omega (arith, e, uncut_at (kind_in run) ready.of (signs_in run) (mode_in run) x.a x.b (used_of run) (wrapping (kind_in run) (mode_in run) w) row column)

      there : cut ≡ 1 → Cuts
      there e =
          let d = denied (cannot_clamp (kind_in run) (mode_in run)) ((says_not (cannot_clamp (kind_in run) (mode_in run))).1 (clamps e)) in
          let one : mode_in run ≡ 1 = omega (arith, ready.mode_le, d.0) in
          let two : Says (integer (kind_in run)) = (omega (arith, ready.of.is.0, d.1), ready.of.is.1) in
          (one, two, sym (cut_is one two) ∙ e)

  pub marked_when : (mark_at (fed_by run x) row column ≡ 1) ↔ ((mark_at run row column ≡ 1) ⊎ Cuts)
  marked_when =
      let o = marked_or (mark_at run row column) cut (cut_le (kind_in run) ready.of (signs_in run) (mode_in run) x.a x.b (used_of run) row column) in
      (λ m. there (o.0 (sym mark_next ∙ m)), λ h. mark_next ∙ o.1 (back h))
    where
      there : (mark_at run row column ≡ 1) ⊎ (cut ≡ 1) → (mark_at run row column ≡ 1) ⊎ Cuts
      there (inl e) = inl e
      there (inr e) = inr (cut_when.0 e)

      back : (mark_at run row column ≡ 1) ⊎ Cuts → (mark_at run row column ≡ 1) ⊎ (cut ≡ 1)
      back (inl e) = inl e
      back (inr h) = inr (cut_when.1 h)

  -- a feed leaves the kind, so that the place stays one
  kind_kept : kind_in (fed_by run x) ≡ kind_in run
  unfolding fed_run
  kind_kept = ap kind_in fed_is

  pub row_kept : row < rows_d (kind_in (fed_by run x))
  row_kept = subst (λ (n : ℕ). row < rows_d n) (sym kind_kept) hr

  pub column_kept : column < columns_d (kind_in (fed_by run x))
  column_kept = subst (λ (n : ℕ). column < columns_d n) (sym kind_kept) hc

  -- and what it adds up and marks by
  module _ (one : mode_in run ≡ 1) (two : Says (integer (kind_in run))) where
    pub mode_kept : mode_in (fed_by run x) ≡ 1
    unfolding fed_run
    mode_kept = ap mode_in fed_is ∙ one

    pub integer_kept : Says (integer (kind_in (fed_by run x)))
    integer_kept = subst (λ (n : ℕ). Says (integer n)) (sym kind_kept) two

    -- unmarked after the feed, it was so before, and the sum is the exact result
    pub exact_next : mark_at (fed_by run x) row column ≡ 0 → (mark_at run row column ≡ 0) × (sum_at (fed_by run x) row column ≡ exact_at run x row column)
    exact_next m = (omega (arith, old, mark_small), clamped_next one two ∙ (left_alone (exact_at run x row column)).0 (omega (arith, inside, outside_le (exact_at run x row column))))
      where
        mark_small : mark_at run row column < 2
        mark_small = subst (λ (n : ℕ). n < 2) (sym (mark_is run ready row column hr hc)) (mark_lt run.marks (J run ready row column hr hc))

        old : mark_at run row column ≡ 1 → ⊥
        old e = omega (arith, m, marked_when.1 (inl e))

        inside : outside (exact_at run x row column) ≡ 1 → ⊥
        inside e = omega (arith, m, marked_when.1 (inr (one, two, e)))

  limit_kept : limit (kind_in (fed_by run x)) (mode_in (fed_by run x)) ≡ limit (kind_in run) (mode_in run)
  unfolding fed_run
  limit_kept = ap (λ (r : Run). limit (kind_in r) (mode_in r)) fed_is

  pub adds_kept : (xs : List Block)
      → contributions (kind_in (fed_by run x)) (signs_in (fed_by run x)) (mode_in (fed_by run x)) row column xs ≡ contributions (kind_in run) (signs_in run) (mode_in run) row column xs
  unfolding fed_run
  adds_kept xs = ap (λ (r : Run). contributions (kind_in r) (signs_in r) (mode_in r) row column xs) fed_is

regroup : (run : Run) (x : Block) (row column : ℕ) (zs : List ℤ)
    → exact_at run x row column +ℤ total zs ≡ sum_at run row column +ℤ (added (kind_in run) (signs_in run) (mode_in run) x.a x.b row column +ℤ total zs)
unfolding exact_at
regroup run x row column zs = +ℤ_assoc (sum_at run row column) (added (kind_in run) (signs_in run) (mode_in run) x.a x.b row column) (total zs)

-- a mark after what each block adds
unfoldable pub fed_mark : (mode w m : ℕ) → List ℤ → ℕ
fed_mark mode w m [] = m
fed_mark mode w m (z ∷ zs) = fed_mark mode (cell_of mode w z) (or_mark m (mark_of mode w z)) zs

pub mark_by : (run : Run) (xs : List Block) → AllAccepted run xs → (row column : ℕ) → row < rows_d (kind_in run) → column < columns_d (kind_in run)
    → mark_at (fed_all run xs) row column ≡ fed_mark (limit (kind_in run) (mode_in run)) (entry_in (kind_in run) 2 (used_of run) row column) (mark_at run row column) (contributions (kind_in run) (signs_in run) (mode_in run) row column xs)
unfolding fed_all AllAccepted contributions fed_mark cut_at
mark_by run [] a row column hr hc = refl
mark_by run (x ∷ xs) (e, a) row column hr hc =
    let k = kind_in run in
    let zs = contributions k (signs_in run) (mode_in run) row column xs in
    mark_by (fed_by run x) xs a row column (row_kept run x e row column hr hc) (column_kept run x e row column hr hc)
    ∙ ap₂ (λ (l w : ℕ). fed_mark l w (mark_at (fed_by run x) row column) (contributions (kind_in (fed_by run x)) (signs_in (fed_by run x)) (mode_in (fed_by run x)) row column xs)) (limit_kept run x e row column hr hc) (cell_next run x e row column hr hc)
    ∙ ap₂ (λ (m : ℕ) (zs : List ℤ). fed_mark (limit k (mode_in run)) (next run x e row column hr hc) m zs) (mark_next run x e row column hr hc) (adds_kept run x e row column hr hc xs)

-- a list's first block and the rest
first_is : {x y : Block} {xs ys : List Block} → ◌≡◌ {A = List Block} (x ∷ xs) (y ∷ ys) → x ≡ y
first_is {x} e = ap (λ (zs : List Block). get_or zs 0 x) e

rest_is : {x y : Block} {xs ys : List Block} → ◌≡◌ {A = List Block} (x ∷ xs) (y ∷ ys) → xs ≡ ys
rest_is e = ap (drop 1) e

-- Blocks fed one after the other: unmarked at the end, a sum is the first one and all that was added,
module _ (row column : ℕ) where
  pub exact_all : (run : Run) (xs : List Block) → AllAccepted run xs → row < rows_d (kind_in run) → column < columns_d (kind_in run) → mode_in run ≡ 1 → Says (integer (kind_in run))
      → mark_at (fed_all run xs) row column ≡ 0
      → (mark_at run row column ≡ 0) × (sum_at (fed_all run xs) row column ≡ sum_at run row column +ℤ total (contributions (kind_in run) (signs_in run) (mode_in run) row column xs))
  unfolding fed_all AllAccepted contributions total
  exact_all run [] a hr hc one two m = (m, sym (+ℤ_idr (sum_at run row column)))
  exact_all run (x ∷ xs) (e, a) hr hc one two m =
      let r = exact_all (fed_by run x) xs a (row_kept run x e row column hr hc) (column_kept run x e row column hr hc) (mode_kept run x e row column hr hc one two) (integer_kept run x e row column hr hc one two) m in
      let s = exact_next run x e row column hr hc one two r.0 in
      (s.0, r.1 ∙ ap₂ (λ (y : ℤ) (zs : List ℤ). y +ℤ total zs) s.1 (adds_kept run x e row column hr hc xs) ∙ regroup run x row column (contributions (kind_in run) (signs_in run) (mode_in run) row column xs))

  -- and marked, it was so before or was cut off at one of them.
  pub marked_all : (run : Run) (xs : List Block) → AllAccepted run xs → row < rows_d (kind_in run) → column < columns_d (kind_in run) → mode_in run ≡ 1 → Says (integer (kind_in run))
      → (mark_at (fed_all run xs) row column ≡ 1) ↔ ((mark_at run row column ≡ 1) ⊎ CutAmong run xs row column)
  unfolding fed_all AllAccepted
  marked_all run [] a hr hc one two = (λ m. inl m, back)
    where
      back : (mark_at run row column ≡ 1) ⊎ CutAmong run [] row column → mark_at run row column ≡ 1
      back (inl m) = m
      back (inr (before, x, behind, e, o)) = absurd (omega (arith, ap length e, length-append before (x ∷ behind)))
  marked_all run (x ∷ xs) (e, a) hr hc one two =
      let later = marked_all (fed_by run x) xs a (row_kept run x e row column hr hc) (column_kept run x e row column hr hc) (mode_kept run x e row column hr hc one two) (integer_kept run x e row column hr hc one two) in
      let now = marked_when run x e row column hr hc in
      (λ m. there now (later.0 m), λ h. later.1 (back now h))
    where
      Now : Type 0
      Now = (mark_at (fed_by run x) row column ≡ 1) ↔ ((mark_at run row column ≡ 1) ⊎ Cuts run x e row column hr hc)

      here : (mark_at run row column ≡ 1) ⊎ Cuts run x e row column hr hc → (mark_at run row column ≡ 1) ⊎ CutAmong run (x ∷ xs) row column
      here (inl m) = inl m
      here (inr h) = inr ([], x, xs, refl, h.2)

      there : Now → (mark_at (fed_by run x) row column ≡ 1) ⊎ CutAmong (fed_by run x) xs row column → (mark_at run row column ≡ 1) ⊎ CutAmong run (x ∷ xs) row column
      there now (inl m) = here (now.0 m)
      there now (inr (before, y, behind, s, o)) = inr (x ∷ before, y, behind, ap (λ (zs : List Block). x ∷ zs) s, o)

      back : Now → (mark_at run row column ≡ 1) ⊎ CutAmong run (x ∷ xs) row column → (mark_at (fed_by run x) row column ≡ 1) ⊎ CutAmong (fed_by run x) xs row column
      back now (inl m) = inl (now.1 (inl m))
      back now (inr ([], y, behind, s, o)) = inl (now.1 (inr (one, two, subst (λ (y : Block). outside (exact_at run y row column) ≡ 1) (sym (first_is s)) o)))
      back now (inr (z ∷ before, y, behind, s, o)) =
          inr (before, y, behind, rest_is s, subst (λ (z : Block). outside (exact_at (fed_all (fed_by run z) before) y row column) ≡ 1) (sym (first_is s)) o)

-- A mark once set is kept, whatever is fed.
pub kept_by : (run : Run) (x : Block) (j : ℕ) → j < 128 → mark_in run.marks j ≡ 1 → mark_in (fed_by run x).marks j ≡ 1
unfolding fed_run
kept_by run x j l m = either (feed_answer run (length x.a) (length x.b)) refl
  where
    either : (q : Answer (Unit {0})) → feed_answer run (length x.a) (length x.b) ≡ q → mark_in (after q (fed_run run x.a x.b) run).marks j ≡ 1
    either (given _) e =
        let ok = (feed_accepted run (length x.a) (length x.b) e).0 in
        let cut = get_or (cuts (kind_in run) (signs_in run) (mode_in run) x.a x.b (used_of run)) j 0 in
        mark_after (kind_in run) (signs_in run) (mode_in run) ok.of x.a x.b (used_of run) run.marks j l ∙ ap (λ (m : ℕ). or_mark m cut) m
    either (refusal n d) e = m

pub kept_all : (run : Run) (xs : List Block) (j : ℕ) → j < 128 → mark_in run.marks j ≡ 1 → mark_in (fed_all run xs).marks j ≡ 1
unfolding fed_all
kept_all run [] j l m = m
kept_all run (x ∷ xs) j l m = kept_all (fed_by run x) xs j l (kept_by run x j l m)

pub fed_more : (run : Run) (xs ys : List Block) → fed_all run (xs ++ ys) ≡ fed_all (fed_all run xs) ys
unfolding fed_all
fed_more run [] ys = refl
fed_more run (x ∷ xs) ys = fed_more (fed_by run x) xs ys
