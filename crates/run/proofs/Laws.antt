-- What an accepted call tells of its run and its lengths, the used sums, and which marks a good run can have. Assumes nothing.
use Rattle.std.proofs.Common.{if◌then◌else◌}
use mathlib.Core.Path.{◌≡◌, refl, sym, ap, ap₂, ◌∙◌}
use mathlib.Core.Bool.{Bool, true, false, false≢true}
use mathlib.Core.List.{List, ◌++◌}
use mathlib.Core.Logic.{◌↔◌, inl, inr}
use Prim.Native.Nat.{ℕ, ◌+◌, ◌*◌, ◌/◌, ◌^◌, ◌≤◌, ◌<◌}
use native.Mathlib.Omega.{arith}
use borrow.Author.Tests.{eqb-true}
use lib.ListN.{length, get_or, take, drop, length-append, length-drop}
use Rattle.laws.specs.Choice.{◌=?◌}
use Rattle.laws.specs.Lists.{tab}
use Rattle.laws.proofs.Lists.{length_tab, get_or_tab}
use Rattle.kinds.specs.Kinds.{lanes, words, role_c, one_bit_element, int4_element, one_bit, Arithmetic}
use Rattle.answers.specs.Refusals.{given}
use Rattle.answers.specs.Right.{Denies, Passes}
use Rattle.answers.specs.Tests.{Says, holds}
use Rattle.answers.proofs.Words.{says, says_not}
use Rattle.answers.proofs.Shows.{passes, passing, denied, deny}
use Rattle.kinds.proofs.Table.{among_≤}
use Rattle.buffers.specs.Buffers.{words_needed}
use Rattle.step_limit.specs.Marks.{mark_in, kept_marks}
use Rattle.step_limit.proofs.Marks.{or_mark, get_d_past, word_unmarked, word_marked, mark_kept}
use Rattle.step_work.specs.Step.{limit, stepped, cuts}
use Rattle.step_work.specs.Workers.{Ready}
use Rattle.step_work.proofs.Matrices.{cuts_length, cuts_lt, uncut}
use Rattle.step.proofs.Accepted.{ready}
use Rattle.run.specs.declared.Run.{Run}
use Rattle.run.specs.Runs.{run_of, zeros, no_marks, with_used, used_of, opened_run, fed_run}
use Rattle.run.specs.RunCalls.{max_blocks, cannot_clamp, bad_run, open_refusals, feed_refusals, read_refusals, marks_refusals, open_answer, feed_answer}
use Rattle.run.specs.Workers.{markable, mark_from}

-- the used sums of every arithmetic kind are among the 128
pub used_le : (k : ℕ) → Arithmetic k → words_needed k 2 ≤ 128
used_le k ok = among_≤ k ok.low ok.high one_bit_element int4_element ok.is (λ e. lanes * words e role_c) (λ e. 128) tt

pub length_zeros : length zeros ≡ 128
unfolding zeros
length_zeros = length_tab 128 (λ i. 0)

-- the front of the sums, lent to a step as its D and put back: the run with one block more
pub fed_is : (run : Run) (n : ℕ) (a b d marks : List ℕ) → length d ≡ n → n ≡ words_needed run.kind.0 2
    → d ≡ stepped run.kind.0 run.signs.0 run.mode.0 a b (take n run.sums)
    → marks ≡ kept_marks run.marks (cuts run.kind.0 run.signs.0 run.mode.0 a b (take n run.sums))
    → run_of run.kind.0 run.signs.0 run.mode.0 (run.blocks + 1) (d ++ drop n run.sums) marks ≡ fed_run run a b
unfolding fed_run with_used used_of
fed_is run n a b d marks l e r m =
    ap₂ (λ (xs ms : List ℕ). run_of run.kind.0 run.signs.0 run.mode.0 (run.blocks + 1) xs ms)
    (ap (λ (m : ℕ). d ++ drop m run.sums) (sym l)
    ∙ ap (λ (xs : List ℕ). with_used xs run.sums) (r ∙ ap (λ (m : ℕ). stepped run.kind.0 run.signs.0 run.mode.0 a b (take m run.sums)) e))
    (m ∙ ap (λ (m : ℕ). kept_marks run.marks (cuts run.kind.0 run.signs.0 run.mode.0 a b (take m run.sums))) e)

-- the sums stay 128
pub used_long : (used sums : List ℕ) → length used ≤ 128 → length sums ≡ 128 → length (with_used used sums) ≡ 128
unfolding with_used
used_long used sums l e = length-append used (drop (length used) sums) ∙ omega (arith, length-drop (length used) sums, e)

pub opened_long : (kind signs mode : ℕ) (c : List ℕ) → open_answer kind signs mode (length c) ≡ given tt → length (opened_run kind signs mode c).sums ≡ 128
unfolding opened_run open_answer
opened_long kind signs mode c e =
    let p = passes (open_refusals kind signs mode (length c)) tt e in
    let n : length c ≡ words_needed kind 2 = search p in
    used_long c zeros (omega (arith, n, used_le kind (ready kind signs mode (search p)).of)) length_zeros

-- how many marks may be set, as the code tells it: none in mode 0 and in the one-bit kinds
pub markable_wraps : (kind mode : ℕ) → mode ≡ 0 → markable kind mode ≡ 0
unfolding markable
markable_wraps kind mode e = ap (λ (t : Bool). if t then 0 else words_needed kind 2) ((says (cannot_clamp kind mode)).1 (inl e))

pub markable_bits : (kind mode : ℕ) → Says (one_bit kind) → markable kind mode ≡ 0
unfolding markable
markable_bits kind mode e = ap (λ (t : Bool). if t then 0 else words_needed kind 2) ((says (cannot_clamp kind mode)).1 (inr e))

pub markable_words : (kind mode : ℕ) → (mode ≡ 0 → ⊥) → (Says (one_bit kind) → ⊥) → markable kind mode ≡ words_needed kind 2
unfolding markable
markable_words kind mode n o = ap (λ (t : Bool). if t then 0 else words_needed kind 2) (deny (cannot_clamp kind mode) (n, o))

pub ruleset markables = (used_le, markable_wraps, markable_bits, markable_words)

-- no stray mark: one that is set belongs to a sum, of a run that can clamp
abbrev pub Unstray : (kind mode : ℕ) (marks : List ℕ) → Type 0
Unstray kind mode marks = (j : ℕ) → j < 128 → mark_in marks j ≡ 1 → (j < words_needed kind 2) × Denies (cannot_clamp kind mode)

-- so none is set from that number on, below which they may be
module _ (kind mode : ℕ) (marks : List ℕ) where
  bound_by : (t : Bool) → holds (cannot_clamp kind mode) ≡ t → (j : ℕ) → ((j < words_needed kind 2) × Denies (cannot_clamp kind mode)) ↔ (j < (if t then 0 else words_needed kind 2))
  bound_by true e j = (λ h. absurd (false≢true (sym (deny (cannot_clamp kind mode) h.1) ∙ e)), λ l. absurd (omega arith))
  bound_by false e j = (λ h. h.0, λ l. (l, denied (cannot_clamp kind mode) e))

  pub none_from : Unstray kind mode marks → Denies (mark_from marks (markable kind mode))
  unfolding markable
  none_from h j l m = (bound_by (holds (cannot_clamp kind mode)) refl j).0 (h j l m)

  pub none_stray : Denies (mark_from marks (markable kind mode)) → Unstray kind mode marks
  unfolding markable
  none_stray h j l m = (bound_by (holds (cannot_clamp kind mode)) refl j).1 (h j l m)

-- as a look at the words tells: one that is not 0 has such a mark, and where all are 0 there is none
pub word_stray : (marks : List ℕ) (from w : ℕ) → from ≤ w → w < 4 → get_or marks w 0 < 2 ^ 32 → (get_or marks w 0 ≡ 0 → ⊥) → Says (mark_from marks (from * 32))
word_stray marks from w h l fits ne = let b = word_marked marks w fits ne in (b.0, omega (arith, b.1), (b.2, omega (arith, b.1)))

pub words_clear : (marks : List ℕ) (from : ℕ) → ((w : ℕ) → from ≤ w → w < 4 → get_or marks w 0 ≡ 0) → Denies (mark_from marks (from * 32))
words_clear marks from clear j l m = omega (arith, behind)
  where
    behind : ¬ (from * 32 ≤ j)
    behind h = omega (arith, m, word_unmarked marks j (clear (j / 32) (omega arith) (omega arith)))

-- the marks of a newly opened run
pub unmarked : (j : ℕ) → j < 128 → mark_in no_marks j ≡ 0
unfolding no_marks
unmarked j l = word_unmarked (tab 4 (λ i. 0)) j (get_or_tab 4 (λ i. 0) (j / 32) 0 (omega arith))

pub opened_unstray : (kind mode : ℕ) → Unstray kind mode no_marks
opened_unstray kind mode j l e = absurd (omega (arith, unmarked j l))

-- a run that can't clamp wraps, in a step
pub wrapping : (k mode : ℕ) → Says (cannot_clamp k mode) → limit k mode ≡ 0
wrapping k mode (inl e) = either (holds (one_bit k))
  where
    either : (t : Bool) → (if t then 0 else mode) ≡ 0
    either true = refl
    either false = e
wrapping k mode (inr e) = simp ((says (one_bit k)).1 e)

-- a feed sets no stray mark
module _ (k signs mode : ℕ) (ok : Arithmetic k) (a b c marks : List ℕ) where
  pub mark_after : (j : ℕ) → j < 128 → mark_in (kept_marks marks (cuts k signs mode a b c)) j ≡ or_mark (mark_in marks j) (get_or (cuts k signs mode a b c) j 0)
  mark_after j l = mark_kept marks (cuts k signs mode a b c) (cuts_lt k ok signs mode a b c) j l

  cut_in : (j : ℕ) → get_or (cuts k signs mode a b c) j 0 ≡ 1 → (j < words_needed k 2) × Denies (cannot_clamp k mode)
  cut_in j e = (within, denied (cannot_clamp k mode) ((says_not (cannot_clamp k mode)).1 clamps))
    where
      clamps : ¬ Says (cannot_clamp k mode)
      clamps w = omega (arith, e, uncut k ok signs mode a b c (wrapping k mode w) j)

      within : j < words_needed k 2
      within = omega (arith, past)
        where
          past : ¬ (words_needed k 2 ≤ j)
          past l = omega (arith, e, get_d_past (cuts k signs mode a b c) j (omega (arith, cuts_length k ok signs mode a b c)))

  pub fed_unstray : Unstray k mode marks → Unstray k mode (kept_marks marks (cuts k signs mode a b c))
  fed_unstray h j l m = either (mark_in marks j =? 1) refl (sym (mark_after j l) ∙ m)
    where
      either : (t : Bool) → (mark_in marks j =? 1) ≡ t → (if t then 1 else get_or (cuts k signs mode a b c) j 0) ≡ 1 → (j < words_needed k 2) × Denies (cannot_clamp k mode)
      either true e _ = h j l (eqb-true (mark_in marks j) 1 e)
      either false e m = cut_in j m

module _ (run : Run) where
  abbrev k : ℕ
  k = run.kind.0

  -- a run that refusal 10 lets pass has the selectors of a step, and such a run passes
  pub sound : Denies (bad_run run) → Ready k run.signs.0 run.mode.0 × (run.blocks ≤ max_blocks) × Unstray k run.mode.0 run.marks
  sound (d, u) = (record { of = record { low = search d; high = search d; is = search d }; signs_le = search d; mode_le = search d; plain = search d }, search d, u)

  pub sound_back : Ready k run.signs.0 run.mode.0 → run.blocks ≤ max_blocks → Unstray k run.mode.0 run.marks → Denies (bad_run run)
  sound_back ok h u = (search (ok, h), u)

  pub fed_passes : (a b : ℕ) → Passes (feed_refusals run a b)
      → Ready k run.signs.0 run.mode.0 × (run.blocks < max_blocks) × (a ≡ words_needed k 0) × (b ≡ words_needed k 1)
  fed_passes a b p = ((sound (search p)).0, search p, search p, search p)

  pub feed_accepted : (a b : ℕ) → feed_answer run a b ≡ given tt
      → Ready k run.signs.0 run.mode.0 × (run.blocks < max_blocks) × (a ≡ words_needed k 0) × (b ≡ words_needed k 1)
  unfolding feed_answer
  feed_accepted a b e = fed_passes a b (passes (feed_refusals run a b) tt e)

  pub feed_accepts : (a b : ℕ) → Ready k run.signs.0 run.mode.0 → Unstray k run.mode.0 run.marks → run.blocks < max_blocks → a ≡ words_needed k 0 → b ≡ words_needed k 1 → feed_answer run a b ≡ given tt
  unfolding feed_answer
  feed_accepts a b ok u h of_a of_b =
      let good = sound_back ok (omega arith) u in
      passing (feed_refusals run a b) tt (search (good, h, of_a, of_b))

  pub read_passes : (d : ℕ) → Passes (read_refusals run d) → Ready k run.signs.0 run.mode.0 × (d ≡ words_needed k 2)
  read_passes d p = ((sound (search p)).0, search p)

  pub marks_passes : (n : ℕ) → Passes (marks_refusals run n) → n ≡ 4
  marks_passes n p = search p

module _ (kind signs mode c : ℕ) where
  pub open_passes : Passes (open_refusals kind signs mode c) → Ready kind signs mode × (c ≡ words_needed kind 2)
  open_passes p = (ready kind signs mode (search p), search p)

  pub open_accepted : open_answer kind signs mode c ≡ given tt → Ready kind signs mode × (c ≡ words_needed kind 2)
  unfolding open_answer
  open_accepted e = open_passes (passes (open_refusals kind signs mode c) tt e)
