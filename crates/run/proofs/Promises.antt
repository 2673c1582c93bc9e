-- What document 01 promises of runs, and demand 3 for blocks that are accepted. The blocks are fed by the definitions that feed's contract cites, into
-- a newly opened run; every order is every permutation of the list. Assumes nothing.
use mathlib.Core.Path.{◌≡◌, refl, sym, ap, ap₂, subst, ◌∙◌}
use mathlib.Core.Logic.{◌⊎◌, inl, inr}
use mathlib.Core.List.{List, [], ◌∷◌, Permᴰ}
use Prim.Native.Nat.{ℕ, ◌+◌, ◌*◌, ◌^◌, ◌<◌, ◌≤◌}
use native.Mathlib.Nat.{le_trans, mul-le-mul_right}
use native.Mathlib.Omega.{arith}
use borrow.Author.Tests.{le-leb}
use lib.IntN.{ℤ, pos, ◌+ℤ◌}
use lib.Signed.{◌<ℤ◌}
use lib.ListN.{length, take, drop}
use lib.Seq.{take_at}
use Rattle.laws.specs.Integers.{int32, clamp}
use Rattle.laws.specs.Bits.{ones_in}
use Rattle.laws.specs.Totals.{total, clamped_each, All, NoneNegative, NonePositive, Wraps}
use Rattle.laws.proofs.Bits.{ones_le}
use Rattle.laws.proofs.Totals.{wrapped_by, clamped_by, Counts, total_perm, total_counts, fed_wraps, fed_exact, fed_up, fed_down, fed_clamped}
use Rattle.kinds.specs.Kinds.{one_bit, integer}
use Rattle.answers.specs.Refusals.{Answer, given, refusal, after}
use Rattle.answers.proofs.Shows.{deny}
use Rattle.answers.specs.Tests.{Says}
use Rattle.answers.proofs.Words.{says}
use Rattle.kinds.proofs.Table.{not_one_bit}
use Rattle.buffers.specs.Buffers.{words_needed}
use Rattle.step_work.specs.Step.{entry_in, depth, combined_bits, added, limit}
use Rattle.step_work.specs.Workers.{Ready}
use Rattle.step_work.proofs.Matrices.{entry_lt}
use Rattle.step.proofs.Promises.{rows_d, columns_d, same_added}
use Rattle.run.specs.declared.Run.{Run}
use Rattle.run.specs.Runs.{run_of, zeros, no_marks, with_used, used_of, opened_run, fed_run}
use Rattle.run.specs.RunCalls.{bad_run, open_answer, feed_answer}
use Rattle.run.specs.Blocks.{Block, fed_by, fed_all, AllAccepted, kept, accepted_of, contributions, sum_at, mark_at}
use Rattle.run.proofs.Laws.{Unstray, open_accepted, opened_unstray, unmarked, sound_back, wrapping}
use Rattle.run.proofs.Marks.{J_few, mark_is, fed_mark, mark_by}
use Rattle.run.proofs.Demand.{fed_cell, wraps_each, clamps_each, fed_at, fed_kept, accepted_order, added_perm, adds_length}

-- a newly opened run of kind k, and a place of D
module _ (k signs mode : ℕ) (c : List ℕ) (accepted : open_answer k signs mode (length c) ≡ given tt) where
  ok : Ready k signs mode
  ok = (open_accepted k signs mode (length c) accepted).0

  abbrev start : Run
  start = opened_run k signs mode c

  used_start : take (words_needed k 2) (with_used c zeros) ≡ c
  unfolding with_used
  used_start = take_at c (drop (length c) zeros) (words_needed k 2) (open_accepted k signs mode (length c) accepted).1

  module _ (row column : ℕ) (hr : row < rows_d k) (hc : column < columns_d k) where
    -- the start at that place, and what blocks add there
    abbrev from : ℕ
    from = entry_in k 2 c row column

    abbrev adds : List Block → List ℤ
    adds xs = contributions k signs mode row column xs

    from_lt : from < 2 ^ 32
    from_lt = entry_lt k ok.of c row column hr hc

    sum_is : (xs : List Block) → AllAccepted (opened_run k signs mode c) xs
        → sum_at (fed_all (opened_run k signs mode c) xs) row column ≡ int32 (fed_cell (limit k mode) from (adds xs))
    unfolding sum_at opened_run
    sum_is xs a =
        let s = fed_kept k signs mode ok 0 (with_used c zeros) no_marks xs a in
        ap (λ (r : Run). int32 (entry_in r.kind.0 2 (used_of (fed_all (run_of k signs mode 0 (with_used c zeros) no_marks) xs)) row column)) s.2
        ∙ ap int32 (fed_at k signs mode ok 0 (with_used c zeros) no_marks xs a row column hr hc)
        ∙ ap (λ (ws : List ℕ). int32 (fed_cell (limit k mode) (entry_in k 2 ws row column) (adds xs))) used_start

    order : {xs ys : List Block} → Permᴰ xs ys → AllAccepted (opened_run k signs mode c) xs
        → AllAccepted (opened_run k signs mode c) ys
    unfolding opened_run
    order d a = accepted_order k signs mode ok 0 (with_used c zeros) no_marks (opened_unstray k mode) (omega arith) d a

    -- the mark there: none at opening, and then what the blocks set
    opened_used : used_of (opened_run k signs mode c) ≡ c
    unfolding opened_run used_of
    opened_used = used_start

    pub opened_sum : sum_at (opened_run k signs mode c) row column ≡ int32 from
    unfolding sum_at opened_run
    opened_sum = ap (λ (ws : List ℕ). int32 (entry_in k 2 ws row column)) opened_used

    pub none_marked : mark_at (opened_run k signs mode c) row column ≡ 0
    unfolding opened_run
    none_marked = mark_is (opened_run k signs mode c) ok row column hr hc ∙ unmarked _ (J_few (opened_run k signs mode c) ok row column hr hc)

    pub mark_from_lem : (xs : List Block) → AllAccepted (opened_run k signs mode c) xs
        → mark_at (fed_all (opened_run k signs mode c) xs) row column ≡ fed_mark (limit k mode) from 0 (adds xs)
    unfolding opened_run
    mark_from_lem xs a =
        mark_by (opened_run k signs mode c) xs a row column hr hc
        ∙ ap₂ (λ (ws : List ℕ) (m : ℕ). fed_mark (limit k mode) (entry_in k 2 ws row column) m (adds xs)) opened_used none_marked

    -- 'With wrapping, and always in the one-bit form, each sum at the end is the signed 32-bit number that differs from start plus all the exact
    -- products, or bit counts, by a multiple of 2^32, in every order of the blocks.'
    word_at_lem : (mode ≡ 0) ⊎ Says (one_bit k) → (xs : List Block) → AllAccepted (opened_run k signs mode c) xs
        → sum_at (fed_all (opened_run k signs mode c) xs) row column ≡ int32 (wrapped_by from (adds xs))
    word_at_lem w xs a = sum_is xs a ∙ ap (λ (m : ℕ). int32 (fed_cell m from (adds xs))) (wrapping k mode w) ∙ ap int32 (wraps_each from (adds xs))

    pub wrapped_total : (mode ≡ 0) ⊎ Says (one_bit k) → (xs ys : List Block) → AllAccepted (opened_run k signs mode c) xs
        → Permᴰ xs ys
        → AllAccepted (opened_run k signs mode c) ys × Wraps (sum_at (fed_all (opened_run k signs mode c) ys) row column) (int32 from +ℤ total (adds xs))
    wrapped_total w xs ys a d =
        let b = order d a in
        (b, subst (λ (z : ℤ). Wraps z (int32 from +ℤ total (adds xs))) (sym (word_at_lem w ys b)) (fed_wraps from (adds xs) (adds ys) from_lt (added_perm k signs mode ok row column d)))

    -- A one-bit block adds a count from 0 to K; so from a start s with s + 4,096 times K below 2^31 the sum is the exact total, in every order.
    module _ (bit : Says (one_bit k)) where
      counts : (xs : List Block) → Counts (depth k) (adds xs)
      unfolding contributions added combined_bits All
      counts [] = tt
      counts (x ∷ xs) =
          let bits = combined_bits k mode x.a x.b row column in
          ((ones_in bits, simp ((says (one_bit k)).1 bit), ones_le (depth k) _), counts xs)

      pub counted_total : (xs : List Block) → (n : ℕ) × (total (adds xs) ≡ pos n) × (n ≤ length xs * depth k)
      counted_total xs =
          let t = total_counts (depth k) (adds xs) (counts xs) in
          (t.0, t.1, subst (λ (m : ℕ). t.0 ≤ m * depth k) (adds_length k signs mode row column xs) t.2)

      pub exact_total : (int32 from +ℤ pos (4096 * depth k)) <ℤ pos (2 ^ 31) → (xs ys : List Block)
          → AllAccepted (opened_run k signs mode c) xs → Permᴰ xs ys → length xs ≤ 4096
          → sum_at (fed_all (opened_run k signs mode c) ys) row column ≡ int32 from +ℤ total (adds xs)
      exact_total low xs ys a d few =
          let t = counted_total xs in
          let same = total_perm (added_perm k signs mode ok row column d) in
          word_at_lem (inr bit) ys (order d a)
          ∙ fed_exact from t.0 (4096 * depth k) (adds ys) from_lt (sym same ∙ t.1) (le_trans t.2 (mul-le-mul_right (depth k) few)) low
          ∙ ap (λ (z : ℤ). int32 from +ℤ z) (sym same)

    -- 'With saturation in the other kinds, where no block's contribution to a place is negative, or none is positive, it is that exact total
    -- clamped to 32 bits, again in every order.'
    module _ (two : Says (integer k)) (saturates : mode ≡ 1) where
      clamping : limit k mode ≡ 1
      clamping = simp (not_one_bit k two) saturates

      each_is : (xs : List Block) → AllAccepted (opened_run k signs mode c) xs
          → sum_at (fed_all (opened_run k signs mode c) xs) row column ≡ int32 (clamped_by from (adds xs))
      each_is xs a = sum_is xs a ∙ ap (λ (m : ℕ). int32 (fed_cell m from (adds xs))) clamping ∙ ap int32 (clamps_each from (adds xs))

      pub clamped_total : (xs ys : List Block) → AllAccepted (opened_run k signs mode c) xs → Permᴰ xs ys
          → (NoneNegative (adds xs)) ⊎ (NonePositive (adds xs))
          → AllAccepted (opened_run k signs mode c) ys × (sum_at (fed_all (opened_run k signs mode c) ys) row column ≡ clamp (int32 from +ℤ total (adds xs)))
      clamped_total xs ys a d (inl h) =
          let b = order d a in
          (b, each_is ys b ∙ fed_up from (adds xs) (adds ys) from_lt h (added_perm k signs mode ok row column d))
      clamped_total xs ys a d (inr h) =
          let b = order d a in
          (b, each_is ys b ∙ fed_down from (adds xs) (adds ys) from_lt h (added_perm k signs mode ok row column d))

      -- 'Otherwise it is the total clamped after each block in the order fed.'
      pub clamped_each_lem : (xs : List Block) → AllAccepted (opened_run k signs mode c) xs
          → sum_at (fed_all (opened_run k signs mode c) xs) row column ≡ clamped_each (int32 from) (adds xs)
      clamped_each_lem xs a = each_is xs a ∙ fed_clamped from (adds xs) from_lt

  -- The number in the run is the number of accepted feeds since opening.
  pub counted : (xs : List Block) → AllAccepted (opened_run k signs mode c) xs
      → (fed_all (opened_run k signs mode c) xs).blocks ≡ length xs
  unfolding opened_run
  counted xs a = let s = fed_kept k signs mode ok 0 (with_used c zeros) no_marks xs a in ap (λ (r : Run). r.blocks) s.2 ∙ omega arith

  -- The 4,097th is refused 9 and changes nothing.
  full_at : (n : ℕ) (ws ms : List ℕ) → Unstray k mode ms → (a b : ℕ) → n ≡ 4096 → feed_answer (run_of k signs mode n ws ms) a b ≡ refusal 9 0
  unfolding feed_answer
  full_at n ws ms u a b e = rw (deny (bad_run (run_of k signs mode n ws ms)) (sound_back (run_of k signs mode n ws ms) ok (omega arith) u), le-leb 4096 n (omega arith)) refl

  pub no_more : (xs : List Block) → AllAccepted (opened_run k signs mode c) xs → length xs ≡ 4096
      → (a b : ℕ) → feed_answer (fed_all (opened_run k signs mode c) xs) a b ≡ refusal 9 0
  unfolding opened_run
  no_more xs h n a b =
      let s = fed_kept k signs mode ok 0 (with_used c zeros) no_marks xs h in
      ap (λ (r : Run). feed_answer r a b) s.2 ∙ full_at (0 + length xs) s.0 s.1 (s.3 (opened_unstray k mode)) a b (omega arith)

-- 'A refused feed isn't counted', and changes nothing: whatever was fed, the run is that of the accepted blocks alone,
fed_kept_one : (run : Run) (x : Block) (q : Answer (Unit {0})) → feed_answer run (length x.a) (length x.b) ≡ q
    → (ys : List Block) → fed_all (fed_by run x) ys ≡ fed_all run (kept q x ys)
unfolding fed_all
fed_kept_one run x (given u) e ys = refl
fed_kept_one run x (refusal n d) e ys = ap (λ (r : Run). fed_all r ys) (ap (λ (q : Answer (Unit {0})). after q (fed_run run x.a x.b) run) e)

pub fed_accepted : (run : Run) (xs : List Block) → fed_all run xs ≡ fed_all run (accepted_of run xs)
unfolding fed_all accepted_of
fed_accepted run [] = refl
fed_accepted run (x ∷ xs) = fed_accepted (fed_by run x) xs ∙ fed_kept_one run x (feed_answer run (length x.a) (length x.b)) refl (accepted_of (fed_by run x) xs)

-- each of which was accepted.
all_kept : (run : Run) (x : Block) (q : Answer (Unit {0})) → feed_answer run (length x.a) (length x.b) ≡ q
    → (ys : List Block) → AllAccepted (fed_by run x) ys → AllAccepted run (kept q x ys)
unfolding AllAccepted
all_kept run x (given u) e ys a = (e, a)
all_kept run x (refusal n d) e ys a = subst (λ (r : Run). AllAccepted r ys) (ap (λ (q : Answer (Unit {0})). after q (fed_run run x.a x.b) run) e) a

pub accepted_of_lem : (run : Run) (xs : List Block) → AllAccepted run (accepted_of run xs)
unfolding AllAccepted accepted_of
accepted_of_lem run [] = tt
accepted_of_lem run (x ∷ xs) = all_kept run x (feed_answer run (length x.a) (length x.b)) refl (accepted_of (fed_by run x) xs) (accepted_of_lem (fed_by run x) xs)

-- 'No boat reaches another boat's row', over whole runs: two runs opened alike in row r, fed blocks that agree in row r of A and in B, agree in row r at
-- the end,
unfoldable pub Alike : (k row : ℕ) → List Block → List Block → Type 0
Alike k row [] [] = Unit {0}
Alike k row [] (y ∷ ys) = ⊥
Alike k row (x ∷ xs) [] = ⊥
Alike k row (x ∷ xs) (y ∷ ys) =
    ((kk : ℕ) → kk < depth k → entry_in k 0 x.a row kk ≡ entry_in k 0 y.a row kk)
    × ((kk column : ℕ) → kk < depth k → column < columns_d k → entry_in k 1 x.b kk column ≡ entry_in k 1 y.b kk column)
    × Alike k row xs ys

same_adds : (k signs mode row column : ℕ) → column < columns_d k → (xs ys : List Block) → Alike k row xs ys
    → contributions k signs mode row column xs ≡ contributions k signs mode row column ys
unfolding Alike contributions
same_adds k signs mode row column hc [] [] h = refl
same_adds k signs mode row column hc [] (y ∷ ys) h = absurd h
same_adds k signs mode row column hc (x ∷ xs) [] h = absurd h
same_adds k signs mode row column hc (x ∷ xs) (y ∷ ys) h =
    ap₂ ◌∷◌ (same_added k signs mode row x.a y.a x.b y.b [] [] h.0 h.1 (λ column l. refl) column hc) (same_adds k signs mode row column hc xs ys h.2)

module _ (k signs mode : ℕ) (c c' : List ℕ) (o : open_answer k signs mode (length c) ≡ given tt) (o' : open_answer k signs mode (length c') ≡ given tt)
    (row : ℕ) (hr : row < rows_d k) (same : (column : ℕ) → column < columns_d k → entry_in k 2 c row column ≡ entry_in k 2 c' row column)
    (xs ys : List Block) (a : AllAccepted (opened_run k signs mode c) xs) (b : AllAccepted (opened_run k signs mode c') ys) (h : Alike k row xs ys)
    (column : ℕ) (hc : column < columns_d k) where
  pub own_row : sum_at (fed_all (opened_run k signs mode c) xs) row column ≡ sum_at (fed_all (opened_run k signs mode c') ys) row column
  own_row =
      sum_is k signs mode c o row column hr hc xs a
      ∙ ap₂ (λ (w : ℕ) (zs : List ℤ). int32 (fed_cell (limit k mode) w zs)) (same column hc) (same_adds k signs mode row column hc xs ys h)
      ∙ sym (sum_is k signs mode c' o' row column hr hc ys b)

  -- and so do their marks.
  pub own_marks : mark_at (fed_all (opened_run k signs mode c) xs) row column ≡ mark_at (fed_all (opened_run k signs mode c') ys) row column
  own_marks =
      mark_from_lem k signs mode c o row column hr hc xs a
      ∙ ap₂ (λ (w : ℕ) (zs : List ℤ). fed_mark (limit k mode) w 0 zs) (same column hc) (same_adds k signs mode row column hc xs ys h)
      ∙ sym (mark_from_lem k signs mode c' o' row column hr hc ys b)
