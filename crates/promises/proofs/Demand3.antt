-- Demand 3, a sentence above its statement: '0 to 4,096 blocks fed into a newly opened run: with wrapping (and always in the one-bit form) each
-- sum is the signed 32-bit number congruent to start plus all exact products modulo 2^32, in every order; with saturation, where no contribution
-- to a place is negative or none is positive, the exact total clamped, in every order; otherwise the total clamped after each block in the order
-- fed.' Every order is every permutation of the list; Wraps is congruence modulo 2^32. Assumes nothing.
use mathlib.Core.Path.{◌≡◌, sym, ap, ap₂, subst, ◌∙◌}
use mathlib.Core.Logic.{◌↔◌, ◌⊎◌}
use mathlib.Core.List.Permᴰ
use mathlib.Core.List.{List, Permᴰ}
use Prim.Native.Nat.{ℕ, ◌*◌, ◌^◌, ◌<◌, ◌≤◌}
use native.Mathlib.Nat.{le_trans, mul-le-mul}
use native.Mathlib.Omega.{arith}
use lib.IntN.{ℤ, pos, ◌+ℤ◌, ◌*ℤ◌, +ℤ_idl}
use lib.Signed.{◌<ℤ◌, lt_z_yes}
use lib.Dec.{lt→ltb}
use lib.ListN.{length}
use Rattle.laws.specs.Bits.{combine, ones_in}
use Rattle.laws.specs.Integers.{value, sum_z, int32, clamp}
use Rattle.laws.specs.Lists.{tab}
use Rattle.laws.specs.Totals.{total, clamped_each, NoneNegative, NonePositive, Wraps}
use Rattle.laws.proofs.Integers.{wraps_only}
use Rattle.kinds.specs.Kinds.{columns_at, rows_at, one_bit, integer}
use Rattle.answers.specs.Refusals.{Answer, given, refusal, after}
use Rattle.answers.specs.Tests.{Says}
use Rattle.answers.proofs.Words.{says}
use Rattle.kinds.proofs.Table.{not_one_bit}
use Rattle.step_work.specs.Step.{entry_in, depth, sign_weight, unsigned_a, unsigned_b, products, combined_bits, added}
use Rattle.step_work.specs.Workers.{Ready}
use Rattle.step_work.proofs.Matrices.{entry_lt}
use Rattle.step_work.proofs.Counted.{depth_le}
use Rattle.run.specs.declared.Run.{Run}
use Rattle.run.specs.Runs.{zeros, no_marks, with_used, used_of, opened_run}
use Rattle.run.specs.RunCalls.{open_answer, feed_answer, read_answer}
use Rattle.run.specs.Blocks.{Block, fed_all, AllAccepted, AllSized, accepted_of, contributions, sum_at}
use Rattle.run.proofs.Laws.{open_accepted, opened_unstray}
use Rattle.run.proofs.Demand.{fed_kept, accepted_all as accepted-each, sized_all}
use Rattle.run.proofs.Promises as runs

-- What a block contributes to a place: the exact products, or in the one-bit form the count of ones.
pub contribution_integer : (k signs mode : ℕ) → Says (integer k) → (x : Block) (row column : ℕ)
    → added k signs mode x.a x.b row column
    ≡ sum_z (depth k) (λ j. value (unsigned_a signs) (sign_weight k) (entry_in k 0 x.a row j) *ℤ value (unsigned_b signs) (sign_weight k) (entry_in k 1 x.b j column))
unfolding added products
contribution_integer k signs mode h x row column = simp (not_one_bit k h)

pub contribution_one_bit : (k signs mode : ℕ) → Says (one_bit k) → (x : Block) (row column : ℕ)
    → added k signs mode x.a x.b row column ≡ pos (ones_in (tab (depth k) (λ j. combine mode (entry_in k 0 x.a row j) (entry_in k 1 x.b j column))))
unfolding added combined_bits
contribution_one_bit k signs mode h x row column = simp ((says (one_bit k)).1 h)

-- a newly opened run
module _ (k signs mode : ℕ) (c : List ℕ) (opened : open_answer k signs mode (length c) ≡ given tt) where
  ready : Ready k signs mode
  ready = (open_accepted k signs mode (length c) opened).0

  -- '0 to 4,096 blocks': blocks fed into it are accepted throughout exactly when there are at most 4,096, each of the lengths needed.
  pub accepted_all : (xs : List Block)
      → AllAccepted (opened_run k signs mode c) xs ↔ ((length xs ≤ 4096) × AllSized k xs)
  unfolding opened_run
  accepted_all xs = (there, λ s. accepted-each k signs mode ready 0 (with_used c zeros) no_marks xs (opened_unstray k mode) (omega (arith, s.0)) s.1)
    where
      there : AllAccepted (opened_run k signs mode c) xs → (length xs ≤ 4096) × AllSized k xs
      there a = let s = sized_all k signs mode ready 0 (with_used c zeros) no_marks xs (omega arith) a in (omega (arith, s.0), s.1)

  -- The number in the run is the number of blocks,
  pub counted : (xs : List Block) → length xs ≤ 4096 → AllSized k xs
      → (fed_all (opened_run k signs mode c) xs).blocks ≡ length xs
  counted xs n s = runs.counted k signs mode c opened xs ((accepted_all xs).1 (n, s))

  -- also where refused feeds stand between: the run is that of the accepted ones alone, of which the three sentences below speak, and the number is how
  -- many they are.
  pub refused_between : (xs : List Block)
      → fed_all (opened_run k signs mode c) xs ≡ fed_all (opened_run k signs mode c) (accepted_of (opened_run k signs mode c) xs)
  refused_between xs = runs.fed_accepted (opened_run k signs mode c) xs

  pub accepted_between : (xs : List Block)
      → (length (accepted_of (opened_run k signs mode c) xs) ≤ 4096) × AllSized k (accepted_of (opened_run k signs mode c) xs)
  accepted_between xs = (accepted_all (accepted_of (opened_run k signs mode c) xs)).0 (runs.accepted_of_lem (opened_run k signs mode c) xs)

  pub counted_between : (xs : List Block)
      → (fed_all (opened_run k signs mode c) xs).blocks ≡ length (accepted_of (opened_run k signs mode c) xs)
  counted_between xs =
      let a = accepted_between xs in
      ap (λ (r : Run). r.blocks) (refused_between xs) ∙ counted (accepted_of (opened_run k signs mode c) xs) a.0 a.1

  -- its kind stays that of the opening,
  kind_kept : (xs : List Block) → (fed_all (opened_run k signs mode c) xs).kind.0 ≡ k
  unfolding opened_run
  kind_kept xs =
      ap (λ (r : Run). r.kind.0) (runs.fed_accepted (opened_run k signs mode c) xs)
      ∙ ap (λ (r : Run). r.kind.0) (fed_kept k signs mode ready 0 (with_used c zeros) no_marks (accepted_of (opened_run k signs mode c) xs) (runs.accepted_of_lem (opened_run k signs mode c) xs)).2

  -- and after 4,096 blocks every further one is refused 9.
  pub no_more : (xs : List Block) → length xs ≡ 4096 → AllSized k xs → (a b : List ℕ)
      → feed_answer (fed_all (opened_run k signs mode c) xs) (length a) (length b) ≡ refusal 9 0
  no_more xs n s a b = runs.no_more k signs mode c opened xs ((accepted_all xs).1 (omega arith, s)) n (length a) (length b)

  -- at a place of D: the start there is C's entry, and each block contributes its exact products or its bit count
  module _ (row column : ℕ) (hr : row < rows_at k 2) (hc : column < columns_at k 2) where
    -- 'with wrapping (and always in the one-bit form) each sum is the signed 32-bit number congruent to start plus all exact products modulo 2^32,
    -- in every order'
    pub wrapped_total : (mode ≡ 0) ⊎ Says (one_bit k) → (xs ys : List Block) → length xs ≤ 4096 → AllSized k xs
        → Permᴰ xs ys
        → Wraps (sum_at (fed_all (opened_run k signs mode c) ys) row column) (int32 (entry_in k 2 c row column) +ℤ total (contributions k signs mode row column xs))
    wrapped_total w xs ys n s d = (runs.wrapped_total k signs mode c opened row column hr hc w xs ys ((accepted_all xs).1 (n, s)) d).1

    -- a sum is the number of a 32-bit word
    below : (xs : List Block) → AllAccepted (opened_run k signs mode c) xs
        → entry_in (fed_all (opened_run k signs mode c) xs).kind.0 2 (used_of (fed_all (opened_run k signs mode c) xs)) row column < 2 ^ 32
    unfolding opened_run
    below xs a =
        let s = fed_kept k signs mode ready 0 (with_used c zeros) no_marks xs a in
        subst (λ (r : Run). entry_in r.kind.0 2 (used_of (fed_all (opened_run k signs mode c) xs)) row column < 2 ^ 32) (sym s.2)
        (entry_lt k ready.of (used_of (fed_all (opened_run k signs mode c) xs)) row column hr hc)

    -- and no other signed 32-bit number is.
    pub wrapped_only : (mode ≡ 0) ⊎ Says (one_bit k) → (xs ys : List Block) → length xs ≤ 4096 → AllSized k xs
        → Permᴰ xs ys
        → (w : ℕ) → w < 2 ^ 32
        → Wraps (int32 w) (int32 (entry_in k 2 c row column) +ℤ total (contributions k signs mode row column xs))
        → int32 w ≡ sum_at (fed_all (opened_run k signs mode c) ys) row column
    unfolding sum_at
    wrapped_only one xs ys n s d w l h =
        let t = runs.wrapped_total k signs mode c opened row column hr hc one xs ys ((accepted_all xs).1 (n, s)) d in
        ap int32 (wraps_only w _ l h ∙ sym (wraps_only _ _ (below ys t.0) t.1))

    -- Document 02, K5, 'sixteen boats one-bit': from a start s with s + 4,096 times K below 2^31 each sum of a one-bit kind is the exact total,
    -- in every order.
    pub one_bit_exact : Says (one_bit k) → (int32 (entry_in k 2 c row column) +ℤ pos (4096 * depth k)) <ℤ pos (2 ^ 31)
        → (xs ys : List Block) → length xs ≤ 4096 → AllSized k xs → Permᴰ xs ys
        → sum_at (fed_all (opened_run k signs mode c) ys) row column ≡ int32 (entry_in k 2 c row column) +ℤ total (contributions k signs mode row column xs)
    one_bit_exact bit low xs ys n s d = runs.exact_total k signs mode c opened row column hr hc bit low xs ys ((accepted_all xs).1 (n, s)) d n

    -- So from 0 it is a count that stays below 2^21, whatever is fed.
    pub one_bit_from_0 : Says (one_bit k) → entry_in k 2 c row column ≡ 0 → (xs : List Block) → length xs ≤ 4096 → AllSized k xs
        → (n : ℕ) × (sum_at (fed_all (opened_run k signs mode c) xs) row column ≡ pos n) × (n < 2 ^ 21)
    unfolding int32 value
    one_bit_from_0 bit none xs n s =
        let few = depth_le k ready.of bit in
        let most = 4096 * depth k in
        let t = runs.counted_total k signs mode c opened row column hr hc bit xs in
        let low = subst (λ (z : ℤ). z <ℤ pos (2 ^ 31)) (sym (from_none (pos most))) (lt_z_yes (lt→ltb most (2 ^ 31) (omega arith))) in (
          t.0,
          one_bit_exact bit low xs xs n s (Permᴰ.refl xs) ∙ from_none (total (contributions k signs mode row column xs)) ∙ t.1,
          omega (arith, le_trans t.2 (mul-le-mul {n₁ = length xs} {m₁ = depth k} {n₂ = 4096} {m₂ = 256} n few)),
        )
      where
        from_none : (z : ℤ) → int32 (entry_in k 2 c row column) +ℤ z ≡ z
        from_none z = ap (λ (w : ℕ). int32 w +ℤ z) none ∙ +ℤ_idl z

    -- 'with saturation, where no contribution to a place is negative or none is positive, the exact total clamped, in every order'
    pub clamped_total : Says (integer k) → mode ≡ 1 → (xs ys : List Block) → length xs ≤ 4096 → AllSized k xs
        → Permᴰ xs ys
        → NoneNegative (contributions k signs mode row column xs) ⊎ NonePositive (contributions k signs mode row column xs)
        → sum_at (fed_all (opened_run k signs mode c) ys) row column ≡ clamp (int32 (entry_in k 2 c row column) +ℤ total (contributions k signs mode row column xs))
    clamped_total two one xs ys n s d h = (runs.clamped_total k signs mode c opened row column hr hc two one xs ys ((accepted_all xs).1 (n, s)) d h).1

    -- 'otherwise the total clamped after each block in the order fed'
    pub clamped_each_lem : Says (integer k) → mode ≡ 1 → (xs : List Block) → length xs ≤ 4096 → AllSized k xs
        → sum_at (fed_all (opened_run k signs mode c) xs) row column ≡ clamped_each (int32 (entry_in k 2 c row column)) (contributions k signs mode row column xs)
    clamped_each_lem two one xs n s = runs.clamped_each_lem k signs mode c opened row column hr hc two one xs ((accepted_all xs).1 (n, s))

    -- An accepted read leaves D with these sums, whatever was fed.
    pub read_sums : (xs : List Block) (d : List ℕ)
        → read_answer (fed_all (opened_run k signs mode c) xs) (length d) ≡ given tt
        → int32 (entry_in k 2 (after (read_answer (fed_all (opened_run k signs mode c) xs) (length d)) (used_of (fed_all (opened_run k signs mode c) xs)) d) row column)
        ≡ sum_at (fed_all (opened_run k signs mode c) xs) row column
    unfolding sum_at
    read_sums xs d e =
        let run = fed_all (opened_run k signs mode c) xs in
        ap₂ (λ (q : Answer (Unit {0})) (kind : ℕ). int32 (entry_in kind 2 (after q (used_of run) d) row column)) e (sym (kind_kept xs))
