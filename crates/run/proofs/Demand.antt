-- Blocks fed one after the other go their own way at each place: the word there takes in what each block adds, and the number counts the
-- blocks. So demand 3 is what holds of one word. Assumes nothing.
use mathlib.Core.Path.{◌≡◌, refl, sym, ap, subst, ◌∙◌}
use mathlib.Core.List.{List, [], ◌∷◌, Permᴰ}
use Prim.Native.Nat.{ℕ, suc, ◌+◌, ◌<◌, ◌≤◌}
use native.Mathlib.Omega.{arith}
use lib.IntN.{ℤ, ◌+ℤ◌}
use lib.ListN.{length, take, drop}
use lib.Seq.{take_at}
use Rattle.laws.specs.Integers.{int32, word32, clamp}
use Rattle.laws.proofs.Totals.{wrapped_by, clamped_by}
use Rattle.answers.specs.Refusals.{Answer, given, refusal, after}
use Rattle.buffers.specs.Buffers.{words_needed}
use Rattle.step_work.specs.Step.{entry_in, added, limit, result_at, stepped, cuts}
use Rattle.step_limit.specs.Limits.{cell_of}
use Rattle.step_limit.specs.Marks.{kept_marks}
use Rattle.step_work.specs.Workers.{Ready}
use Rattle.step_work.proofs.Matrices.{stepped_length}
use Rattle.step.proofs.Promises.{rows_d, columns_d, result_at_lem}
use Rattle.run.specs.declared.Run.{Run}
use Rattle.run.specs.Runs.{run_of, with_used, used_of, fed_run}
use Rattle.run.specs.RunCalls.{feed_answer}
use Rattle.run.specs.Blocks.{Block, fed_by, fed_all, AllAccepted, Sized, AllSized, contributions}
use Rattle.run.proofs.Laws.{Unstray, used_le, used_long, feed_accepted, feed_accepts, fed_unstray}

-- a word after what each block adds
unfoldable pub fed_cell : (mode w : ℕ) → List ℤ → ℕ
fed_cell mode w [] = w
fed_cell mode w (z ∷ zs) = fed_cell mode (cell_of mode w z) zs

pub wraps_each : (w : ℕ) (zs : List ℤ) → fed_cell 0 w zs ≡ wrapped_by w zs
unfolding fed_cell wrapped_by cell_of
wraps_each w [] = refl
wraps_each w (z ∷ zs) = wraps_each (word32 (int32 w +ℤ z)) zs

pub clamps_each : (w : ℕ) (zs : List ℤ) → fed_cell 1 w zs ≡ clamped_by w zs
unfolding fed_cell clamped_by cell_of
clamps_each w [] = refl
clamps_each w (z ∷ zs) = clamps_each (word32 (clamp (int32 w +ℤ z))) zs

-- a feed leaves 128 sums
pub fed_long : (run : Run) (x : Block) → length run.sums ≡ 128 → length (fed_by run x).sums ≡ 128
unfolding fed_run
fed_long run x l = either (feed_answer run (length x.a) (length x.b)) refl
  where
    either : (q : Answer (Unit {0})) → feed_answer run (length x.a) (length x.b) ≡ q → length (after q (fed_run run x.a x.b) run).sums ≡ 128
    either (given _) e =
        let k = run.kind.0 in
        let ok = (feed_accepted run (length x.a) (length x.b) e).0.of in
        let d = stepped k run.signs.0 run.mode.0 x.a x.b (used_of run) in
        used_long d run.sums (omega (arith, stepped_length k ok run.signs.0 run.mode.0 x.a x.b (used_of run), used_le k ok)) l
    either (refusal n d) e = l

perm_length : {xs ys : List Block} → Permᴰ xs ys → length xs ≡ length ys
perm_length Permᴰ.nil = refl
perm_length (Permᴰ.cons e d) = ap suc (perm_length d)
perm_length (Permᴰ.swap e f) = refl
perm_length (Permᴰ.trans d e) = perm_length d ∙ perm_length e

-- each block adds one number
pub adds_length : (k signs mode row column : ℕ) (xs : List Block) → length (contributions k signs mode row column xs) ≡ length xs
unfolding contributions
adds_length k signs mode row column [] = refl
adds_length k signs mode row column (x ∷ xs) = ap suc (adds_length k signs mode row column xs)

module _ (k signs mode : ℕ) (ok : Ready k signs mode) where
  abbrev N : ℕ
  N = words_needed k 2

  -- one accepted feed
  module _ (n : ℕ) (sums marks : List ℕ) (x : Block) (e : feed_answer (run_of k signs mode n sums marks) (length x.a) (length x.b) ≡ given tt) where
    abbrev next : List ℕ
    next = with_used (stepped k signs mode x.a x.b (take N sums)) sums

    abbrev next_marks : List ℕ
    next_marks = kept_marks marks (cuts k signs mode x.a x.b (take N sums))

    fed_is : fed_by (run_of k signs mode n sums marks) x ≡ run_of k signs mode (n + 1) next next_marks
    unfolding fed_run used_of
    fed_is = ap (λ (t : Answer (Unit {0})). after t (fed_run (run_of k signs mode n sums marks) x.a x.b) (run_of k signs mode n sums marks)) e

  next_used : (sums : List ℕ) (x : Block) → take N (with_used (stepped k signs mode x.a x.b (take N sums)) sums) ≡ stepped k signs mode x.a x.b (take N sums)
  unfolding with_used
  next_used sums x = take_at (stepped k signs mode x.a x.b (take N sums)) (drop (length (stepped k signs mode x.a x.b (take N sums))) sums) N (stepped_length k ok.of signs mode x.a x.b (take N sums))

  -- the word at a place takes in what the block adds
  pub place_next : (sums : List ℕ) (x : Block) (row column : ℕ) → row < rows_d k → column < columns_d k
      → entry_in k 2 (take N (with_used (stepped k signs mode x.a x.b (take N sums)) sums)) row column ≡ cell_of (limit k mode) (entry_in k 2 (take N sums) row column) (added k signs mode x.a x.b row column)
  unfolding result_at
  place_next sums x row column hr hc =
      ap (λ (ws : List ℕ). entry_in k 2 ws row column) (next_used sums x)
      ∙ result_at_lem k signs mode ok x.a x.b (take N sums) row column hr hc

  pub fed_at : (n : ℕ) (sums marks : List ℕ) (xs : List Block) → AllAccepted (run_of k signs mode n sums marks) xs → (row column : ℕ) → row < rows_d k → column < columns_d k
      → entry_in k 2 (used_of (fed_all (run_of k signs mode n sums marks) xs)) row column ≡ fed_cell (limit k mode) (entry_in k 2 (take N sums) row column) (contributions k signs mode row column xs)
  unfolding fed_all AllAccepted contributions fed_cell used_of
  fed_at n sums marks [] h row column hr hc = refl
  fed_at n sums marks (x ∷ xs) h row column hr hc =
      let g = fed_is n sums marks x h.0 in
      ap (λ (r : Run). entry_in k 2 (used_of (fed_all r xs)) row column) g
      ∙ fed_at (n + 1) (next n sums marks x h.0) (next_marks n sums marks x h.0) xs (subst (λ (r : Run). AllAccepted r xs) g h.1) row column hr hc
      ∙ ap (λ (w : ℕ). fed_cell (limit k mode) w (contributions k signs mode row column xs)) (place_next sums x row column hr hc)

  -- kind, signs and mode stay, the number counts the accepted blocks, and no stray mark is set
  pub fed_kept : (n : ℕ) (sums marks : List ℕ) (xs : List Block) → AllAccepted (run_of k signs mode n sums marks) xs
      → (ws : List ℕ) × (ms : List ℕ) × (fed_all (run_of k signs mode n sums marks) xs ≡ run_of k signs mode (n + length xs) ws ms) × (Unstray k mode marks → Unstray k mode ms)
  unfolding fed_all AllAccepted
  fed_kept n sums marks [] h = (sums, marks, ap (λ (m : ℕ). run_of k signs mode m sums marks) (omega arith), λ u. u)
  fed_kept n sums marks (x ∷ xs) h =
      let g = fed_is n sums marks x h.0 in
      let r = fed_kept (n + 1) (next n sums marks x h.0) (next_marks n sums marks x h.0) xs (subst (λ (r : Run). AllAccepted r xs) g h.1) in
      let e : n + 1 + length xs ≡ n + suc (length xs) = omega arith in
      (r.0, r.1, ap (λ (r : Run). fed_all r xs) g ∙ r.2 ∙ ap (λ (m : ℕ). run_of k signs mode m r.0 r.1) e, λ u. r.3 (fed_unstray k signs mode ok.of x.a x.b (take N sums) marks u))

  -- blocks are accepted exactly where each has the lengths needed and there are not too many
  accepted_one : (n : ℕ) (sums marks : List ℕ) (x : Block) → Unstray k mode marks → n < 4096 → Sized k x → feed_answer (run_of k signs mode n sums marks) (length x.a) (length x.b) ≡ given tt
  accepted_one n sums marks x u h s = feed_accepts (run_of k signs mode n sums marks) (length x.a) (length x.b) ok u h s.0 s.1

  pub accepted_all : (n : ℕ) (sums marks : List ℕ) (xs : List Block) → Unstray k mode marks → n + length xs ≤ 4096 → AllSized k xs → AllAccepted (run_of k signs mode n sums marks) xs
  unfolding AllAccepted
  accepted_all n sums marks [] u h s = tt
  accepted_all n sums marks (x ∷ xs) u h s =
      let e = accepted_one n sums marks x u (omega arith) s.0 in
      (e, subst (λ (r : Run). AllAccepted r xs) (sym (fed_is n sums marks x e)) (accepted_all (n + 1) (next n sums marks x e) (next_marks n sums marks x e) xs (fed_unstray k signs mode ok.of x.a x.b (take N sums) marks u) (omega arith) s.1))

  pub sized_all : (n : ℕ) (sums marks : List ℕ) (xs : List Block) → n ≤ 4096 → AllAccepted (run_of k signs mode n sums marks) xs → (n + length xs ≤ 4096) × AllSized k xs
  unfolding AllAccepted
  sized_all n sums marks [] h a = (omega arith, tt)
  sized_all n sums marks (x ∷ xs) h a =
      let f = feed_accepted (run_of k signs mode n sums marks) (length x.a) (length x.b) a.0 in
      let r = sized_all (n + 1) (next n sums marks x a.0) (next_marks n sums marks x a.0) xs (omega (arith, f.1)) (subst (λ (r : Run). AllAccepted r xs) (fed_is n sums marks x a.0) a.1) in
      (omega (arith, r.0), ((f.2, f.3), r.1))

  sized_perm : {xs ys : List Block} → Permᴰ xs ys → AllSized k xs → AllSized k ys
  sized_perm Permᴰ.nil h = tt
  sized_perm (Permᴰ.cons e d) h = (subst (Sized k) e h.0, sized_perm d h.1)
  sized_perm (Permᴰ.swap e f) h = (subst (Sized k) f h.1.0, (subst (Sized k) e h.0, h.1.1))
  sized_perm (Permᴰ.trans d e) h = sized_perm e (sized_perm d h)

  -- so blocks that are accepted in one order are accepted in every order
  pub accepted_order : (n : ℕ) (sums marks : List ℕ) {xs ys : List Block} → Unstray k mode marks → n ≤ 4096 → Permᴰ xs ys → AllAccepted (run_of k signs mode n sums marks) xs → AllAccepted (run_of k signs mode n sums marks) ys
  accepted_order n sums marks {xs} {ys} u h d a =
      let s = sized_all n sums marks xs h a in
      accepted_all n sums marks ys u (omega (arith, s.0, perm_length d)) (sized_perm d s.1)

  -- and what they add at a place is a permutation too
  pub added_perm : (row column : ℕ) {xs ys : List Block} → Permᴰ xs ys → Permᴰ (contributions k signs mode row column xs) (contributions k signs mode row column ys)
  unfolding contributions
  added_perm row column Permᴰ.nil = Permᴰ.nil
  added_perm row column (Permᴰ.cons e d) = Permᴰ.cons (ap (λ (x : Block). added k signs mode x.a x.b row column) e) (added_perm row column d)
  added_perm row column (Permᴰ.swap e f) = Permᴰ.swap (ap (λ (x : Block). added k signs mode x.a x.b row column) e) (ap (λ (x : Block). added k signs mode x.a x.b row column) f)
  added_perm row column (Permᴰ.trans d e) = Permᴰ.trans (added_perm row column d) (added_perm row column e)
