-- In the matrix of a buffer whose words are all the same, an entry depends only on its holder's element number. Where all elements of a lane
-- have one pattern, by a test that antt computes, a step adds the same number at every place. Assumes nothing.
use Rattle.std.proofs.Common.{if◌then◌else◌}
use mathlib.Core.Path.{◌≡◌, sym, ap, ap₂, subst, ◌∙◌}
use mathlib.Core.List.{List}
use Prim.Native.Nat.{ℕ, ◌+◌, ◌*◌, ◌/◌, ◌%◌, ◌<◌}
use native.Mathlib.Omega.{arith}
use lib.Arith.{digits_lt}
use lib.Dec.{T, eqb, eqb→eq}
use lib.IntN.{ℤ, pos, ◌*ℤ◌}
use lib.ListN.{length, get_or}
use Rattle.laws.specs.Bits.{combine, ones_in}
use Rattle.laws.specs.Fields.{field}
use Rattle.laws.specs.Integers.{value, sum_z, int32}
use Rattle.laws.specs.Lists.{tab}
use Rattle.laws.proofs.Every.{all, all_at}
use Rattle.laws.proofs.Integers.{sum_z_cong}
use Rattle.laws.proofs.Lists.{length_tab, get_or_tab, tab_ext}
use Rattle.kinds.specs.Kinds.{lanes, columns_at, rows_at, one_bit, Legal, Arithmetic}
use Rattle.answers.specs.Refusals.{given}
use Rattle.kinds.specs.Rule.{elements_of, rows_of, columns_of, holder_of}
use Rattle.kinds.specs.Rule.{Layout}
use Rattle.kinds.proofs.Table.{layout_at, sane, rows_are, columns_are, words_are}
use Rattle.buffers.specs.Buffers.{words_needed}
use Rattle.buffers.proofs.Elements.{word_in, element_narrow}
use Rattle.buffers.proofs.Elements.{pos as per-word}
use Rattle.buffers.proofs.Round as round
use Rattle.step_work.specs.Step.{entry_in, depth, sign_weight, unsigned_a, unsigned_b, products, combined_bits, added, limit, result_at}
use Rattle.step_limit.specs.Limits.{cell_of}
use Rattle.step.specs.StepCalls.{step_answer}
use Rattle.answers.specs.Tests.{holds}
use Rattle.step.proofs.Accepted.{step_accepted}
use Rattle.step_work.proofs.Matrices.{legal, entry_is, bits_le, sum_bits_lem}
use Rattle.step.proofs.Promises.{result_at_lem}
use Rattle.figures.specs.Figures.{uniform, Steps}

length_is : (k r w : ℕ) → length (uniform k r w) ≡ words_needed k r
unfolding uniform
length_is k r w = length_tab (words_needed k r) (λ _. w)

-- element i of a lane whose words are all w, of a width of which a word holds some
abbrev pattern : (kind role w i : ℕ) → ℕ
pattern k r w i = field (layout_at k r).bits (i % (32 / (layout_at k r).bits)) w

-- they all have the first one's pattern
abbrev pub first : (kind role w : ℕ) → ℕ
first k r w = pattern k r w 0

abbrev pub OnePattern : (kind role w : ℕ) → Type 0
OnePattern k r w = T (all (elements_of (layout_at k r)) (λ i. eqb (pattern k r w i) (first k r w)))

module _ (k r w : ℕ) (ok : Legal k r) (ne : (layout_at k r).bits ≡ 64 → ⊥) where
  abbrev f : Layout
  f = layout_at k r

  word_is : (lane n : ℕ) → lane < lanes → n < f.words → get_or (uniform k r w) (lane * f.words + n) 0 ≡ w
  unfolding uniform
  word_is lane n hl hn = get_or_tab (words_needed k r) (λ _. w) (lane * f.words + n) 0 (subst (λ (m : ℕ). lane * f.words + n < lanes * m) (sym (words_are k r ok)) (digits_lt hl hn))

  -- the entry at a legal row and column
  entry_first : OnePattern k r w → (row column : ℕ) → row < rows_at k r → column < columns_at k r → entry_in k r (uniform k r w) row column ≡ first k r w
  entry_first t row column hr hc =
      let hr' : row < rows_of f = subst (λ (n : ℕ). row < n) (rows_are k r ok) hr in
      let hc' : column < columns_of f = subst (λ (n : ℕ). column < n) (columns_are k r ok) hc in
      let lane = (holder_of f (row, column)).0 in
      let i = (holder_of f (row, column)).1 in
      let there = round.element_in_lem f (sane k r ok) row column hr' hc' in
      let width = (sane k r ok).width in
      entry_is k r ok (uniform k r w) row column hr' hc'
      ∙ element_narrow f.words (uniform k r w) lane f.bits (32 / f.bits) i (width.narrow ne) (per-word f.bits width ne)
      ∙ ap (field f.bits (i % (32 / f.bits))) (word_is lane (i / (32 / f.bits)) (round.lane_in f (sane k r ok) row column hr' hc') (word_in f.bits width ne i f.words (round.within f (sane k r ok) i there)))
      ∙ eqb→eq (pattern k r w i) (first k r w) (all_at (elements_of f) (λ i. eqb (pattern k r w i) (first k r w)) t i there)

-- what a block adds where all patterns of A are x and all of B are y
unfoldable pub added_all : (kind signs mode x y : ℕ) → ℤ
added_all k signs mode x y =
    if holds (one_bit k) then pos (ones_in (tab (depth k) (λ _. combine mode x y)))
    else sum_z (depth k) (λ _. value (unsigned_a signs) (sign_weight k) x *ℤ value (unsigned_b signs) (sign_weight k) y)

module _ (k signs mode a b c : ℕ) (result : ℤ) where
  abbrev A : List ℕ
  A = uniform k 0 a

  abbrev B : List ℕ
  B = uniform k 1 b

  abbrev C : List ℕ
  C = uniform k 2 c

  abbrev x : ℕ
  x = first k 0 a

  abbrev y : ℕ
  y = first k 1 b

  module _ (ok : Arithmetic k) (ta : OnePattern k 0 a) (tb : OnePattern k 1 b) (row column : ℕ)
      (hr : row < rows_at k 2) (hc : column < columns_at k 2) where
    at_A : (kk : ℕ) → kk < depth k → entry_in k 0 A row kk ≡ x
    at_A kk h = entry_first k 0 a (legal k ok 0 (omega arith)) (λ e. omega (arith, bits_le k ok)) ta row kk hr h

    at_B : (kk : ℕ) → kk < depth k → entry_in k 1 B kk column ≡ y
    at_B kk h = entry_first k 1 b (legal k ok 1 (omega arith)) (λ e. omega (arith, bits_le k ok)) tb kk column h hc

    added_is : added k signs mode A B row column ≡ added_all k signs mode x y
    unfolding added combined_bits products added_all
    added_is =
        ap₂ (λ (bits : List ℕ) (s : ℤ). if holds (one_bit k) then pos (ones_in bits) else s)
        (tab_ext (depth k) _ (λ _. combine mode x y) (λ kk h. ap₂ (combine mode) (at_A kk h) (at_B kk h)))
        (sum_z_cong (depth k) _ (λ _. value (unsigned_a signs) (sign_weight k) x *ℤ value (unsigned_b signs) (sign_weight k) y)
        (λ kk h. ap₂ (λ (u v : ℕ). value (unsigned_a signs) (sign_weight k) u *ℤ value (unsigned_b signs) (sign_weight k) v) (at_A kk h) (at_B kk h)))

  -- what antt computes of a step's figure: the answer, that A, B and C have one pattern each, and D's number
  abbrev pub Computed : Type 0
  Computed =
      (step_answer k signs mode (words_needed k 0) (words_needed k 1) (words_needed k 2) (words_needed k 2) ≡ given tt)
      × OnePattern k 0 a
      × OnePattern k 1 b
      × OnePattern k 2 c
      × (int32 (cell_of (limit k mode) (first k 2 c) (added_all k signs mode x y)) ≡ result)

  pub steps : Computed → Steps k signs mode A B C result
  unfolding result_at
  steps t =
      let ok = step_accepted k signs mode (words_needed k 0) (words_needed k 1) (words_needed k 2) (words_needed k 2) t.0 in (
        rw (length_is k 0 a, length_is k 1 b, length_is k 2 c) t.0,
        λ row column hr hc.
            ap int32
            (result_at_lem k signs mode ok A B C row column hr hc
            ∙ ap₂ (cell_of (limit k mode)) (entry_first k 2 c (legal k ok.of 2 (omega arith)) (λ e. omega (arith, sum_bits_lem k ok.of)) t.3 row column hr hc)
            (added_is ok.of t.1 t.2 row column hr hc))
            ∙ t.4,
      )
