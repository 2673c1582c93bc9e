-- The words of D that the code works out are those of the list of them, which has all of every lane. Assumes nothing.
use mathlib.Core.Path.{◌≡◌, sym, ap, ap₂, ◌∙◌}
use mathlib.Core.List.{List}
use Prim.Native.Nat.{ℕ, ◌+◌, ◌*◌, ◌/◌, ◌%◌, ◌<◌, ◌≤◌}
use native.Mathlib.Nat.{mod-lt, div-add-mod', div-lt_iff_lt-mul}
use lib.Arith.{digits_lt, digits_div, digits_mod}
use lib.IntN.{sub_ℕ}
use lib.ListN.{length, get_or}
use Rattle.laws.specs.Lists.{tab, blocks}
use Rattle.laws.specs.Toward.{Below, At}
use Rattle.laws.proofs.Lists.{get_or_tab, length_tab}
use Rattle.kinds.specs.Kinds.{lanes}
use Rattle.kinds.specs.Rule.{major, minor, minors}
use Rattle.kinds.specs.Rule.{Layout}
use Rattle.kinds.specs.declared.Layouts.{Layouts}
use Rattle.step_limit.specs.Limits.{cell_of, mark_of}
use Rattle.step_limit.proofs.Cells.{mark_le}
use Rattle.step_products.specs.Sums.{offset_dot, digits_dot, digits_word, digits_mark, digits_words, digits_marks, Dots, Summable}
use Rattle.step_products.specs.declared.Dot.{Dot}
use Rattle.step_products.specs.declared.Offsets.{Offsets}
use Rattle.step_products.specs.declared.Split.{Split}
use Rattle.step_products.proofs.OffsetDots.{offset_is}

-- a word of D and its mark, from the row, the column and the sums that the code works out
module _ (mode n each halves : ℕ) (h : Offsets) (x y c : List ℕ) (lane i : ℕ) {row column : ℕ} (s : Dot) (e : Split)
    (row_is : row ≡ major 2 halves lane i) (column-is : column ≡ minor 2 halves lane i)
    (dots : Dots n (λ k. get_or x (row * n + k) 0) (λ k. get_or y (column * n + k) 0) s)
    (split : (e.plus ≡ s.products + n * (h.a * h.b)) × (e.minus ≡ h.a * s.b + h.b * s.a)) where
  dot_is : sub_ℕ e.plus e.minus ≡ digits_dot n h.a h.b halves x y lane i
  dot_is =
      let a : ℕ → ℕ = λ k. get_or x (row * n + k) 0 in
      let b : ℕ → ℕ = λ k. get_or y (column * n + k) 0 in
      ap₂ sub_ℕ
      (split.0 ∙ ap (λ (m : ℕ). m + n * (h.a * h.b)) dots.products)
      (split.1 ∙ ap₂ (λ (p q : ℕ). h.a * p + h.b * q) dots.of_b dots.of_a)
      ∙ sym (offset_is h.a h.b n a b)
      ∙ ap₂ (λ (row column : ℕ). offset_dot h.a h.b n (λ k. get_or x (row * n + k) 0) (λ k. get_or y (column * n + k) 0)) row_is column-is

  pub digits_word_lem : {r : ℕ} → r ≡ cell_of mode (get_or c (lane * each + i) 0) (sub_ℕ e.plus e.minus) → r ≡ digits_word mode n h.a h.b each halves x y c lane i
  unfolding digits_word
  digits_word_lem q = q ∙ ap (cell_of mode (get_or c (lane * each + i) 0)) dot_is

  pub digits_mark_lem : {r : ℕ} → r ≡ mark_of mode (get_or c (lane * each + i) 0) (sub_ℕ e.plus e.minus) → r ≡ digits_mark mode n h.a h.b each halves x y c lane i
  unfolding digits_mark
  digits_mark_lem q = q ∙ ap (mark_of mode (get_or c (lane * each + i) 0)) dot_is

-- the words of D, from C's layout and the length of a row of digits
abbrev pub words_by : Layout → (n mode : ℕ) → Offsets → (x y c : List ℕ) → List ℕ
words_by g n mode h x y c = tab (lanes * g.words) (blocks g.words (digits_word mode n h.a h.b g.words g.halves x y c))

-- and their marks
abbrev pub marks_by : Layout → (n mode : ℕ) → Offsets → (x y c : List ℕ) → ℕ → ℕ
marks_by g n mode h x y c = blocks g.words (digits_mark mode n h.a h.b g.words g.halves x y c)

-- one of them
pub word_at_lem : (g : Layout) (n mode : ℕ) (h : Offsets) (x y c : List ℕ) (lane i : ℕ) → lane < lanes → i < g.words
    → get_or (words_by g n mode h x y c) (lane * g.words + i) 0 ≡ digits_word mode n h.a h.b g.words g.halves x y c lane i
word_at_lem g n mode h x y c lane i hl hi =
    let w = digits_word mode n h.a h.b g.words g.halves x y c in
    get_or_tab (lanes * g.words) (blocks g.words w) (lane * g.words + i) 0 (digits_lt hl hi) ∙ ap₂ w (digits_div lane hi) (digits_mod lane hi)

pub words_length : (l : Layouts) (mode : ℕ) (h : Offsets) (x y c : List ℕ) → length (digits_words l mode h x y c) ≡ lanes * l.c.words
unfolding digits_words
words_length l mode h x y c = length_tab (lanes * l.c.words) (blocks l.c.words (digits_word mode (l.a.spans * 4 * l.a.side) h.a h.b l.c.words l.c.halves x y c))

-- a lane's mark, and that each is 0 or 1
pub mark_at_lem : (g : Layout) (n mode : ℕ) (h : Offsets) (x y c : List ℕ) (lane i : ℕ) → i < g.words
    → marks_by g n mode h x y c (lane * g.words + i) ≡ digits_mark mode n h.a h.b g.words g.halves x y c lane i
mark_at_lem g n mode h x y c lane i hi = ap₂ (digits_mark mode n h.a h.b g.words g.halves x y c) (digits_div lane hi) (digits_mod lane hi)

pub marks_le : (g : Layout) (n mode : ℕ) (h : Offsets) (x y c : List ℕ) (j : ℕ) → marks_by g n mode h x y c j ≤ 1
unfolding digits_mark
marks_le g n mode h x y c j = mark_le mode _ _

pub marks_small : (l : Layouts) (mode : ℕ) (h : Offsets) (x y c : List ℕ) (j : ℕ) → digits_marks l mode h x y c j ≤ 1
unfolding digits_marks
marks_small l mode h x y c j = marks_le l.c (minors l.a) mode h x y c j

-- every index is a word of a lane
pub lane_covered : (each x : ℕ) → 0 < each → x < lanes * each → Below lanes (λ lane. Below each (λ i. At (lane * each + i))) x
lane_covered each x some l = (x / each, (div-lt_iff_lt-mul some).1 l, (x % each, mod-lt x some, sym (div-add-mod' x each)))

-- a buffer that was filled in part asks for no more
pub still_summable : (l : Layouts) (mode : ℕ) (h : Offsets) (c d e : List ℕ) → Summable l mode h c d → length e ≡ length d → Summable l mode h c e
still_summable l mode h c d e p same =
    record {
      mode_le = p.mode_le;
      spans_le = p.spans_le;
      deep = p.deep;
      offset_a = p.offset_a;
      offset_b = p.offset_b;
      halves_pos = p.halves_pos;
      halves_le = p.halves_le;
      pairs = p.pairs;
      of_c = p.of_c;
      of_d = same ∙ p.of_d;
    }
