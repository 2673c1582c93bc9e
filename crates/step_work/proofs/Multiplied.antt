-- The sums over digits are the sums of the products of A's row and B's column. Assumes nothing.
use mathlib.Core.Path.{◌≡◌, refl, sym, ap, ap₂, subst, ◌∙◌}
use mathlib.Core.Bool.{Bool, true, false}
use mathlib.Core.List.{List}
use Prim.Native.Nat.{ℕ, ◌+◌, ◌-◌, ◌*◌, ◌/◌, ◌%◌, ◌^◌, ◌<◌, ◌≤◌}
use native.Mathlib.Nat.{div-lt_iff_lt-mul, mod-lt}
use native.Mathlib.Omega.{arith}
use lib.ListN.{length, get_or}
use lib.Pow.{pow_pos}
use Rattle.laws.specs.Lists.{tab, blocks}
use Rattle.laws.proofs.Lists.{get_or_tab, tab_ext}
use Rattle.kinds.specs.Kinds.{lanes, entry_of, integer}
use Rattle.kinds.specs.Rule.{majors, minors, major, minor}
use Rattle.kinds.specs.Laid.{Laid}
use Rattle.kinds.specs.Workers.{layouts_of}
use Rattle.kinds.specs.Rule.{Layout}
use Rattle.kinds.specs.declared.Layouts.{Layouts}
use Rattle.kinds.proofs.Digits.{major_lt, minor_lt}
use Rattle.kinds.proofs.Table.{not_one_bit, layout_at, sane}
use Rattle.step_work.specs.Step.{entry_in, depth, sign_weight, unsigned_a, unsigned_b, products, added, result_at, stepped, cut_at, cuts}
use Rattle.step_limit.specs.Limits.{cell_of, mark_of}
use Rattle.step_limit.specs.Marks.{kept_marks}
use Rattle.step_limit.specs.Workers.{with_marks}
use Rattle.step_limit.proofs.Marks.{kept_all}
use Rattle.step_work.specs.Workers.{Ready}
use Rattle.step_products.specs.Sums.{offset_of, raised, digit_at, offset_dot, digits_word, digits_mark, digits_words, digits_marks, Digits, Summable}
use Rattle.step_products.specs.declared.Offsets.{Offsets}
use Rattle.buffers.proofs.Elements.{element_lt}
use Rattle.step_products.proofs.OffsetDots.{dot_digits, offset_ext}
use Rattle.step_products.proofs.Signs.{doubled}
use Rattle.step_products.proofs.Worded.{marks_small}
use Rattle.step_nibbles.specs.Planes.{Nibbled}
use Rattle.answers.specs.Tests.{Says}
use Rattle.step_work.proofs.Matrices.{entry_A, entry_B, entry_C, stepped_is, cuts_are, cuts_length, legal, depth_is, depth_small, pairs, bits_pos, bits_le, columns_half, halves_pos, words_pos, eight_bits, room_A, room_B, halves_le}

module _ (k signs mode : ℕ) (ok : Ready k signs mode) (two : Says (integer k)) (a b c xs ys : List ℕ) (fit : (x : ℕ) → get_or c x 0 < 2 ^ 32) where
  abbrev β : ℕ
  β = (entry_of k).bits

  abbrev h : ℕ
  h = (entry_of k).m / 8

  abbrev n : ℕ
  n = depth k

  abbrev m : ℕ
  m = minors (layout_at k 0)

  abbrev oa : ℕ
  oa = offset_of (unsigned_a signs) (sign_weight k)

  abbrev ob : ℕ
  ob = offset_of (unsigned_b signs) (sign_weight k)

  size_is : 2 * sign_weight k ≡ 2 ^ β
  size_is = sym (doubled β (bits_pos k ok.of))

  deep : (kk : ℕ) → kk < n → kk < m
  deep kk hk = subst (λ (z : ℕ). kk < z) (depth_is k ok.of) hk

  pattern_A : (row kk : ℕ) → row < h * 8 → kk < n → entry_in k 0 a row kk < 2 * sign_weight k
  pattern_A row kk hr hk = rw (entry_A k ok.of a row kk hr hk, size_is) (element_lt β (entry_of k).a a _ _)

  pattern_B : (column kk : ℕ) → column < 8 → kk < n → entry_in k 1 b kk column < 2 * sign_weight k
  pattern_B column kk hc hk = rw (entry_B k ok.of b kk column hk hc, size_is) (element_lt β (entry_of k).b b _ _)

  module _ (dx : Digits (layout_at k 0) oa a xs) (dy : Digits (layout_at k 1) ob b ys) where
    -- the digits are those of the entries, which are patterns
    digit_A : (row kk : ℕ) → row < h * 8 → kk < n → get_or xs (row * m + kk) 0 ≡ raised (2 * sign_weight k) oa (entry_in k 0 a row kk)
    unfolding digit_at
    digit_A row kk hr hk = dx row kk hr (deep kk hk) ∙ ap₂ (λ (s v : ℕ). raised s oa v) (sym size_is) (sym (entry_A k ok.of a row kk hr hk))

    digit_B : (column kk : ℕ) → column < 8 → kk < n → get_or ys (column * m + kk) 0 ≡ raised (2 * sign_weight k) ob (entry_in k 1 b kk column)
    unfolding digit_at
    digit_B column kk hc hk =
        dy column kk (omega (arith, columns_half k ok.of)) (deep kk hk)
        ∙ ap₂ (λ (s v : ℕ). raised s ob v) (sym size_is) (sym (entry_B k ok.of b kk column hk hc))

    sum_is : (row column : ℕ) → row < h * 8 → column < 8 → offset_dot oa ob m (λ kk. get_or xs (row * m + kk) 0) (λ kk. get_or ys (column * m + kk) 0) ≡ products k signs a b row column
    unfolding products
    sum_is row column hr hc =
        ap (λ (z : ℕ). offset_dot oa ob z (λ kk. get_or xs (row * m + kk) 0) (λ kk. get_or ys (column * m + kk) 0)) (sym (depth_is k ok.of))
        ∙ offset_ext oa ob n (λ kk. get_or xs (row * m + kk) 0) (λ kk. get_or ys (column * m + kk) 0) (λ kk. raised (2 * sign_weight k) oa (entry_in k 0 a row kk)) (λ kk. raised (2 * sign_weight k) ob (entry_in k 1 b kk column))
        (λ kk l. (digit_A row kk hr l, digit_B column kk hc l))
        ∙ sym (dot_digits (sign_weight k) (unsigned_a signs) (unsigned_b signs) n (λ kk. entry_in k 0 a row kk) (λ kk. entry_in k 1 b kk column) (λ kk l. (pattern_A row kk hr l, pattern_B column kk hc l)))

    -- C's word, and what the block adds there
    module _ (lane i : ℕ) (hl : lane < lanes) (hi : i < (entry_of k).c) where
      abbrev row : ℕ
      row = major 2 h lane i

      abbrev column : ℕ
      column = minor 2 h lane i

      old_is : get_or c (lane * (entry_of k).c + i) 0 ≡ entry_in k 2 c row column
      old_is = sym (entry_C k ok.of lane i hl hi c fit)

      adds_is : offset_dot oa ob m (λ kk. get_or xs (row * m + kk) 0) (λ kk. get_or ys (column * m + kk) 0) ≡ products k signs a b row column
      adds_is =
          let o = ok.of in
          sum_is row column (major_lt 2 h (omega arith) (halves_pos k o) lane i hl) (minor_lt 2 h (omega arith) (halves_pos k o) 1 lane i (omega (arith, pairs k o)))

      word_is : digits_word mode m oa ob (entry_of k).c h xs ys c lane i ≡ result_at k signs mode a b c row column
      unfolding digits_word result_at added
      word_is = rw (not_one_bit k two) (ap₂ (cell_of mode) old_is adds_is)

      mark_is : digits_mark mode m oa ob (entry_of k).c h xs ys c lane i ≡ cut_at k signs mode a b c row column
      unfolding digits_mark cut_at added
      mark_is = rw (not_one_bit k two) (ap₂ (mark_of mode) old_is adds_is)

    words_are : tab (lanes * (entry_of k).c) (blocks (entry_of k).c (digits_word mode m oa ob (entry_of k).c h xs ys c)) ≡ stepped k signs mode a b c
    words_are =
        tab_ext (lanes * (entry_of k).c) (blocks (entry_of k).c (digits_word mode m oa ob (entry_of k).c h xs ys c)) (blocks (entry_of k).c (λ lane i. result_at k signs mode a b c (major 2 h lane i) (minor 2 h lane i)))
        (λ x l. word_is (x / (entry_of k).c) (x % (entry_of k).c) ((div-lt_iff_lt-mul (words_pos k ok.of)).1 l) (mod-lt x (words_pos k ok.of)))
        ∙ sym (stepped_is k ok.of signs mode a b c)

    marks_are : (j : ℕ) → j < lanes * (entry_of k).c → blocks (entry_of k).c (digits_mark mode m oa ob (entry_of k).c h xs ys c) j ≡ get_or (cuts k signs mode a b c) j 0
    marks_are j l =
        let each = (entry_of k).c in
        mark_is (j / each) (j % each) ((div-lt_iff_lt-mul (words_pos k ok.of)).1 l) (mod-lt j (words_pos k ok.of))
        ∙ sym (ap (λ (ws : List ℕ). get_or ws j 0) (cuts_are k ok.of signs mode a b c)
        ∙ get_or_tab (lanes * each) (blocks each (λ lane i. cut_at k signs mode a b c (major 2 h lane i) (minor 2 h lane i))) j 0 l)

-- a digit of four bits is below 16
digit_small : (f : Layout) (offset : ℕ) (ws out : List ℕ) → f.bits ≡ 4 → Digits f offset ws out → (x y : ℕ) → x < majors f → y < minors f → get_or out (x * minors f + y) 0 < 16
unfolding digit_at
digit_small f offset ws out four d x y hx hy =
    subst (λ (v : ℕ). v < 16) (sym (d x y hx hy))
    (subst (λ (n : ℕ). digit_at f.bits f.words f.side f.halves offset ws x y < n) (ap (λ (b : ℕ). 2 ^ b) four) (mod-lt _ (pow_pos f.bits)))

module _ (k signs mode : ℕ) (ok : Ready k signs mode) (two : Says (integer k)) (l : Layouts) (el : l ≡ layouts_of k) where
  -- the words of D, by the layouts and the offsets that the code has
  pub multiplied : (a b c xs ys : List ℕ) (h : Offsets) → ((x : ℕ) → get_or c x 0 < 2 ^ 32)
      → h.a ≡ offset_of (unsigned_a signs) (2 ^ (l.a.bits - 1)) → h.b ≡ offset_of (unsigned_b signs) (2 ^ (l.a.bits - 1))
      → Digits l.a h.a a xs → Digits l.b h.b b ys → digits_words l mode h xs ys c ≡ stepped k signs mode a b c
  unfolding digits_words
  multiplied a b c xs ys h fit = rw el (λ eu ev. rw (eu, ev) (words_are k signs mode ok two a b c xs ys fit))

  -- and their marks, kept
  cut_each : (a b c xs ys : List ℕ) (h : Offsets) → ((x : ℕ) → get_or c x 0 < 2 ^ 32)
      → h.a ≡ offset_of (unsigned_a signs) (2 ^ (l.a.bits - 1)) → h.b ≡ offset_of (unsigned_b signs) (2 ^ (l.a.bits - 1))
      → Digits l.a h.a a xs → Digits l.b h.b b ys
      → (j : ℕ) → j < lanes * l.c.words → digits_marks l mode h xs ys c j ≡ get_or (cuts k signs mode a b c) j 0
  unfolding digits_marks
  cut_each a b c xs ys h fit = rw el (λ eu ev. rw (eu, ev) (marks_are k signs mode ok two a b c xs ys fit))

  pub marked : (a b c xs ys marks : List ℕ) (h : Offsets) → ((x : ℕ) → get_or c x 0 < 2 ^ 32) → ((x : ℕ) → get_or marks x 0 < 2 ^ 32) → length marks ≡ 4
      → h.a ≡ offset_of (unsigned_a signs) (2 ^ (l.a.bits - 1)) → h.b ≡ offset_of (unsigned_b signs) (2 ^ (l.a.bits - 1))
      → Digits l.a h.a a xs → Digits l.b h.b b ys
      → with_marks 0 (lanes * l.c.words) (digits_marks l mode h xs ys c) marks ≡ kept_marks marks (cuts k signs mode a b c)
  marked a b c xs ys marks h fit fits size eu ev dx dy =
      let n : l.c.words ≡ (entry_of k).c = rw el refl in
      let few : lanes * l.c.words ≤ 128 = omega (arith, n, pairs k ok.of, halves_le k ok.of) in
      kept_all (digits_marks l mode h xs ys c) (marks_small l mode h xs ys c) marks size fits (lanes * l.c.words) few (cuts k signs mode a b c)
      (cuts_length k ok.of signs mode a b c ∙ ap (λ (n : ℕ). lanes * n) (sym n))
      (cut_each a b c xs ys h fit eu ev dx dy)

  -- what the workers ask of the layouts
  pub numbers : Laid l.a × Laid l.b × (l.a.bits ≤ 8) × (0 < l.a.bits) × (l.b.bits ≡ l.a.bits) × (majors l.a * minors l.a ≤ 1024) × (majors l.b * minors l.b ≤ 1024) × (minors l.a ≤ 64)
  numbers =
      let o = ok.of in
      let d = depth_is k o in
      rw el (
        sane k 0 (legal k o 0 (omega arith)),
        sane k 1 (legal k o 1 (omega arith)),
        bits_le k o,
        bits_pos k o,
        refl,
        subst (λ (n : ℕ). (entry_of k).m / 8 * 8 * n ≤ 1024) d (room_A k o two),
        subst (λ (n : ℕ). (entry_of k).n / 8 * 8 * n ≤ 1024) d (room_B k o two),
        omega (arith, d, depth_small k o two),
      )

  pub summable : (h : Offsets) (c d : List ℕ) → h.a ≤ 128 → h.b ≤ 128 → length c ≡ lanes * (entry_of k).c → length d ≡ lanes * (entry_of k).c → Summable l mode h c d
  summable h c d ha hb lc ld =
      let n = numbers in
      record {
        mode_le = ok.mode_le;
        spans_le = n.0.spans_le;
        deep = n.7;
        offset_a = ha;
        offset_b = hb;
        halves_pos = rw el (halves_pos k ok.of);
        halves_le = rw el (halves_le k ok.of);
        pairs = rw el (pairs k ok.of);
        of_c = lc ∙ rw el refl;
        of_d = ld ∙ rw el refl;
      }

  pub eight : (l.a.bits ≡ 4 → ⊥) → l.a.bits ≡ 8
  eight = rw el (eight_bits k ok.of two)

  -- and of the digits, where they have four bits
  pub nibbled : (a b xs ys : List ℕ) (h : Offsets) → l.a.bits ≡ 4
      → h.a ≡ offset_of (unsigned_a signs) (2 ^ (l.a.bits - 1)) → h.b ≡ offset_of (unsigned_b signs) (2 ^ (l.a.bits - 1))
      → Digits l.a h.a a xs → Digits l.b h.b b ys → Nibbled l h xs ys
  nibbled a b xs ys h four eu ev dx dy =
      let n = numbers in
      record {
        side = n.0.narrow_side (omega (arith, four)) ∙ ap (λ (b : ℕ). 32 / b) four;
        spans_pos = n.0.spans_pos;
        offset_a = small_offset (unsigned_a signs) (eu ∙ ap (λ (b : ℕ). offset_of (unsigned_a signs) (2 ^ (b - 1))) four);
        offset_b = small_offset (unsigned_b signs) (ev ∙ ap (λ (b : ℕ). offset_of (unsigned_b signs) (2 ^ (b - 1))) four);
        rows = λ row hr kk hk. digit_small l.a h.a a xs four dx row kk (subst (λ (n : ℕ). row < n * 8) halves_A hr) hk;
        columns = λ column hc kk hk.
            subst (λ (n : ℕ). get_or ys (column * n + kk) 0 < 16) (sym minors_B)
            (digit_small l.b h.b b ys (n.4 ∙ four) dy column kk (omega (arith, halves_B)) (subst (λ (n : ℕ). kk < n) minors_B hk));
      }
    where
      small_offset : {o : ℕ} (unsigned : Bool) → o ≡ offset_of unsigned 8 → o < 16
      small_offset true e = omega (arith, e)
      small_offset false e = omega (arith, e)

      halves_A : l.c.halves ≡ l.a.halves
      halves_A = rw el refl

      halves_B : l.b.halves ≡ 1
      halves_B = rw el (columns_half k ok.of)

      minors_B : minors l.a ≡ minors l.b
      minors_B = rw el refl
