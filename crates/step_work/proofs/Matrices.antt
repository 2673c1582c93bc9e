-- The entries of A, B and C by the words that hold them, and the words of a matrix of D by its entries: the results, and what is cut off. Assumes nothing.
use mathlib.Core.Path.{◌≡◌, refl, sym, ap, ap₂, subst, ◌∙◌}
use mathlib.Core.Bool.{Bool, true, false}
use mathlib.Core.List.{List}
use Prim.Native.Nat.{ℕ, ◌+◌, ◌*◌, ◌/◌, ◌%◌, ◌^◌, ◌<◌, ◌≤◌}
use native.Mathlib.Nat.{div-lt_iff_lt-mul, mod-lt}
use native.Mathlib.Omega.{arith}
use lib.Arith.{digits_lt, digits_div, digits_mod}
use borrow.Author.Tests.{ltb-true, ltb-false}
use lib.Dec.{T, ltb, leb, eqb}
use lib.ListN.{length, get_or}
use Rattle.laws.specs.Fields.{field, joined}
use Rattle.laws.specs.Lists.{tab, blocks}
use Rattle.laws.proofs.Every.{all}
use Rattle.laws.proofs.Fields.{field_joined}
use Rattle.laws.proofs.Lists.{length_tab, get_or_tab, tab_ext}
use Rattle.laws.proofs.Integers.{word_lt}
use Rattle.kinds.specs.Kinds.{lanes, entry_of, role_of, sum_bits, rows, columns, rows_at, columns_at, kinds, one_bit_element, int8_element, int4_element, integer, Legal, Arithmetic}
use Rattle.kinds.specs.Rule.{side_of, elements_of, rows_of, columns_of, lane_of, element_of, major, minor, place_in, holder_of}
use Rattle.kinds.specs.Laid.{Laid}
use Rattle.answers.specs.Tests.{Says}
use Rattle.kinds.specs.declared.Entry.{Entry}
use Rattle.kinds.specs.Rule.{Layout}
use Rattle.kinds.proofs.Table.{among, among_≡, among_≤, layout_at, sane, rows_are, columns_are}
use Rattle.buffers.specs.Buffers.{index, element_at, entry_at, unpacked_of, word_at, packed, words_needed}
use Rattle.buffers.specs.Buffers.{Fitting}
use Rattle.buffers.proofs.Elements.{element_whole, element_lt}
use Rattle.buffers.proofs.Places.{place_in_lem}
use Rattle.buffers.proofs.Round as round
use Rattle.step_work.specs.Step.{entry_in, depth, limit, result_at, words_d, stepped, cut_at, cuts}
use Rattle.step_limit.specs.Limits.{cell_of, mark_of}
use Rattle.step_limit.proofs.Cells.{mark_le}
use Rattle.step_limit.proofs.Marks.{get_d_past}

-- an entry of a buffer's matrix is its holder's element
pub entry_is : (k r : ℕ) → Legal k r → (ws : List ℕ) (row column : ℕ) → row < rows_of (layout_at k r) → column < columns_of (layout_at k r)
    → entry_in k r ws row column ≡ element_at (layout_at k r).bits (layout_at k r).words ws (holder_of (layout_at k r) (row, column)).0 (holder_of (layout_at k r) (row, column)).1
unfolding entry_in entry_at
entry_is k r ok ws row column hr hc =
    ap (λ (n : ℕ). get_or (unpacked_of k r ws) (index n (row, column)) 0) (columns_are k r ok)
    ∙ round.unpacked_entry (layout_at k r) (sane k r ok) ws row column hr hc

-- what holds of every arithmetic kind's line, by a test that antt computes
module _ (k : ℕ) (ok : Arithmetic k) where
  abbrev e : Entry
  e = entry_of k

  pub legal : (r : ℕ) → r ≤ 2 → Legal k r
  legal r h = record { low = ok.low; high = ok.high; role = h }

  eq_test : (f g : Entry → ℕ) → T (all kinds (among one_bit_element int4_element (λ e. eqb (f e) (g e)))) → f e ≡ g e
  eq_test f g t = among_≡ k ok.low ok.high one_bit_element int4_element ok.is f g t

  le_test : (f g : Entry → ℕ) → T (all kinds (among one_bit_element int4_element (λ e. leb (f e) (g e)))) → f e ≤ g e
  le_test f g t = among_≤ k ok.low ok.high one_bit_element int4_element ok.is f g t

  -- a C or D element is a word, and a lane holds a pair of them for each half of eight rows
  pub sum_bits_lem : sum_bits e.element ≡ 32
  sum_bits_lem = eq_test (λ e. sum_bits e.element) (λ e. 32) tt

  pub pairs : e.c ≡ 2 * (e.m / 8)
  pairs = eq_test (λ e. e.c) (λ e. 2 * (e.m / 8)) tt

  pub one_span : e.n / 4 / 2 ≡ 1
  one_span = eq_test (λ e. e.n / 4 / 2) (λ e. 1) tt

  -- the depth is the minor numbers of A and of B
  pub depth_is : depth k ≡ e.k / 4 / side_of e.bits * 4 * side_of e.bits
  depth_is = eq_test (λ e. e.k) (λ e. e.k / 4 / side_of e.bits * 4 * side_of e.bits) tt

  -- D's places are rows of A and columns of B
  pub columns_eight : e.n / 8 * 8 ≡ 8
  columns_eight = eq_test (λ e. e.n / 8 * 8) (λ e. 8) tt

  pub columns_half : e.n / 8 ≡ 1
  columns_half = eq_test (λ e. e.n / 8) (λ e. 1) tt

  pub halves_pos : 0 < e.m / 8
  halves_pos = le_test (λ e. 1) (λ e. e.m / 8) tt

  pub words_pos : 0 < e.c
  words_pos = le_test (λ e. 1) (λ e. e.c) tt

  -- an element of A and B has at most a byte
  pub bits_pos : 0 < e.bits
  bits_pos = le_test (λ e. 1) (λ e. e.bits) tt

  pub bits_le : e.bits ≤ 8
  bits_le = le_test (λ e. e.bits) (λ e. 8) tt

  -- the integer kinds are shallow, and there is room for their digits
  module _ (two : Says (integer k)) where
    integer_test : (f g : Entry → ℕ) → T (all kinds (among int8_element int4_element (λ e. leb (f e) (g e)))) → f e ≤ g e
    integer_test f g t = among_≤ k ok.low ok.high int8_element int4_element two f g t

    -- four bits or eight
    pub eight_bits : (e.bits ≡ 4 → ⊥) → e.bits ≡ 8
    eight_bits other = omega (arith, other, bits_le, integer_test (λ e. 4) (λ e. e.bits) tt, integer_test (λ e. e.bits % 4) (λ e. 0) tt)

    pub depth_small : depth k ≤ 64
    depth_small = integer_test (λ e. e.k) (λ e. 64) tt

    pub room_A : e.m / 8 * 8 * depth k ≤ 1024
    room_A = integer_test (λ e. e.m / 8 * 8 * e.k) (λ e. 1024) tt

    pub room_B : e.n / 8 * 8 * depth k ≤ 1024
    room_B = integer_test (λ e. e.n / 8 * 8 * e.k) (λ e. 1024) tt

  -- there are at most two halves of eight rows
  pub halves_le : e.m / 8 ≤ 2
  halves_le = le_test (λ e. e.m / 8) (λ e. 2) tt

  -- A and B by the words that hold them
  pub entry_A : (ws : List ℕ) (row kk : ℕ) → row < e.m / 8 * 8 → kk < depth k
      → entry_in k 0 ws row kk ≡ element_at e.bits e.a ws (lane_of (side_of e.bits) row kk) (element_of (side_of e.bits) (e.m / 8) row kk)
  entry_A ws row kk hr hk = entry_is k 0 (legal 0 (omega arith)) ws row kk hr (subst (λ (n : ℕ). kk < n) depth_is hk)

  pub entry_B : (ws : List ℕ) (kk column : ℕ) → kk < depth k → column < 8
      → entry_in k 1 ws kk column ≡ element_at e.bits e.b ws (lane_of (side_of e.bits) column kk) (element_of (side_of e.bits) (e.n / 8) column kk)
  entry_B ws kk column hk hc = entry_is k 1 (legal 1 (omega arith)) ws kk column (subst (λ (n : ℕ). kk < n) depth_is hk) (subst (λ (n : ℕ). column < n) (sym columns_eight) hc)

  -- the layout of C and D
  abbrev f : Layout
  f = layout_at k 2

  laid : Laid f
  laid = sane k 2 (legal 2 (omega arith))

  elements_words : elements_of f ≡ e.c
  elements_words = ap (λ (s : ℕ). s * (e.m / 8) * 2) one_span ∙ omega (arith, pairs)

  index_is : (x : ℕ × ℕ) → index (columns_of f) x ≡ index (columns e (role_of 2)) x
  index_is x = ap (λ (n : ℕ). index n x) (sym (columns_are k 2 (legal 2 (omega arith))))

  module _ (lane i : ℕ) (hl : lane < lanes) (hi : i < e.c) where
    inside : i < elements_of f
    inside = subst (λ (n : ℕ). i < n) (sym elements_words) hi

    -- C's entry at the place of a lane's element is the lane's word
    pub entry_C : (ws : List ℕ) → ((x : ℕ) → get_or ws x 0 < 2 ^ 32) → entry_in k 2 ws (major 2 (e.m / 8) lane i) (minor 2 (e.m / 8) lane i) ≡ get_or ws (lane * e.c + i) 0
    unfolding entry_in
    entry_C ws fit =
        ap (λ (n : ℕ). get_or (unpacked_of k 2 ws) n 0) (sym (index_is (place_in f lane i)))
        ∙ round.unpacked_at f laid ws lane i hl inside
        ∙ ap (λ (b : ℕ). element_at b e.c ws lane i) sum_bits_lem
        ∙ element_whole e.c ws lane (λ k _. fit (lane * e.c + k)) i hi

  -- the word of D in which a place stands
  abbrev pub word_of : (row column : ℕ) → ℕ
  word_of row column = (holder_of f (row, column)).0 * e.c + (holder_of f (row, column)).1

  module _ (row column : ℕ) (hr : row < rows_of f) (hc : column < columns_of f) where
    element_in_lem : (holder_of f (row, column)).1 < e.c
    element_in_lem = subst (λ (n : ℕ). (holder_of f (row, column)).1 < n) elements_words (round.element_in_lem f laid row column hr hc)

    pub word_in : word_of row column < words_needed k 2
    word_in = digits_lt (round.lane_in f laid row column hr hc) element_in_lem

    pub entry_word : (ws : List ℕ) → ((x : ℕ) → get_or ws x 0 < 2 ^ 32) → entry_in k 2 ws row column ≡ get_or ws (word_of row column) 0
    entry_word ws fit =
        let lane = (holder_of f (row, column)).0 in
        let i = (holder_of f (row, column)).1 in
        entry_is k 2 (legal 2 (omega arith)) ws row column hr hc
        ∙ ap (λ (b : ℕ). element_at b e.c ws lane i) sum_bits_lem
        ∙ element_whole e.c ws lane (λ k _. fit (lane * e.c + k)) i element_in_lem

  -- the words of a matrix of D: each is the entry at its place, and read as a matrix they have the entries
  module _ (at : ℕ → ℕ → ℕ) (at_lt : (row column : ℕ) → at row column < 2 ^ 32) where
    abbrev matrix : List ℕ
    matrix = tab (rows_at k 2 * columns_at k 2) (blocks (columns_at k 2) at)

    matrix_is : matrix ≡ tab (rows_of f * columns_of f) (blocks (columns_of f) at)
    matrix_is = ap₂ (λ (m n : ℕ). tab (m * n) (blocks n at)) (rows_are k 2 (legal 2 (omega arith))) (columns_are k 2 (legal 2 (omega arith)))

    matrix_at : (lane i : ℕ) → lane < lanes → i < elements_of f → get_or matrix (index (columns_of f) (place_in f lane i)) 0 ≡ at (major 2 (e.m / 8) lane i) (minor 2 (e.m / 8) lane i)
    matrix_at lane i hl hi =
        ap (λ (xs : List ℕ). get_or xs (index (columns_of f) (place_in f lane i)) 0) matrix_is
        ∙ get_or_tab (rows_of f * columns_of f) (blocks (columns_of f) at) (index (columns_of f) (place_in f lane i)) 0 (place_in_lem f laid lane i hl hi)
        ∙ ap₂ at (digits_div (place_in f lane i).0 (round.column_in f laid lane i hl hi)) (digits_mod (place_in f lane i).0 (round.column_in f laid lane i hl hi))

    matrix_length : length matrix ≡ rows_of f * columns_of f
    matrix_length = ap length matrix_is ∙ length_tab (rows_of f * columns_of f) (blocks (columns_of f) at)

    matrix_fits : Fitting f.bits matrix
    matrix_fits x h =
        let e : get_or matrix x 0 ≡ at (x / columns_of f) (x % columns_of f)
        = ap (λ (xs : List ℕ). get_or xs x 0) matrix_is ∙ get_or_tab (rows_of f * columns_of f) (blocks (columns_of f) at) x 0 (subst (λ (n : ℕ). x < n) matrix_length h) in
        subst (λ (n : ℕ). get_or matrix x 0 < 2 ^ n) (sym sum_bits_lem) (subst (λ (v : ℕ). v < 2 ^ 32) (sym e) (at_lt (x / columns_of f) (x % columns_of f)))

    word_is : (lane i : ℕ) → lane < lanes → i < e.c → word_at f matrix lane i ≡ at (major 2 (e.m / 8) lane i) (minor 2 (e.m / 8) lane i)
    word_is lane i hl hi =
        let entries : ℕ → ℕ = λ i. get_or matrix (index (columns_of f) (place_in f lane i)) 0 in
        round.word_number f laid matrix matrix_fits matrix_length lane i hl hi
        ∙ ap₂ (λ (b n : ℕ). field 32 i (joined b n entries)) sum_bits_lem elements_words
        ∙ field_joined 32 e.c entries (λ i h. subst (λ (v : ℕ). v < 2 ^ 32) (sym (matrix_at lane i hl (inside lane i hl h))) (at_lt _ _)) i hi
        ∙ matrix_at lane i hl (inside lane i hl hi)

    pub words_are : words_d k at ≡ tab (lanes * e.c) (blocks e.c (λ lane i. at (major 2 (e.m / 8) lane i) (minor 2 (e.m / 8) lane i)))
    unfolding words_d packed
    words_are =
        tab_ext (lanes * e.c) (blocks e.c (word_at f matrix)) (blocks e.c (λ lane i. at (major 2 (e.m / 8) lane i) (minor 2 (e.m / 8) lane i)))
        (λ x h. word_is (x / e.c) (x % e.c) ((div-lt_iff_lt-mul laid.words_pos).1 h) (mod-lt x laid.words_pos))

    pub words_length : length (words_d k at) ≡ words_needed k 2
    words_length = ap length words_are ∙ length_tab (lanes * e.c) (blocks e.c (λ lane i. at (major 2 (e.m / 8) lane i) (minor 2 (e.m / 8) lane i)))

    -- what holds of 0 and at every place holds of each of them
    pub words_each : (P : ℕ → Type 0) → P 0 → ((row column : ℕ) → P (at row column)) → (j : ℕ) → P (get_or (words_d k at) j 0)
    words_each P none some j = either (ltb j (lanes * e.c)) refl
      where
        cell : ℕ → ℕ → ℕ
        cell lane i = at (major 2 (e.m / 8) lane i) (minor 2 (e.m / 8) lane i)

        either : (t : Bool) → ltb j (lanes * e.c) ≡ t → P (get_or (words_d k at) j 0)
        either true l =
            subst P (sym (ap (λ (ws : List ℕ). get_or ws j 0) words_are ∙ get_or_tab (lanes * e.c) (blocks e.c cell) j 0 (ltb-true j (lanes * e.c) l))) (some _ _)
        either false l = subst P (sym (get_d_past (words_d k at) j (omega (arith, words_length, ltb-false j (lanes * e.c) l)))) none

    pub entry_at_lem : (row column : ℕ) → row < rows_of f → column < columns_of f → entry_in k 2 (words_d k at) row column ≡ at row column
    unfolding entry_in words_d
    entry_at_lem row column hr hc =
        ap₂ (λ (xs : List ℕ) (n : ℕ). get_or xs n 0) (round.pack_unpack f laid matrix matrix_fits matrix_length) (sym (index_is (row, column)))
        ∙ ap (λ (xs : List ℕ). get_or xs (index (columns_of f) (row, column)) 0) matrix_is
        ∙ get_or_tab (rows_of f * columns_of f) (blocks (columns_of f) at) (index (columns_of f) (row, column)) 0 (digits_lt hr hc)
        ∙ ap₂ at (digits_div row hc) (digits_mod row hc)

  -- the words of D, and what is cut off there
  module _ (signs mode : ℕ) (a b c : List ℕ) where
    result_lt : (row column : ℕ) → result_at k signs mode a b c row column < 2 ^ 32
    unfolding result_at cell_of
    result_lt row column = word_lt _

    pub cut_le : (row column : ℕ) → cut_at k signs mode a b c row column ≤ 1
    unfolding cut_at
    cut_le row column = mark_le (limit k mode) _ _

    cut_lt : (row column : ℕ) → cut_at k signs mode a b c row column < 2 ^ 32
    cut_lt row column = omega (arith, cut_le row column)

    pub stepped_is : stepped k signs mode a b c ≡ tab (lanes * e.c) (blocks e.c (λ lane i. result_at k signs mode a b c (major 2 (e.m / 8) lane i) (minor 2 (e.m / 8) lane i)))
    unfolding stepped
    stepped_is = words_are (result_at k signs mode a b c) result_lt

    pub stepped_length : length (stepped k signs mode a b c) ≡ words_needed k 2
    unfolding stepped
    stepped_length = words_length (result_at k signs mode a b c) result_lt

    pub stepped_lt : (j : ℕ) → get_or (stepped k signs mode a b c) j 0 < 2 ^ 32
    unfolding stepped
    stepped_lt = words_each (result_at k signs mode a b c) result_lt (λ x. x < 2 ^ 32) (omega arith) result_lt

    pub entry_D : (row column : ℕ) → row < rows_of f → column < columns_of f → entry_in k 2 (stepped k signs mode a b c) row column ≡ result_at k signs mode a b c row column
    unfolding stepped
    entry_D row column hr hc = entry_at_lem (result_at k signs mode a b c) result_lt row column hr hc

    pub cuts_are : cuts k signs mode a b c ≡ tab (lanes * e.c) (blocks e.c (λ lane i. cut_at k signs mode a b c (major 2 (e.m / 8) lane i) (minor 2 (e.m / 8) lane i)))
    unfolding cuts
    cuts_are = words_are (cut_at k signs mode a b c) cut_lt

    pub cuts_length : length (cuts k signs mode a b c) ≡ words_needed k 2
    unfolding cuts
    cuts_length = words_length (cut_at k signs mode a b c) cut_lt

    pub entry_cut : (row column : ℕ) → row < rows_of f → column < columns_of f → entry_in k 2 (cuts k signs mode a b c) row column ≡ cut_at k signs mode a b c row column
    unfolding cuts
    entry_cut row column hr hc = entry_at_lem (cut_at k signs mode a b c) cut_lt row column hr hc

    -- what holds of 0 and at every place holds of each of them: so each is 0 or 1, and 0 where the step can't clamp
    cuts_each : (P : ℕ → Type 0) → P 0 → ((row column : ℕ) → P (cut_at k signs mode a b c row column)) → (j : ℕ) → P (get_or (cuts k signs mode a b c) j 0)
    unfolding cuts
    cuts_each = words_each (cut_at k signs mode a b c) cut_lt

    pub cuts_lt : (j : ℕ) → get_or (cuts k signs mode a b c) j 0 < 2
    cuts_lt = cuts_each (λ x. x < 2) (omega arith) (λ row column. omega (arith, cut_le row column))

    pub uncut_at : limit k mode ≡ 0 → (row column : ℕ) → cut_at k signs mode a b c row column ≡ 0
    unfolding cut_at mark_of
    uncut_at z row column = rw z refl

    pub uncut : limit k mode ≡ 0 → (j : ℕ) → get_or (cuts k signs mode a b c) j 0 ≡ 0
    uncut z = cuts_each (λ x. x ≡ 0) refl (uncut_at z)

  -- every entry of C or D is a 32-bit number
  pub entry_lt : (ws : List ℕ) (row column : ℕ) → row < rows e (role_of 2) → column < columns e (role_of 2) → entry_in k 2 ws row column < 2 ^ 32
  entry_lt ws row column hr hc =
      let l = legal 2 (omega arith) in
      let x = holder_of f (row, column) in
      subst (λ (v : ℕ). v < 2 ^ 32) (sym (entry_is k 2 l ws row column (subst (λ (n : ℕ). row < n) (rows_are k 2 l) hr) (subst (λ (n : ℕ). column < n) (columns_are k 2 l) hc)))
      (subst (λ (b : ℕ). element_at f.bits e.c ws x.0 x.1 < 2 ^ b) sum_bits_lem (element_lt f.bits e.c ws x.0 x.1))
