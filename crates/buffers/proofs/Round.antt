-- Unpacking and packing in a layout are two readings of each lane's number: by elements and by words. So each undoes the other.
-- Assumes nothing.
use mathlib.Core.Path.{◌≡◌, sym, ap, ap₂, ◌∙◌, subst}
use mathlib.Core.Bool.{Bool, true, false}
use mathlib.Core.List.{List}
use Prim.Native.Nat.{ℕ, ◌+◌, ◌*◌, ◌/◌, ◌%◌, ◌^◌, ◌≤◌, ◌<◌}
use native.Mathlib.Nat.{mul-le-mul_left, mod-eq_of_lt, mod-lt, div-add-mod', div-lt_iff_lt-mul}
use native.Mathlib.Omega.{arith}
use lib.Arith.{digits_lt, digits_div, digits_mod}
use lib.ListN.{length, get_or}
use Rattle.laws.specs.Fields.{field, joined}
use Rattle.laws.specs.Lists.{blocks}
use Rattle.laws.proofs.Fields.{field_lt, field_joined, joined_field, joined_ext, joined_lt}
use Rattle.laws.proofs.Lists.{length_tab, get_or_tab, is_tab}
use Rattle.kinds.specs.Kinds.{lanes}
use Rattle.kinds.specs.Rule.{Layout, elements_of, majors, minors, rows_of, columns_of, turn, major, minor, place_in, holder_in, holder_of}
use Rattle.kinds.specs.Laid.{Laid}
use Rattle.kinds.proofs.Digits.{lane_back, element_back, major_back, minor_back, lane_lt, element_lt, major_lt, minor_lt}
use Rattle.places.proofs.ByRule.{turn_turn}
use Rattle.buffers.specs.Buffers.{element_at, index, entry_at, unpacked, word_at, packed, Fitting}
use Rattle.buffers.proofs.Elements.{lane_number, element_number, turned_in}
use Rattle.buffers.proofs.Elements as elements
use Rattle.buffers.proofs.Places.{place_in_lem, columns_pos}

turned_out : (t : Bool) (m n x y : ℕ) → x < m → y < n → (turn t (x, y)).1 < (turn t (m, n)).1
turned_out false m n x y a b = b
turned_out true m n x y a b = a

module _ (f : Layout) where
  pub unpacked_length : (ws : List ℕ) → length (unpacked f ws) ≡ rows_of f * columns_of f
  unfolding unpacked
  unpacked_length ws = length_tab (rows_of f * columns_of f) (blocks (columns_of f) (entry_at f ws))

  pub packed_length : (m : List ℕ) → length (packed f m) ≡ lanes * f.words
  unfolding packed
  packed_length m = length_tab (lanes * f.words) (blocks f.words (word_at f m))

module _ (f : Layout) (ok : Laid f) where
  abbrev p : ℕ
  p = f.side

  abbrev h : ℕ
  h = f.halves

  abbrev C : ℕ
  C = columns_of f

  -- lane and element to a place and back
  pub holder_back : (lane i : ℕ) → lane < lanes → holder_of f (place_in f lane i) ≡ (lane, i)
  holder_back lane i hl =
      ap (holder_in f) (turn_turn f.turned (major p h lane i, minor p h lane i))
      ∙ ap₂ (λ (a b : ℕ). (a, b)) (lane_back p h ok.side_pos ok.halves_pos lane i hl) (element_back p h ok.side_pos ok.halves_pos lane i hl)

  module _ (row column : ℕ) (hr : row < rows_of f) (hc : column < columns_of f) where
    abbrev x : ℕ
    x = (turn f.turned (row, column)).0

    abbrev y : ℕ
    y = (turn f.turned (row, column)).1

    inside : (x < majors f) × (y < minors f)
    inside = turned_in f.turned (majors f) (minors f) row column hr hc

    pub lane_in : (holder_of f (row, column)).0 < lanes
    lane_in = lane_lt p h ok.side_pos ok.halves_pos x y

    pub element_in_lem : (holder_of f (row, column)).1 < elements_of f
    element_in_lem = element_lt p h ok.side_pos ok.halves_pos f.spans x y inside.0 inside.1

    pub place_back : place_in f (holder_of f (row, column)).0 (holder_of f (row, column)).1 ≡ (row, column)
    place_back =
        ap₂ (λ (a b : ℕ). turn f.turned (a, b)) (major_back p h ok.side_pos ok.halves_pos x y inside.0) (minor_back p h ok.side_pos ok.halves_pos x y inside.0)
        ∙ turn_turn f.turned (row, column)

  pub column_in : (lane i : ℕ) → lane < lanes → i < elements_of f → (place_in f lane i).1 < columns_of f
  column_in lane i hl hi =
      turned_out f.turned (majors f) (minors f) (major p h lane i) (minor p h lane i)
      (major_lt p h ok.side_pos ok.halves_pos lane i hl) (minor_lt p h ok.side_pos ok.halves_pos f.spans lane i hi)

  -- the entry at a row and a column
  pub unpacked_entry : (ws : List ℕ) (row column : ℕ) → row < rows_of f → column < columns_of f → get_or (unpacked f ws) (index C (row, column)) 0 ≡ entry_at f ws row column
  unfolding unpacked
  unpacked_entry ws row column hr hc =
      get_or_tab (rows_of f * C) (blocks C (entry_at f ws)) (index C (row, column)) 0 (digits_lt hr hc)
      ∙ ap₂ (entry_at f ws) (digits_div row hc) (digits_mod row hc)

  -- what unpacking gives at each place
  pub unpacked_at : (ws : List ℕ) (lane i : ℕ) → lane < lanes → i < elements_of f → get_or (unpacked f ws) (index C (place_in f lane i)) 0 ≡ element_at f.bits f.words ws lane i
  unfolding unpacked entry_at
  unpacked_at ws lane i hl hi =
      get_or_tab (rows_of f * C) (blocks C (entry_at f ws)) (index C (place_in f lane i)) 0 (place_in_lem f ok lane i hl hi)
      ∙ ap₂ (entry_at f ws) (digits_div (place_in f lane i).0 (column_in lane i hl hi)) (digits_mod (place_in f lane i).0 (column_in lane i hl hi))
      ∙ ap (λ (z : ℕ × ℕ). element_at f.bits f.words ws z.0 z.1) (holder_back lane i hl)

  -- and no other matrix has that
  module _ (ws m : List ℕ) (n : length m ≡ rows_of f * columns_of f) (at : (lane i : ℕ) → lane < lanes → i < elements_of f → get_or m (index C (place_in f lane i)) 0 ≡ element_at f.bits f.words ws lane i) where
    entry_is : (row column : ℕ) → row < rows_of f → column < columns_of f → get_or m (index C (row, column)) 0 ≡ entry_at f ws row column
    unfolding entry_at
    entry_is row column hr hc =
        ap (λ (z : ℕ × ℕ). get_or m (index C z) 0) (sym (place_back row column hr hc))
        ∙ at (holder_of f (row, column)).0 (holder_of f (row, column)).1 (lane_in row column hr hc) (element_in_lem row column hr hc)

    pub unpacked_only : m ≡ unpacked f ws
    unfolding unpacked
    unpacked_only =
        is_tab (rows_of f * C) (blocks C (entry_at f ws)) m 0 n
        (λ z l. ap (λ (k : ℕ). get_or m k 0) (sym (div-add-mod' z C)) ∙ entry_is (z / C) (z % C) ((div-lt_iff_lt-mul (columns_pos f ok)).1 l) (mod-lt z (columns_pos f ok)))

  pub unpacked_fits : (ws : List ℕ) → Fitting f.bits (unpacked f ws)
  unfolding unpacked entry_at
  unpacked_fits ws z l =
      let e = get_or_tab (rows_of f * C) (blocks C (entry_at f ws)) z 0 (omega (arith, unpacked_length f ws)) in
      subst (λ (v : ℕ). v < 2 ^ f.bits) (sym e) (elements.element_lt f.bits f.words ws (holder_of f (z / C, z % C)).0 (holder_of f (z / C, z % C)).1)

  -- an element of the lane lies within its words, and a word within its elements
  pub within : (i : ℕ) → i < elements_of f → f.bits * (i + 1) ≤ 32 * f.words
  within i h = let l : i + 1 ≤ elements_of f = omega (arith, h) in omega (arith, mul-le-mul_left f.bits l, ok.full)

  covers : (k : ℕ) → k < f.words → 32 * (k + 1) ≤ f.bits * elements_of f
  covers k h = omega (arith, ok.full)

  -- a word of a lane lies within the buffer
  word_in : (lane k : ℕ) → lane < lanes → k < f.words → lane * f.words + k < lanes * f.words
  word_in lane k hl hk = digits_lt hl hk

  pub packed_word : (m : List ℕ) (lane k : ℕ) → lane < lanes → k < f.words → get_or (packed f m) (lane * f.words + k) 0 ≡ word_at f m lane k
  unfolding packed
  packed_word m lane k hl hk =
      get_or_tab (lanes * f.words) (blocks f.words (word_at f m)) (lane * f.words + k) 0 (word_in lane k hl hk)
      ∙ ap₂ (word_at f m) (digits_div lane hk) (digits_mod lane hk)

  -- the number whose elements are the entries at a lane's places
  abbrev entries : List ℕ → ℕ → ℕ → ℕ
  entries m lane i = get_or m (index C (place_in f lane i)) 0

  module _ (m : List ℕ) (fit : Fitting f.bits m) (n : length m ≡ rows_of f * columns_of f) where
    entry_fits : (lane : ℕ) → lane < lanes → (i : ℕ) → i < elements_of f → entries m lane i < 2 ^ f.bits
    entry_fits lane hl i hi = fit (index C (place_in f lane i)) (omega (arith, place_in_lem f ok lane i hl hi))

    -- each word is a field of that number
    pub word_number : (lane k : ℕ) → lane < lanes → k < f.words → word_at f m lane k ≡ field 32 k (joined f.bits (elements_of f) (entries m lane))
    unfolding word_at
    word_number lane k hl hk = elements.word_number (elements_of f) (entries m lane) f.bits k ok.width.pos (covers k hk) (entry_fits lane hl)

    packed_number : (lane : ℕ) → lane < lanes → lane_number f.words (packed f m) lane ≡ joined f.bits (elements_of f) (entries m lane)
    unfolding lane_number
    packed_number lane hl =
        joined_ext 32 f.words (λ k. get_or (packed f m) (lane * f.words + k) 0) (λ k. field 32 k (joined f.bits (elements_of f) (entries m lane)))
        (λ k hk. packed_word m lane k hl hk ∙ word_number lane k hl hk)
        ∙ joined_field 32 f.words (joined f.bits (elements_of f) (entries m lane))
        ∙ mod-eq_of_lt (subst (λ (e : ℕ). joined f.bits (elements_of f) (entries m lane) < 2 ^ e) ok.full (joined_lt f.bits (elements_of f) (entries m lane) (entry_fits lane hl)))

    packed_fits : (lane : ℕ) → lane < lanes → (k : ℕ) → k < f.words → get_or (packed f m) (lane * f.words + k) 0 < 2 ^ 32
    packed_fits lane hl k hk = subst (λ (w : ℕ). w < 2 ^ 32) (sym (packed_word m lane k hl hk ∙ word_number lane k hl hk)) (field_lt 32 k _)

    -- each element of what packing gives is the entry at its place
    pub packed_at : (lane i : ℕ) → lane < lanes → i < elements_of f → element_at f.bits f.words (packed f m) lane i ≡ get_or m (index C (place_in f lane i)) 0
    packed_at lane i hl hi =
        element_number f.words (packed f m) lane (packed_fits lane hl) f.bits i ok.width (within i hi)
        ∙ ap (field f.bits i) (packed_number lane hl)
        ∙ field_joined f.bits (elements_of f) (entries m lane) (entry_fits lane hl) i hi

    pub pack_unpack : unpacked f (packed f m) ≡ m
    pack_unpack = sym (unpacked_only (packed f m) m n (λ lane i hl hi. sym (packed_at lane i hl hi)))

  module _ (ws : List ℕ) (fit : Fitting 32 ws) (n : length ws ≡ lanes * f.words) where
    word_fits : (lane : ℕ) → lane < lanes → (k : ℕ) → k < f.words → get_or ws (lane * f.words + k) 0 < 2 ^ 32
    word_fits lane hl k hk = fit (lane * f.words + k) (omega (arith, word_in lane k hl hk))

    unpacked_number : (lane : ℕ) → lane < lanes → joined f.bits (elements_of f) (entries (unpacked f ws) lane) ≡ lane_number f.words ws lane
    unfolding lane_number
    unpacked_number lane hl =
        joined_ext f.bits (elements_of f) (entries (unpacked f ws) lane) (λ i. field f.bits i (lane_number f.words ws lane))
        (λ i hi. unpacked_at ws lane i hl hi ∙ element_number f.words ws lane (word_fits lane hl) f.bits i ok.width (within i hi))
        ∙ joined_field f.bits (elements_of f) (lane_number f.words ws lane)
        ∙ mod-eq_of_lt (subst (λ (e : ℕ). lane_number f.words ws lane < 2 ^ e) (sym ok.full) (joined_lt 32 f.words (λ k. get_or ws (lane * f.words + k) 0) (word_fits lane hl)))

    unpacked_word : (lane k : ℕ) → lane < lanes → k < f.words → word_at f (unpacked f ws) lane k ≡ get_or ws (lane * f.words + k) 0
    unfolding lane_number
    unpacked_word lane k hl hk =
        word_number (unpacked f ws) (unpacked_fits ws) (unpacked_length f ws) lane k hl hk
        ∙ ap (field 32 k) (unpacked_number lane hl)
        ∙ field_joined 32 f.words (λ k. get_or ws (lane * f.words + k) 0) (word_fits lane hl) k hk

    pub unpack_pack : packed f (unpacked f ws) ≡ ws
    unfolding packed
    unpack_pack =
        sym (is_tab (lanes * f.words) (blocks f.words (word_at f (unpacked f ws))) ws 0 n
        (λ z l. sym (unpacked_word (z / f.words) (z % f.words) ((div-lt_iff_lt-mul ok.words_pos).1 l) (mod-lt z ok.words_pos) ∙ ap (λ (k : ℕ). get_or ws k 0) (div-add-mod' z f.words))))

  -- no other words have those elements
  pub packed_only : (m ws : List ℕ) → length m ≡ rows_of f * columns_of f → Fitting 32 ws → length ws ≡ lanes * f.words
      → ((lane i : ℕ) → lane < lanes → i < elements_of f → element_at f.bits f.words ws lane i ≡ get_or m (index C (place_in f lane i)) 0) → ws ≡ packed f m
  packed_only m ws nm fw nw at = sym (unpack_pack ws fw nw) ∙ ap (packed f) (sym (unpacked_only ws m nm (λ lane i hl hi. sym (at lane i hl hi))))
