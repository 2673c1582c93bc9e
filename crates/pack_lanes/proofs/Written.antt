-- The words that hold a lane's stretch are those of the packed buffer, and are stored where they stand. Assumes nothing.
use borrow.Rule.Slice.PartMut.{mid_of, post_of, put_mid, mid_len, put_same}
use mathlib.Core.Path.{◌≡◌, refl, sym, ap, ap₂, subst, ◌∙◌}
use mathlib.Core.List.{List}
use mathlib.Core.Logic.{⊎_elim}
use Prim.Native.Nat.{ℕ, ◌+◌, ◌*◌, ◌-◌, ◌/◌, ◌%◌, ◌^◌, ◌<◌, ◌≤◌}
use native.Mathlib.Nat.{mul-one}
use native.Mathlib.Omega.{arith}
use lib.Arith.{digits_lt}
use lib.ListN.{length, get_or}
use Rattle.laws.specs.Fields.{field, joined}
use Rattle.laws.specs.Toward.{Brings, Below, At, stores}
use Rattle.laws.proofs.Fields.{field_joined, joined_ext}
use Rattle.laws.proofs.Lists.{block_le}
use Rattle.laws.proofs.Toward.{brings_on, brings_stores, lent_stores, same_or_not}
use Rattle.kinds.specs.Kinds.{word_bits, lanes}
use Rattle.kinds.specs.Places.{word_within}
use Rattle.kinds.specs.Rule.{Layout, elements_of, rows_of, columns_of}
use Rattle.kinds.specs.Laid.{Laid}
use Rattle.buffers.specs.Buffers.{word_at, packed, Fitting}
use Rattle.buffers.specs.Stretches.{size_of, holding_of, stretches_of, place_at, WordsOfLane, step_of}
use Rattle.buffers.proofs.Elements.{word_narrow, word_half}
use Rattle.buffers.proofs.Places.{place_in_lem, stretch_fills, wide_is}
use Rattle.buffers.proofs.Round.{word_number, packed_word}
use Rattle.buffers.proofs.Stretches.{narrow_size, wide_size, one_word, two_words, starts, narrow_word, wide_element, stretches_elements, stretch_element, stretch_word, start_within, holding_pos, lane_small, narrow_at}

-- the fields of a number are the words of the packed buffer that hold a lane's stretch
abbrev pub Numbers : Layout → (m : List ℕ) → (stretch lane n : ℕ) → Type 0
Numbers f m r lane n = (j : ℕ) → j < holding_of f → field word_bits j n ≡ word_at f m lane (r * holding_of f + j)

-- a number below 2 ^ 32 is its one field
one_field : (j v : ℕ) → j ≡ 0 → v < 2 ^ 32 → field 32 j v ≡ v
unfolding field
one_field j v e small = rw e (omega (arith, small))

-- the words of a lane's stretch by the entries at its places
module _ (f : Layout) (ok : Laid f) (m : List ℕ) (fitting : Fitting f.bits m) (entries : length m ≡ rows_of f * columns_of f) (r lane base : ℕ) (hr : r < stretches_of f) (hl : lane < lanes)
    (e : base ≡ place_at f lane (r * size_of f)) where
  abbrev step : ℕ
  step = step_of f.turned (columns_of f)

  abbrev entry : ℕ → ℕ
  entry i = get_or m (place_at f lane i) 0

  entry_fits : (i : ℕ) → i < elements_of f → entry i < 2 ^ f.bits
  entry_fits i h = fitting _ (omega (arith, place_in_lem f ok lane i hl h))

  module _ (h : f.bits < 32) where
    there : (j : ℕ) → j < f.side → base + j * step ≡ place_at f lane (r * f.side + j)
    there = narrow_at f ok lane r base (e ∙ ap (λ (n : ℕ). place_at f lane (r * n)) (narrow_size f h))

    pub entry_in : (j : ℕ) → j < f.side → base + j * step < length m
    entry_in j hj =
        subst (λ (x : ℕ). x < length m) (sym (there j hj)) (omega (arith, place_in_lem f ok lane (r * f.side + j) hl (stretch_element f ok f.side r j (narrow_size f h) hr hj)))

    sides : stretches_of f * f.side ≡ elements_of f
    sides = ap (λ (n : ℕ). stretches_of f * n) (sym (narrow_size f h)) ∙ stretches_elements f ok

    fields_word : joined f.bits f.side (λ j. get_or m (base + j * step) 0) ≡ word_at f m lane r
    fields_word =
        sym (word_number f ok m fitting entries lane r hl (narrow_word f ok r h hr)
        ∙ word_narrow (elements_of f) entry f.bits f.side r (stretch_fills f ok h) (subst (λ (n : ℕ). r * f.side + f.side ≤ n) sides (block_le r (stretches_of f) f.side hr)) entry_fits
        ∙ joined_ext f.bits f.side (λ j. entry (r * f.side + j)) (λ j. get_or m (base + j * step) 0) (λ j hj. ap (λ (x : ℕ). get_or m x 0) (sym (there j hj))))

    -- the entries side by side fill one word
    pub narrow_number : (v : ℕ) → v ≡ joined f.bits f.side (λ j. get_or m (base + j * step) 0) → v < 2 ^ 32 → Numbers f m r lane v
    unfolding field
    narrow_number v ev small = rw (one_word f (λ b. omega (arith, b, h))) (λ j hj. one_field j v (omega arith) small ∙ ev ∙ fields_word ∙ ap (word_at f m lane) (omega arith))

  module _ (h : 32 ≤ f.bits) where
    base_is : base ≡ place_at f lane r
    base_is = e ∙ ap (λ (n : ℕ). place_at f lane (r * n)) (wide_size f h) ∙ ap (place_at f lane) (mul-one r)

    element_lt : r < elements_of f
    element_lt = wide_element f ok r h hr

    pub whole_in : base < length m
    whole_in = subst (λ (x : ℕ). x < length m) (sym base_is) (omega (arith, place_in_lem f ok lane r hl element_lt))

    entry_is : entry r ≡ get_or m base 0
    entry_is = ap (λ (x : ℕ). get_or m x 0) (sym base_is)

    whole_word : f.bits ≡ 32 → get_or m base 0 ≡ word_at f m lane r
    whole_word b =
        sym (word_number f ok m fitting entries lane r hl (subst (λ (n : ℕ). r < n) (wide_is f ok h (λ e. omega arith)).1 element_lt)
        ∙ ap (λ (b : ℕ). field 32 r (joined b (elements_of f) entry)) b
        ∙ field_joined 32 (elements_of f) entry (λ i l. subst (λ (b : ℕ). entry i < 2 ^ b) b (entry_fits i l)) r element_lt
        ∙ entry_is)

    half_word : f.bits ≡ 64 → (k : ℕ) → k < 2 → field 32 k (get_or m base 0) ≡ word_at f m lane (r * 2 + k)
    half_word b k l =
        let d : (r * 2 + k) / 2 ≡ r = omega arith in
        let z : (r * 2 + k) % 2 ≡ k = omega arith in
        sym (word_number f ok m fitting entries lane (r * 2 + k) hl (stretch_word f ok 2 r k (two_words f b) hr l)
        ∙ ap (λ (b : ℕ). field 32 (r * 2 + k) (joined b (elements_of f) entry)) b
        ∙ word_half (elements_of f) entry (r * 2 + k) (subst (λ (i : ℕ). i < elements_of f) (sym d) element_lt) (λ i l. subst (λ (b : ℕ). entry i < 2 ^ b) b (entry_fits i l))
        ∙ ap₂ (λ (j i : ℕ). field 32 j (entry i)) z d
        ∙ ap (field 32 k) entry_is)

    fits : get_or m base 0 < 2 ^ f.bits
    fits = fitting base whole_in

    -- an entry fills a word or two
    pub wide_number : Numbers f m r lane (get_or m base 0)
    wide_number =
        ⊎_elim
        (λ b. rw (two_words f b) (λ j hj. half_word b j hj))
        (λ ne.
        let b = (wide_is f ok h ne).0 in
        rw (one_word f ne) (λ j hj. one_field j (get_or m base 0) (omega arith) (subst (λ (b : ℕ). get_or m base 0 < 2 ^ b) b fits) ∙ whole_word b ∙ ap (word_at f m lane) (omega arith)))
        (same_or_not f.bits 64)

-- the fields of that number, stored where they belong: in the part of the buffer that is lent to the lane's writer, put back
module _ (f : Layout) (ok : Laid f) (m ws : List ℕ) (size : length ws ≡ lanes * f.words) (r lane k : ℕ) (hr : r < stretches_of f) (hl : lane < lanes) (ek : k ≡ word_within f.bits (r * size_of f)) where
  abbrev n : ℕ
  n = holding_of f

  abbrev begin : ℕ
  begin = lane * f.words

  abbrev at : ℕ
  at = begin + k

  behind : (j : ℕ) → begin + (r * n + j) ≡ at + j * 1
  behind j = omega (arith, ek ∙ starts f ok r)

  last_in : k + n ≤ f.words
  last_in = subst (λ (k : ℕ). k + n ≤ f.words) (sym ek) (start_within f ok r hr)

  pub lent_in : (begin ≤ 248) × (begin + f.words ≤ 256) × (begin + f.words ≤ length ws)
  lent_in = omega (arith, lane_small f ok lane hl, ok.words_le, block_le lane 32 f.words hl, size)

  lent_length : length (mid_of begin (begin + f.words - begin) ws) ≡ f.words
  lent_length = mid_len begin (begin + f.words) ws lent_in.2 ∙ omega arith

  pub word_in : (k < 256) × (k + n ≤ length (mid_of begin (begin + f.words - begin) ws))
  word_in = omega (arith, lent_length, last_in, ok.words_le, holding_pos f ok)

  module _ (v : ℕ) where
    abbrev word : ℕ → ℕ
    word j = field 32 j v

    put_back : put_mid begin (begin + f.words - begin) ws (stores k 1 n word (mid_of begin (begin + f.words - begin) ws)) ≡ stores at 1 n word ws
    put_back =
        lent_stores begin ws (mid_of begin (begin + f.words - begin) ws) (post_of begin (begin + f.words - begin) ws) k n word (omega (arith, lent_in)) (omega (arith, lent_length, last_in))
        ∙ ap (stores at 1 n word) (put_same begin (begin + f.words - begin) ws)

    pub lane_written : (ws' : List ℕ) → ws' ≡ put_mid begin (begin + f.words - begin) ws (stores k 1 n word (mid_of begin (begin + f.words - begin) ws)) → Numbers f m r lane v → Brings (packed f m) (WordsOfLane f n r lane) ws ws'
    lane_written ws' e number =
        subst (λ (xs : List ℕ). Brings (packed f m) (WordsOfLane f n r lane) ws xs) (sym (e ∙ put_back))
        (brings_on (packed f m) (Below n (λ j. At (at + j * 1))) (WordsOfLane f n r lane) ws (stores at 1 n word ws) (λ x p. (p.0, p.1, p.2 ∙ behind p.0))
        (brings_stores (packed f m) at 1 n word ws
        (λ j l.
        let w = stretch_word f ok n r j refl hr l in
        (omega (arith, behind j, size, digits_lt {q = lane} {m = 32} hl w), number j l ∙ sym (packed_word f ok m lane (r * n + j) hl w) ∙ ap (λ (x : ℕ). get_or (packed f m) x 0) (behind j)))))
