-- The places of a quad's stretches are steps from the first of them; every place, and every word, is in one stretch of one quad.
-- Assumes nothing.
use mathlib.Core.Path.{◌≡◌, sym, ap, ap₂, ◌∙◌, subst}
use mathlib.Core.Bool.{Bool, true, false, not}
use mathlib.Core.Logic.{◌⊎◌, inl, inr, ⊎_elim}
use Prim.Native.Nat.{ℕ, ◌+◌, ◌*◌, ◌/◌, ◌%◌, ◌<◌, ◌≤◌}
use native.Mathlib.Nat.{add-zero, mul-one, div-one, mod-one, mod-lt, div-add-mod', div-lt_iff_lt-mul, mul-div_cancel, mul-mod_left, mul-le-mul}
use native.Mathlib.Omega.{arith}
use borrow.Author.Tests.{lt-ltb, le-ltb, eq-eqb, ne_eqb}
use lib.Arith.{digits_lt}
use lib.Dec.{T, ltb, ltb→lt, nltb→le}
use Rattle.laws.proofs.Lists.{block_le}
use Rattle.laws.specs.Toward.{Below}
use Rattle.laws.proofs.Toward.{same_or_not}
use Rattle.kinds.specs.Kinds.{lanes}
use Rattle.kinds.specs.Places.{word_within}
use Rattle.kinds.specs.Rule.{Layout, elements_of, rows_of, columns_of, major, minor, holder_of}
use Rattle.kinds.specs.Laid.{Laid}
use Rattle.kinds.proofs.Spots.{word_of}
use Rattle.buffers.specs.Buffers.{index}
use Rattle.buffers.specs.Stretches.{size_of, abreast_in, stretches_of, holding_of, place_at, OfQuad, WordsOfQuad, step_of}
use Rattle.buffers.proofs.Places.{side_index, columns_pos, halves_per, wide_is, stretch_fills, stretch_words}
use Rattle.buffers.proofs.Round.{place_back, lane_in, element_in_lem}

module _ (f : Layout) where
  pub narrow_size : f.bits < 32 → size_of f ≡ f.side
  narrow_size h = simp (lt-ltb f.bits 32 h)

  pub narrow_abreast : f.bits < 32 → abreast_in f ≡ 1
  narrow_abreast h = simp (lt-ltb f.bits 32 h)

  pub wide_size : 32 ≤ f.bits → size_of f ≡ 1
  wide_size h = simp (le-ltb f.bits 32 h)

  pub wide_abreast : 32 ≤ f.bits → abreast_in f ≡ f.side
  wide_abreast h = simp (le-ltb f.bits 32 h)

  pub two_words : f.bits ≡ 64 → holding_of f ≡ 2
  two_words e = simp (eq-eqb f.bits 64 e)

  pub one_word : (f.bits ≡ 64 → ⊥) → holding_of f ≡ 1
  one_word ne = simp (ne_eqb f.bits 64 ne)

pub narrow_or_wide : (f : Layout) → (f.bits < 32) ⊎ (32 ≤ f.bits)
narrow_or_wide f = go (ltb f.bits 32) (ltb→lt f.bits 32) (nltb→le f.bits 32)
  where
    go : (t : Bool) → (T t → f.bits < 32) → (T (not t) → 32 ≤ f.bits) → (f.bits < 32) ⊎ (32 ≤ f.bits)
    go true a b = inl (a tt)
    go false a b = inr (b tt)

module _ (f : Layout) (ok : Laid f) where
  -- where a stretch starts among the elements side by side
  start_div : (r : ℕ) → r * size_of f / f.side ≡ r / abreast_in f
  start_div r =
      ⊎_elim (λ h. rw (narrow_size f h, narrow_abreast f h) (mul-div_cancel r ok.side_pos ∙ sym (div-one r)))
      (λ h. rw (wide_size f h, wide_abreast f h) (ap (λ (n : ℕ). n / f.side) (mul-one r)))
      (narrow_or_wide f)

  start_mod : (r : ℕ) → r * size_of f % f.side ≡ r % abreast_in f
  start_mod r =
      ⊎_elim (λ h. rw (narrow_size f h, narrow_abreast f h) (mul-mod_left r f.side ∙ sym (mod-one r)))
      (λ h. rw (wide_size f h, wide_abreast f h) (ap (λ (n : ℕ). n % f.side) (mul-one r)))
      (narrow_or_wide f)

  -- the place of its first element
  pub first_major : (l r : ℕ) → major f.side f.halves l (r * size_of f) ≡ r / abreast_in f % f.halves * 8 + l / 4
  unfolding major
  first_major l r = ap (λ (m : ℕ). m % f.halves * 8 + l / 4) (start_div r)

  pub first_minor : (l r : ℕ) → minor f.side f.halves l (r * size_of f) ≡ (r / abreast_in f / f.halves * 4 + l % 4) * f.side + r % abreast_in f
  unfolding minor
  first_minor l r = ap₂ (λ (m n : ℕ). (m / f.halves * 4 + l % 4) * f.side + n) (start_div r) (start_mod r)

  pub abreast_few : (0 < abreast_in f) × (abreast_in f ≤ 2)
  abreast_few =
      ⊎_elim (λ h. rw (narrow_abreast f h) (omega arith, omega arith)) (λ h. rw (wide_abreast f h) (ok.side_pos, ok.wide_side h)) (narrow_or_wide f)

  pub size_pos : 0 < size_of f
  size_pos = ⊎_elim (λ h. rw (narrow_size f h) ok.side_pos) (λ h. rw (wide_size f h) (omega arith)) (narrow_or_wide f)

  pub stretches_few : stretches_of f ≤ 8
  stretches_few = mul-le-mul {n₁ = f.spans * f.halves} {m₁ = abreast_in f} {n₂ = 4} {m₂ = 2} ok.groups_le abreast_few.1

  -- the stretches have all of a lane's elements, and all of its words
  pub stretches_elements : stretches_of f * size_of f ≡ elements_of f
  stretches_elements =
      ⊎_elim (λ h. rw (narrow_size f h, narrow_abreast f h) (ap (λ (n : ℕ). n * f.side) (mul-one (f.spans * f.halves))))
      (λ h. rw (wide_size f h, wide_abreast f h) (mul-one (f.spans * f.halves * f.side)))
      (narrow_or_wide f)

  pub stretches_words : stretches_of f * holding_of f ≡ f.words
  stretches_words =
      ⊎_elim (λ h. rw (one_word f (λ e. omega arith), narrow_abreast f h) (omega (arith, stretch_words f ok h)))
      (λ h. ⊎_elim (λ e. rw (two_words f e, wide_abreast f h) (omega (arith, halves_per f ok e)))
      (λ ne. rw (one_word f ne, wide_abreast f h) (omega (arith, (wide_is f ok h ne).1)))
      (same_or_not f.bits 64))
      (narrow_or_wide f)

  lane_split : (lane : ℕ) → lane / 4 * 4 + lane % 4 ≡ lane
  lane_split lane = omega arith

  -- every place is in one
  pub place_covered : (x : ℕ) → x < rows_of f * columns_of f → Below (stretches_of f) (λ r. Below 8 (OfQuad f (size_of f) r)) x
  place_covered x h =
      let C = columns_of f in
      let hr = (div-lt_iff_lt-mul (columns_pos f ok)).1 h in
      let hc = mod-lt x (columns_pos f ok) in
      let z = holder_of f (x / C, x % C) in
      let lane = z.0 in
      let i = z.1 in
      let n = size_of f in
      let hl : lane < lanes = lane_in f ok (x / C) (x % C) hr hc in
      let hi : i < stretches_of f * n = subst (λ (m : ℕ). i < m) (sym stretches_elements) (element_in_lem f ok (x / C) (x % C) hr hc) in
      let e : x ≡ place_at f lane i = sym (ap (index C) (place_back f ok (x / C) (x % C) hr hc) ∙ div-add-mod' x C) in (
        i / n,
        (div-lt_iff_lt-mul size_pos).1 hi,
        (lane / 4, omega arith, (lane % 4, omega arith, (i % n, mod-lt i size_pos, e ∙ ap₂ (place_at f) (sym (lane_split lane)) (sym (div-add-mod' i n))))),
      )

  pub holding_pos : 0 < holding_of f
  holding_pos = ⊎_elim (λ e. rw (two_words f e) (omega arith)) (λ ne. rw (one_word f ne) (omega arith)) (same_or_not f.bits 64)

  -- every word is in one
  pub word_covered : (x : ℕ) → x < lanes * f.words → Below (stretches_of f) (λ r. Below 8 (WordsOfQuad f (holding_of f) r)) x
  word_covered x h =
      let w = f.words in
      let lane = x / w in
      let k = x % w in
      let n = holding_of f in
      let hl : lane < lanes = (div-lt_iff_lt-mul ok.words_pos).1 h in
      let hk : k < stretches_of f * n = subst (λ (m : ℕ). k < m) (sym stretches_words) (mod-lt x ok.words_pos) in (
        k / n,
        (div-lt_iff_lt-mul holding_pos).1 hk,
        (lane / 4, omega arith, (lane % 4, omega arith, (k % n, mod-lt k holding_pos, sym (ap₂ (λ (l j : ℕ). l * w + j) (lane_split lane) (div-add-mod' k n) ∙ div-add-mod' x w)))),
      )

  -- element j of a stretch is one of the lane's, and word k of those that hold it
  pub stretch_element : (n r j : ℕ) → size_of f ≡ n → r < stretches_of f → j < n → r * n + j < elements_of f
  stretch_element n r j e hr hj = subst (λ (m : ℕ). r * n + j < m) (ap (λ (n : ℕ). stretches_of f * n) (sym e) ∙ stretches_elements) (digits_lt hr hj)

  pub wide_element : (r : ℕ) → 32 ≤ f.bits → r < stretches_of f → r < elements_of f
  wide_element r h hr = subst (λ (i : ℕ). i < elements_of f) (add-zero (r * 1) ∙ mul-one r) (stretch_element 1 r 0 (wide_size f h) hr (omega arith))

  pub stretch_word : (n r k : ℕ) → holding_of f ≡ n → r < stretches_of f → k < n → r * n + k < f.words
  stretch_word n r k e hr hk = subst (λ (m : ℕ). r * n + k < m) (ap (λ (n : ℕ). stretches_of f * n) (sym e) ∙ stretches_words) (digits_lt hr hk)

  pub narrow_word : (r : ℕ) → f.bits < 32 → r < stretches_of f → r < f.words
  narrow_word r h hr = omega (arith, stretch_words f ok h, ap (λ (n : ℕ). f.spans * f.halves * n) (narrow_abreast f h))

  -- it starts in the first word of those that hold it
  pub starts : (r : ℕ) → word_within f.bits (r * size_of f) ≡ r * holding_of f
  unfolding word_within
  starts r =
      ⊎_elim
      (λ h. rw (narrow_size f h, one_word f (λ e. omega arith))
      (ap (word_within f.bits) (sym (add-zero (r * f.side))) ∙ word_of f.bits f.side (stretch_fills f ok h) r 0 ok.side_pos ∙ sym (mul-one r)))
      (λ h. rw (wide_size f h) (wide h))
      (narrow_or_wide f)
    where
      wide : 32 ≤ f.bits → word_within f.bits (r * 1) ≡ r * holding_of f
      wide h =
          ⊎_elim (λ e. rw (two_words f e, e) (omega arith)) (λ ne. rw (one_word f ne, (wide_is f ok h ne).0) (omega arith)) (same_or_not f.bits 64)

  pub start_within : (r : ℕ) → r < stretches_of f → word_within f.bits (r * size_of f) + holding_of f ≤ f.words
  start_within r hr = rw (starts r) (subst (λ (n : ℕ). r * holding_of f + holding_of f ≤ n) stretches_words (block_le r (stretches_of f) (holding_of f) hr))

  -- its places are steps from the first
  pub narrow_at : (lane r base : ℕ) → base ≡ place_at f lane (r * f.side) → (j : ℕ) → j < f.side → base + j * step_of f.turned (columns_of f) ≡ place_at f lane (r * f.side + j)
  narrow_at lane r base e j hj = sym (side_index f ok lane r j hj ∙ ap (λ (n : ℕ). n + j * step_of f.turned (columns_of f)) (sym e))

  -- the words that hold it lie within the buffer
  pub lane_small : (lane : ℕ) → lane < lanes → lane * f.words ≤ 248
  lane_small lane hl = mul-le-mul {n₁ = lane} {m₁ = f.words} {n₂ = 31} {m₂ = 8} (omega arith) ok.words_le

  pub lane_word : (n lane r k : ℕ) → holding_of f ≡ n → lane < lanes → r < stretches_of f → k < n → (lane * f.words ≤ 248) × (lane * f.words + (r * n + k) < lanes * f.words)
  lane_word n lane r k e hl hr hk = (lane_small lane hl, digits_lt {q = lane} {m = 32} hl (stretch_word n r k e hr hk))
