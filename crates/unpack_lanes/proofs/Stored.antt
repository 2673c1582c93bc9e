-- What a lane's stretch stores is what the unpacked matrix holds at its places. Assumes nothing.
use mathlib.Core.Path.{◌≡◌, sym, ap, subst, ◌∙◌}
use mathlib.Core.List.{List}
use Prim.Native.Nat.{ℕ, ◌+◌, ◌*◌, ◌<◌, ◌≤◌}
use native.Mathlib.Nat.{mul-one}
use native.Mathlib.Omega.{arith}
use lib.Arith.{digits_lt}
use lib.ListN.{length, get_or, set}
use Rattle.laws.specs.Fields.{field}
use Rattle.laws.specs.Toward.{Brings, Below, At, stores}
use Rattle.laws.proofs.Toward.{brings_on, brings_set, brings_stores}
use Rattle.kinds.specs.Kinds.{lanes}
use Rattle.kinds.specs.Laid.{Laid}
use Rattle.kinds.specs.Places.{word_within}
use Rattle.kinds.specs.Rule.{Layout, rows_of, elements_of, columns_of}
use Rattle.buffers.specs.Buffers.{words_from, element_at, unpacked, Fitting}
use Rattle.buffers.specs.Stretches.{size_of, stretches_of, place_at, OfLane, step_of}
use Rattle.buffers.proofs.Elements.{element_field, element_from}
use Rattle.buffers.proofs.Places.{place_in_lem, stretch_fills}
use Rattle.buffers.proofs.Round.{unpacked_at, within}
use Rattle.buffers.proofs.Stretches.{narrow_size, wide_size, one_word, wide_element, stretch_element, narrow_at, starts}

module _ (f : Layout) (laid : Laid f) (ws m : List ℕ) (entries : length m ≡ rows_of f * columns_of f) (r lane base : ℕ) (hr : r < stretches_of f) (hl : lane < lanes) (e : base ≡ place_at f lane (r * size_of f))
    (k : ℕ) (ek : k ≡ word_within f.bits (r * size_of f)) where
  abbrev u : List ℕ
  u = unpacked f ws

  abbrev step : ℕ
  step = step_of f.turned (columns_of f)

  module _ (h : f.bits < 32) where
    there : (j : ℕ) → j < f.side → base + j * step ≡ place_at f lane (r * f.side + j)
    there = narrow_at f laid lane r base (e ∙ ap (λ (n : ℕ). place_at f lane (r * n)) (narrow_size f h))

    one : (j : ℕ) → j < f.side → r * f.side + j < elements_of f
    one j = stretch_element f laid f.side r j (narrow_size f h) hr

    pub field_in : (j : ℕ) → j < f.side → base + j * step < length m
    field_in j hj = subst (λ (x : ℕ). x < length m) (sym (there j hj)) (omega (arith, place_in_lem f laid lane (r * f.side + j) hl (one j hj), entries))

    first_word : k ≡ r
    first_word = ek ∙ starts f laid r ∙ ap (λ (n : ℕ). r * n) (one_word f (λ e. omega arith)) ∙ mul-one r

    pub fields_stored : (w : ℕ) → w ≡ get_or ws (lane * f.words + k) 0
        → Brings u (OfLane f f.side r lane) m (stores base step f.side (λ j. field f.bits j w) m)
    fields_stored w ew =
        brings_on u (Below f.side (λ j. At (base + j * step))) (OfLane f f.side r lane) m (stores base step f.side (λ j. field f.bits j w) m)
        (λ x p. (p.0, p.1, p.2 ∙ sym (there p.0 p.1)))
        (brings_stores u base step f.side (λ j. field f.bits j w) m (λ j hj. (field_in j hj, value j hj)))
      where
        value : (j : ℕ) → j < f.side → field f.bits j w ≡ get_or u (base + j * step) 0
        value j hj =
            ap (field f.bits j) (ew ∙ ap (λ (k : ℕ). get_or ws (lane * f.words + k) 0) first_word)
            ∙ sym (element_field f.words ws lane f.bits f.side r j (stretch_fills f laid h) hj)
            ∙ sym (unpacked_at f laid ws lane (r * f.side + j) hl (one j hj))
            ∙ ap (λ (x : ℕ). get_or u x 0) (sym (there j hj))

  module _ (whole : length ws ≡ lanes * f.words) (fitting : Fitting 32 ws) (h : 32 ≤ f.bits) where
    base_is : base ≡ place_at f lane r
    base_is = e ∙ ap (λ (n : ℕ). place_at f lane (r * n)) (wide_size f h) ∙ ap (place_at f lane) (mul-one r)

    element_lt : r < elements_of f
    element_lt = wide_element f laid r h hr

    pub whole_in : base < length m
    whole_in = subst (λ (x : ℕ). x < length m) (sym base_is) (omega (arith, place_in_lem f laid lane r hl element_lt, entries))

    held : words_from f.bits ws (lane * f.words + k) ≡ element_at f.bits f.words ws lane r
    held =
        ap (λ (k : ℕ). words_from f.bits ws (lane * f.words + k)) (ek ∙ ap (λ (n : ℕ). word_within f.bits (r * n)) (wide_size f h) ∙ ap (word_within f.bits) (mul-one r))
        ∙ sym (element_from f.words ws lane (λ k hk. fitting (lane * f.words + k) (subst (λ (n : ℕ). lane * f.words + k < n) (sym whole) (digits_lt {q = lane} {m = 32} hl hk))) f.bits r laid.width h (within f laid r element_lt))

    pub whole_stored : (v : ℕ) → v ≡ words_from f.bits ws (lane * f.words + k) → Brings u (OfLane f 1 r lane) m (set m base v)
    whole_stored v ev =
        brings_on u (At base) (OfLane f 1 r lane) m (set m base v)
        (λ x p. let z : r * 1 + p.0 ≡ r = omega arith in p.2 ∙ ap (place_at f lane) z ∙ sym base_is)
        (brings_set u m base v whole_in (ev ∙ held ∙ sym (unpacked_at f laid ws lane r hl element_lt) ∙ ap (λ (x : ℕ). get_or u x 0) (sym base_is)))
