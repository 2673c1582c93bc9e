-- An element by the words that hold it, and a word by the elements in it: of a width that divides 32, a field of one word; of 64 bits,
-- two words, the low half first. Both are readings of one number, a lane's words one after the other. Assumes nothing.
use mathlib.Core.Path.{◌≡◌, refl, sym, ap, ap₂, ◌∙◌, subst}
use mathlib.Core.Bool.{Bool, true, false}
use mathlib.Core.Logic.{⊎_elim}
use mathlib.Core.List.{List}
use Prim.Native.Nat.{ℕ, ◌+◌, ◌*◌, ◌/◌, ◌%◌, ◌^◌, ◌≤◌, ◌<◌}
use native.Mathlib.Nat.{one-mul, mul_assoc, mul_comm, mod-eq_of_lt, mod-lt, div-add-mod', div-lt_iff_lt-mul, le-mul_of_pos_right, le_of_mul-le-mul_left}
use native.Mathlib.Omega.{arith}
use borrow.Author.Tests.{ne_eqb}
use lib.ListN.{get_or}
use lib.Pow.{pow_pos, pow-lt}
use Rattle.laws.specs.Fields.{bits_from, field, joined}
use Rattle.laws.proofs.Fields.{field_joined, field_field, field_wide, joined_ext, joined_two}
use Rattle.laws.proofs.Toward.{same_or_not}
use Rattle.kinds.specs.Places.{word_within, lowest_bit, whose_bit}
use Rattle.kinds.specs.Rule.{turn}
use Rattle.kinds.specs.Laid.{Width}
use Rattle.kinds.proofs.Spots.{per_pos, word_of, bit_of}
use Rattle.buffers.specs.Buffers.{words_from, held_at, element_at}

-- 1, shifted up, is a power of two
pub one_shl : (b : ℕ) → b < 64 → 1 * 2 ^ b % 2 ^ 64 ≡ 2 ^ b
one_shl b l = rw one-mul (mod-eq_of_lt (pow-lt l))

-- a width other than 64
module _ (b : ℕ) (w : Width b) (ne : b ≡ 64 → ⊥) where
  pub pos : 0 < 32 / b
  pos = per_pos b (32 / b) (w.narrow ne)

  pub bits_le : b ≤ 32
  bits_le = omega (arith, le-mul_of_pos_right b pos, w.narrow ne)

  -- an element that lies within n words lies within one of them
  pub word_in : (i n : ℕ) → b * (i + 1) ≤ 32 * n → i / (32 / b) < n
  word_in i n h =
      let e : 32 * n ≡ b * (32 / b * n) = ap (λ (z : ℕ). z * n) (sym (w.narrow ne)) ∙ mul_assoc b (32 / b) n in
      let l : i + 1 ≤ 32 / b * n = le_of_mul-le-mul_left (subst (λ (z : ℕ). b * (i + 1) ≤ z) e h) w.pos in
      (div-lt_iff_lt-mul pos).1 (omega (arith, mul_comm n (32 / b)))

pub two_in : (b i n : ℕ) → b ≡ 64 → b * (i + 1) ≤ 32 * n → 2 * i + 1 < n
two_in b i n e h = let l : 64 * (i + 1) ≤ 32 * n = subst (λ (z : ℕ). z * (i + 1) ≤ 32 * n) e h in omega arith

-- field j of word k
pub element_field : (words : ℕ) (ws : List ℕ) (lane bits per k j : ℕ) → bits * per ≡ 32 → j < per → element_at bits words ws lane (k * per + j) ≡ field bits j (get_or ws (lane * words + k) 0)
unfolding element_at held_at bits_from field
element_field words ws lane bits per k j e l = rw (word_of bits per e k j l, bit_of bits per e k j l, ne_eqb bits 64 not_two) refl
  where
    not_two : bits ≡ 64 → ⊥
    not_two f = omega (arith, le-mul_of_pos_right bits (per_pos bits per e), e)

pub element_narrow : (words : ℕ) (ws : List ℕ) (lane bits per i : ℕ) → bits * per ≡ 32 → 0 < per → element_at bits words ws lane i ≡ field bits (i % per) (get_or ws (lane * words + i / per) 0)
element_narrow words ws lane bits per i e some =
    ap (element_at bits words ws lane) (sym (div-add-mod' i per)) ∙ element_field words ws lane bits per (i / per) (i % per) e (mod-lt i some)

-- an element fits its bits
pub element_lt : (bits words : ℕ) (ws : List ℕ) (lane i : ℕ) → element_at bits words ws lane i < 2 ^ bits
unfolding element_at held_at bits_from
element_lt bits words ws lane i = mod-lt _ (pow_pos bits)

-- a lane's words make one number, the first word lowest
unfoldable pub lane_number : (words : ℕ) → List ℕ → (lane : ℕ) → ℕ
lane_number words ws lane = joined 32 words (λ k. get_or ws (lane * words + k) 0)

-- words of 32 bits
module _ (words : ℕ) (ws : List ℕ) (lane : ℕ) (fit : (k : ℕ) → k < words → get_or ws (lane * words + k) 0 < 2 ^ 32) where
  pub element_whole : (i : ℕ) → i < words → element_at 32 words ws lane i ≡ get_or ws (lane * words + i) 0
  unfolding element_at held_at bits_from word_within lowest_bit
  element_whole i h =
      let w : i * 32 / 32 ≡ i = omega arith in
      let b : i * 32 % 32 ≡ 0 = omega arith in
      rw (w, b) (omega (arith, fit i h))

  pub element_two : (i : ℕ) → 2 * i + 1 < words → element_at 64 words ws lane i ≡ get_or ws (lane * words + 2 * i + 1) 0 * 2 ^ 32 + get_or ws (lane * words + 2 * i) 0
  unfolding element_at held_at bits_from word_within lowest_bit
  element_two i h =
      let w : i * 64 / 32 ≡ 2 * i = omega arith in
      let b : i * 64 % 32 ≡ 0 = omega arith in
      let n : lane * words + (2 * i + 1) ≡ lane * words + 2 * i + 1 = omega arith in
      rw (w, b) (omega (arith, subst (λ (x : ℕ). get_or ws x 0 < 2 ^ 32) n (fit (2 * i + 1) h), fit (2 * i) (omega arith)))

  -- a wide element is the word, or the two, that it starts in
  pub element_from : (bits i : ℕ) → Width bits → 32 ≤ bits → bits * (i + 1) ≤ 32 * words → element_at bits words ws lane i ≡ words_from bits ws (lane * words + word_within bits i)
  unfolding word_within
  element_from bits i w wide h = ⊎_elim two one (same_or_not bits 64)
    where
      two : bits ≡ 64 → element_at bits words ws lane i ≡ words_from bits ws (lane * words + word_within bits i)
      two e =
          let n : i * 64 / 32 ≡ 2 * i = omega arith in
          let l = two_in bits i words e h in
          rw e (rw n (element_two i l))

      one : (bits ≡ 64 → ⊥) → element_at bits words ws lane i ≡ words_from bits ws (lane * words + word_within bits i)
      one ne =
          let e : bits ≡ 32 = omega (arith, bits_le bits w ne) in
          let n : i * 32 / 32 ≡ i = omega arith in
          let l : 32 * (i + 1) ≤ 32 * words = subst (λ (z : ℕ). z * (i + 1) ≤ 32 * words) e h in
          rw e (rw n (element_whole i (omega arith)))

  word_field : (k : ℕ) → k < words → field 32 k (lane_number words ws lane) ≡ get_or ws (lane * words + k) 0
  unfolding lane_number
  word_field k h = field_joined 32 words (λ k. get_or ws (lane * words + k) 0) fit k h

  -- The elements of a lane are the fields of that number.
  pub element_number : (bits i : ℕ) → Width bits → bits * (i + 1) ≤ 32 * words → element_at bits words ws lane i ≡ field bits i (lane_number words ws lane)
  element_number bits i w h = ⊎_elim two narrow (same_or_not bits 64)
    where
      N : ℕ
      N = lane_number words ws lane

      two : bits ≡ 64 → element_at bits words ws lane i ≡ field bits i N
      two e =
          let l = two_in bits i words e h in
          ap (λ (b : ℕ). element_at b words ws lane i) e
          ∙ element_two i l
          ∙ sym (ap (λ (b : ℕ). field b i N) e
          ∙ field_wide 32 2 i N
          ∙ joined_two 32 (λ j. field 32 (i * 2 + j) N)
          ∙ ap₂ (λ x y. x * 2 ^ 32 + y)
          (ap (λ (j : ℕ). field 32 j N) (omega arith) ∙ word_field (2 * i + 1) l ∙ ap (λ (j : ℕ). get_or ws j 0) (omega arith))
          (ap (λ (j : ℕ). field 32 j N) (omega arith) ∙ word_field (2 * i) (omega arith)))

      narrow : (bits ≡ 64 → ⊥) → element_at bits words ws lane i ≡ field bits i N
      narrow ne =
          let per = 32 / bits in
          let e = w.narrow ne in
          let some = pos bits w ne in
          element_narrow words ws lane bits per i e some
          ∙ sym (ap (λ (j : ℕ). field bits j N) (sym (div-add-mod' i per))
          ∙ sym (field_field bits per (i / per) (i % per) N (mod-lt i some))
          ∙ ap (field bits (i % per)) (ap (λ (b : ℕ). field b (i / per) N) e ∙ word_field (i / per) (word_in bits w ne i words h)))

module _ (elements : ℕ) (f : ℕ → ℕ) where
  -- A word put together bit by bit is a field of the number of all elements.
  pub word_number : (bits k : ℕ) → 0 < bits → 32 * (k + 1) ≤ bits * elements → ((i : ℕ) → i < elements → f i < 2 ^ bits)
      → joined 1 32 (λ b. bits_from 1 (whose_bit bits k b).1 (f (whose_bit bits k b).0)) ≡ field 32 k (joined bits elements f)
  unfolding bits_from field
  word_number bits k some h fit =
      sym (field_wide 1 32 k N ∙ joined_ext 1 32 (λ b. field 1 (k * 32 + b) N) (λ b. bits_from 1 ((k * 32 + b) % bits) (f ((k * 32 + b) / bits))) one)
    where
      N : ℕ
      N = joined bits elements f

      one : (b : ℕ) → b < 32 → field 1 (k * 32 + b) N ≡ bits_from 1 ((k * 32 + b) % bits) (f ((k * 32 + b) / bits))
      one b l =
          let n = k * 32 + b in
          let there : n / bits < elements = (div-lt_iff_lt-mul some).1 (omega (arith, mul_comm bits elements)) in
          ap (λ (n : ℕ). field 1 n N) (sym (div-add-mod' n bits))
          ∙ sym (field_field 1 bits (n / bits) (n % bits) N (mod-lt n some))
          ∙ ap (field 1 (n % bits)) (ap (λ (b : ℕ). field b (n / bits) N) (one-mul bits) ∙ field_joined bits elements f fit (n / bits) there)
          ∙ ap (λ (e : ℕ). f (n / bits) / 2 ^ e % 2 ^ 1) (one-mul (n % bits))

  pub word_narrow : (bits per k : ℕ) → bits * per ≡ 32 → k * per + per ≤ elements → ((i : ℕ) → i < elements → f i < 2 ^ bits)
      → field 32 k (joined bits elements f) ≡ joined bits per (λ j. f (k * per + j))
  word_narrow bits per k e h fit =
      ap (λ (b : ℕ). field b k (joined bits elements f)) (sym e)
      ∙ field_wide bits per k (joined bits elements f)
      ∙ joined_ext bits per (λ j. field bits (k * per + j) (joined bits elements f)) (λ j. f (k * per + j)) (λ j l. field_joined bits elements f fit (k * per + j) (omega arith))

  pub word_half : (k : ℕ) → k / 2 < elements → ((i : ℕ) → i < elements → f i < 2 ^ 64) → field 32 k (joined 64 elements f) ≡ field 32 (k % 2) (f (k / 2))
  word_half k h fit =
      ap (λ (j : ℕ). field 32 j (joined 64 elements f)) (sym (div-add-mod' k 2))
      ∙ sym (field_field 32 2 (k / 2) (k % 2) (joined 64 elements f) (omega arith))
      ∙ ap (field 32 (k % 2)) (field_joined 64 elements f fit (k / 2) h)

-- a row and a column inside are a major and a minor number inside
pub turned_in : (t : Bool) (m n x y : ℕ) → x < (turn t (m, n)).0 → y < (turn t (m, n)).1 → ((turn t (x, y)).0 < m) × ((turn t (x, y)).1 < n)
turned_in false m n x y a b = (a, b)
turned_in true m n x y a b = (b, a)
