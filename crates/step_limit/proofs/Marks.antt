-- To set a mark is to change one bit of one word: so marks kept one after the other are those kept all at once. Assumes nothing.
use Rattle.std.proofs.Common.{◌≡◌, ℕ, zero, suc, ◌+◌, ◌*◌, ◌/◌, ◌%◌, ◌^◌, ◌<◌, ◌≤◌, Bool, true, false, ltb, List, [], ◌∷◌, length, get_or, set, sym, refl, ap, ◌∙◌, subst, ap₂, ⊎_elim, le_of_suc-le-suc, not-suc-le-zero, add-zero, add_assoc, add-suc, mod-lt, mod-eq_of_lt, suc-mul, div-add-mod', zero-add, add-one, arith, length-set, get_or-set_other, get_or-set_same, pow_mono, shl_lt, ltb-false, ltb-true, if◌then◌else◌}
use lib.Arith.{digits_lt, digits_div, digits_mod}
use lib.Bits.{bit_or, or_zero_r, or_zero_l, or_lt, or_self}
use Rattle.laws.specs.Choice.{◌=?◌}
use Rattle.laws.specs.Fields.{field, joined}
use Rattle.laws.proofs.Fields.{field_lt, field_or, field_joined, joined_field, joined_ext, bit_there, bit_elsewhere, no_bit, some_bit}
use Rattle.laws.proofs.Lists.{is_tab, get_or_tab}
use Rattle.laws.proofs.Toward.{same_or_not}
use Rattle.step_limit.specs.Marks.{mark_in, mark_words, kept_marks}
use Rattle.step_limit.specs.Workers.{with_mark, with_marks}

-- a mark set, or what it was
abbrev pub or_mark : (old new : ℕ) → ℕ
or_mark old new = if old =? 1 then 1 else new

or_bits : (x y : ℕ) → x < 2 → y ≤ 1 → bit_or x y ≡ or_mark x y
or_bits zero y hx hy = or_zero_l y
or_bits (suc zero) zero hx hy = or_zero_r 1
or_bits (suc zero) (suc zero) hx hy = or_self 1
or_bits (suc zero) (suc (suc y)) hx hy = absurd (omega arith)
or_bits (suc (suc x)) y hx hy = absurd (omega arith)

or_none : (x : ℕ) → x < 2 → or_mark x 0 ≡ x
or_none zero h = refl
or_none (suc zero) h = refl
or_none (suc (suc x)) h = absurd (omega arith)

or_lt_two : (x y : ℕ) → y < 2 → or_mark x y < 2
or_lt_two x y h = either (x =? 1)
  where
    either : (t : Bool) → (if t then 1 else y) < 2
    either true = omega arith
    either false = h

-- past its end a list has 0
pub get_d_past : (xs : List ℕ) (j : ℕ) → length xs ≤ j → get_or xs j 0 ≡ 0
get_d_past [] j l = refl
get_d_past (x ∷ xs) zero l = absurd (not-suc-le-zero l)
get_d_past (x ∷ xs) (suc j) l = get_d_past xs j (le_of_suc-le-suc l)

pub mark_lt : (marks : List ℕ) (j : ℕ) → mark_in marks j < 2
unfolding mark_in
mark_lt marks j = field_lt 1 (j % 32) (get_or marks (j / 32) 0)

-- a word that is 0 has no mark, and any other has one
pub word_unmarked : (marks : List ℕ) (j : ℕ) → get_or marks (j / 32) 0 ≡ 0 → mark_in marks j ≡ 0
unfolding mark_in
word_unmarked marks j e = ap (field 1 (j % 32)) e ∙ no_bit (j % 32)

pub word_marked : (marks : List ℕ) (w : ℕ) → get_or marks w 0 < 2 ^ 32 → (get_or marks w 0 ≡ 0 → ⊥) → (j : ℕ) × (j / 32 ≡ w) × (mark_in marks j ≡ 1)
unfolding mark_in
word_marked marks w fits ne =
    let b = some_bit 32 (get_or marks w 0) fits ne in
    let i = b.0 in
    let high = digits_div w b.1 in
    (w * 32 + i, high, ap₂ (λ (i w : ℕ). field 1 i (get_or marks w 0)) (digits_mod w b.1) high ∙ b.2)

-- a mark of four words that were made of marks
pub mark_words_lem : (f : ℕ → ℕ) → ((j : ℕ) → j < 128 → f j < 2) → (j : ℕ) → j < 128 → mark_in (mark_words f) j ≡ f j
unfolding mark_in mark_words
mark_words_lem f h j l =
    let w : j / 32 < 4 = omega arith in
    ap (field 1 (j % 32)) (get_or_tab 4 (λ w. joined 1 32 (λ i. f (w * 32 + i))) (j / 32) 0 w)
    ∙ field_joined 1 32 (λ i. f (j / 32 * 32 + i)) (λ i m. h (j / 32 * 32 + i) (digits_lt w m)) (j % 32) (mod-lt j (omega arith))
    ∙ ap f (div-add-mod' j 32)

-- four words are made of their marks
pub words_marks : (marks : List ℕ) → length marks ≡ 4 → ((w : ℕ) → get_or marks w 0 < 2 ^ 32) → (f : ℕ → ℕ) → ((j : ℕ) → j < 128 → mark_in marks j ≡ f j) → marks ≡ mark_words f
unfolding mark_in mark_words
words_marks marks size fit f h = is_tab 4 (λ w. joined 1 32 (λ i. f (w * 32 + i))) marks 0 size word
  where
    bit : (w i : ℕ) → w < 4 → i < 32 → field 1 i (get_or marks w 0) ≡ f (w * 32 + i)
    bit w i hw hi =
        sym (ap₂ (λ (i w : ℕ). field 1 i (get_or marks w 0)) (digits_mod w hi) (digits_div w hi)) ∙ h (w * 32 + i) (digits_lt hw hi)

    word : (w : ℕ) → w < 4 → get_or marks w 0 ≡ joined 1 32 (λ i. f (w * 32 + i))
    word w hw =
        sym (joined_field 1 32 (get_or marks w 0) ∙ mod-eq_of_lt (fit w))
        ∙ joined_ext 1 32 (λ i. field 1 i (get_or marks w 0)) (λ i. f (w * 32 + i)) (λ i hi. bit w i hw hi)

-- a mark after a step
pub mark_kept : (marks cuts : List ℕ) → ((j : ℕ) → get_or cuts j 0 < 2) → (j : ℕ) → j < 128 → mark_in (kept_marks marks cuts) j ≡ or_mark (mark_in marks j) (get_or cuts j 0)
unfolding kept_marks
mark_kept marks cuts h j l = mark_words_lem (λ j. or_mark (mark_in marks j) (get_or cuts j 0)) (λ j m. or_lt_two (mark_in marks j) (get_or cuts j 0) (h j)) j l

-- a step that cuts nothing off leaves the marks
pub none_cut : (marks cuts : List ℕ) → length marks ≡ 4 → ((w : ℕ) → get_or marks w 0 < 2 ^ 32) → ((j : ℕ) → get_or cuts j 0 ≡ 0) → kept_marks marks cuts ≡ marks
unfolding kept_marks
none_cut marks cuts size fit none =
    sym (words_marks marks size fit (λ j. or_mark (mark_in marks j) (get_or cuts j 0)) (λ j l. sym (ap (or_mark (mark_in marks j)) (none j) ∙ or_none (mark_in marks j) (mark_lt marks j))))

-- one mark set
module _ (marks : List ℕ) (size : length marks ≡ 4) (k mark : ℕ) (within : k < 128) (small : mark ≤ 1) where
  word_in : k / 32 < length marks
  word_in = subst (λ (n : ℕ). k / 32 < n) (sym size) (omega arith)

  pub with_size : length (with_mark k mark marks) ≡ 4
  unfolding with_mark
  with_size = length-set marks (k / 32) _ ∙ size

  pub with_there : mark_in (with_mark k mark marks) k ≡ or_mark (mark_in marks k) mark
  unfolding with_mark mark_in
  with_there =
      ap (field 1 (k % 32)) (get_or-set_same marks (k / 32) (bit_or (get_or marks (k / 32) 0) (mark * 2 ^ (k % 32))) 0 word_in)
      ∙ field_or 1 (k % 32) (get_or marks (k / 32) 0) (mark * 2 ^ (k % 32))
      ∙ ap (bit_or (field 1 (k % 32) (get_or marks (k / 32) 0))) (bit_there (k % 32) mark small)
      ∙ or_bits (field 1 (k % 32) (get_or marks (k / 32) 0)) mark (field_lt 1 (k % 32) (get_or marks (k / 32) 0)) small

  pub with_elsewhere : (j : ℕ) → (j ≡ k → ⊥) → mark_in (with_mark k mark marks) j ≡ mark_in marks j
  unfolding with_mark mark_in
  with_elsewhere j ne = ⊎_elim same other (same_or_not (j / 32) (k / 32))
    where
      new : ℕ
      new = bit_or (get_or marks (k / 32) 0) (mark * 2 ^ (k % 32))

      other : (j / 32 ≡ k / 32 → ⊥) → field 1 (j % 32) (get_or (set marks (k / 32) new) (j / 32) 0) ≡ field 1 (j % 32) (get_or marks (j / 32) 0)
      other apart = ap (field 1 (j % 32)) (get_or-set_other marks (k / 32) (j / 32) new 0 apart)

      apart : j / 32 ≡ k / 32 → j % 32 ≡ k % 32 → ⊥
      apart e f = ne (omega arith)

      same : j / 32 ≡ k / 32 → field 1 (j % 32) (get_or (set marks (k / 32) new) (j / 32) 0) ≡ field 1 (j % 32) (get_or marks (j / 32) 0)
      same e =
          ap (λ (w : ℕ). field 1 (j % 32) (get_or (set marks (k / 32) new) w 0)) e
          ∙ ap (field 1 (j % 32)) (get_or-set_same marks (k / 32) new 0 word_in)
          ∙ field_or 1 (j % 32) (get_or marks (k / 32) 0) (mark * 2 ^ (k % 32))
          ∙ ap (bit_or (field 1 (j % 32) (get_or marks (k / 32) 0))) (bit_elsewhere (k % 32) (j % 32) mark small (apart e))
          ∙ or_zero_r _
          ∙ ap (λ (w : ℕ). field 1 (j % 32) (get_or marks w 0)) (sym e)

  pub with_fits : ((w : ℕ) → get_or marks w 0 < 2 ^ 32) → (w : ℕ) → get_or (with_mark k mark marks) w 0 < 2 ^ 32
  unfolding with_mark
  with_fits fit w = ⊎_elim there (λ ne. subst (λ (v : ℕ). v < 2 ^ 32) (sym (get_or-set_other marks (k / 32) w new 0 ne)) (fit w)) (same_or_not w (k / 32))
    where
      new : ℕ
      new = bit_or (get_or marks (k / 32) 0) (mark * 2 ^ (k % 32))

      shifted : mark * 2 ^ (k % 32) < 2 ^ 32
      shifted =
          let most : 2 ^ (1 + k % 32) ≤ 2 ^ 32 = pow_mono {i = 1 + k % 32} {j = 32} (omega arith) in
          let less : mark * 2 ^ (k % 32) < 2 ^ (1 + k % 32) = shl_lt 1 (k % 32) (omega arith) in
          omega (arith, most, less)

      there : w ≡ k / 32 → get_or (set marks (k / 32) new) w 0 < 2 ^ 32
      there e =
          subst (λ (v : ℕ). v < 2 ^ 32) (sym (ap (λ (w : ℕ). get_or (set marks (k / 32) new) w 0) e ∙ get_or-set_same marks (k / 32) new 0 word_in))
          (or_lt 32 (get_or marks (k / 32) 0) (mark * 2 ^ (k % 32)) (fit (k / 32)) shifted)

-- marks set one after the other
module _ (cut : ℕ → ℕ) (small : (j : ℕ) → cut j ≤ 1) (marks : List ℕ) (size : length marks ≡ 4) where
  pub with_all_size : (base n : ℕ) → base + n ≤ 128 → length (with_marks base n cut marks) ≡ 4
  unfolding with_marks
  with_all_size base zero h = size
  with_all_size base (suc n) h = with_size (with_marks base n cut marks) (with_all_size base n (omega arith)) (base + n) (cut (base + n)) (omega arith) (small (base + n))

  fits_all : ((w : ℕ) → get_or marks w 0 < 2 ^ 32) → (n : ℕ) → n ≤ 128 → (w : ℕ) → get_or (with_marks 0 n cut marks) w 0 < 2 ^ 32
  unfolding with_marks
  fits_all fit zero h w = fit w
  fits_all fit (suc n) h w =
      with_fits (with_marks 0 n cut marks) (with_all_size 0 n (omega arith)) (0 + n) (cut (0 + n)) (omega arith) (small (0 + n)) (fits_all fit n (omega arith)) w

  -- past the last of them a mark is what it was, and before it is set or what it was
  mark_past : (n : ℕ) → n ≤ 128 → (j : ℕ) → n ≤ j → mark_in (with_marks 0 n cut marks) j ≡ mark_in marks j
  unfolding with_marks
  mark_past zero h j l = refl
  mark_past (suc n) h j l =
      with_elsewhere (with_marks 0 n cut marks) (with_all_size 0 n (omega arith)) (0 + n) (cut (0 + n)) (omega arith) (small (0 + n)) j (λ e. omega arith)
      ∙ mark_past n (omega arith) j (omega arith)

  mark_below : (n : ℕ) → n ≤ 128 → (j : ℕ) → j < n → mark_in (with_marks 0 n cut marks) j ≡ or_mark (mark_in marks j) (cut j)
  unfolding with_marks
  mark_below zero h j l = absurd (omega arith)
  mark_below (suc n) h j l = ⊎_elim here (there (λ m. mark_below n (omega arith) j m)) (same_or_not j (0 + n))
    where
      before : List ℕ
      before = with_marks 0 n cut marks

      sized : length before ≡ 4
      sized = with_all_size 0 n (omega arith)

      here : j ≡ 0 + n → mark_in (with_mark (0 + n) (cut (0 + n)) before) j ≡ or_mark (mark_in marks j) (cut j)
      here e =
          subst (λ (k : ℕ). mark_in (with_mark k (cut k) before) j ≡ or_mark (mark_in marks j) (cut j)) e
          (with_there before sized j (cut j) (omega arith) (small j) ∙ ap (λ (m : ℕ). or_mark m (cut j)) (mark_past n (omega arith) j (omega arith)))

      there : (j < n → mark_in before j ≡ or_mark (mark_in marks j) (cut j)) → (j ≡ 0 + n → ⊥)
          → mark_in (with_mark (0 + n) (cut (0 + n)) before) j ≡ or_mark (mark_in marks j) (cut j)
      there so ne =
          with_elsewhere before sized (0 + n) (cut (0 + n)) (omega arith) (small (0 + n)) j ne
          ∙ so (omega (arith, ne))

  -- so they are those kept all at once
  pub kept_all : ((w : ℕ) → get_or marks w 0 < 2 ^ 32) → (n : ℕ) → n ≤ 128 → (cuts : List ℕ) → length cuts ≡ n → ((j : ℕ) → j < n → cut j ≡ get_or cuts j 0)
      → with_marks 0 n cut marks ≡ kept_marks marks cuts
  unfolding kept_marks
  kept_all fit n h cuts long same =
      words_marks (with_marks 0 n cut marks) (with_all_size 0 n (omega arith)) (fits_all fit n h) (λ j. or_mark (mark_in marks j) (get_or cuts j 0)) each
    where
      either : (j : ℕ) (t : Bool) → ltb j n ≡ t → mark_in (with_marks 0 n cut marks) j ≡ or_mark (mark_in marks j) (get_or cuts j 0)
      either j true e = let l = ltb-true j n e in mark_below n h j l ∙ ap (or_mark (mark_in marks j)) (same j l)
      either j false e =
          let l = ltb-false j n e in
          mark_past n h j l ∙ sym (ap (or_mark (mark_in marks j)) (get_d_past cuts j (omega (arith, long))) ∙ or_none (mark_in marks j) (mark_lt marks j))

      each : (j : ℕ) → j < 128 → mark_in (with_marks 0 n cut marks) j ≡ or_mark (mark_in marks j) (get_or cuts j 0)
      each j m = either j (ltb j n) refl

-- marks set in one stretch after another
pub with_more : (base n m : ℕ) (cut : ℕ → ℕ) (marks : List ℕ) → with_marks (base + n) m cut (with_marks base n cut marks) ≡ with_marks base (n + m) cut marks
unfolding with_marks
with_more base n zero cut marks = ap (λ (k : ℕ). with_marks base k cut marks) (sym (add-zero n))
with_more base n (suc m) cut marks =
    ap₂ (λ (k : ℕ) (ms : List ℕ). with_mark k (cut k) ms) (add_assoc base n m) (with_more base n m cut marks)
    ∙ ap (λ (k : ℕ). with_marks base k cut marks) (sym (add-suc n m))

-- one more, and one more block
pub with_one : (base n : ℕ) (cut : ℕ → ℕ) (marks : List ℕ) → with_mark (base + n) (cut (base + n)) (with_marks base n cut marks) ≡ with_marks base (n + 1) cut marks
unfolding with_marks
with_one base n cut marks = rw add-one refl

pub with_block : (k w : ℕ) (cut : ℕ → ℕ) (marks : List ℕ) → with_marks (k * w) w cut (with_marks 0 (k * w) cut marks) ≡ with_marks 0 ((k + 1) * w) cut marks
with_block k w cut marks =
    ap (λ (b : ℕ). with_marks b w cut (with_marks 0 (k * w) cut marks)) (sym (zero-add (k * w)))
    ∙ with_more 0 (k * w) w cut marks
    ∙ ap (λ (n : ℕ). with_marks 0 n cut marks) (sym (ap (λ (z : ℕ). z * w) (add-one k) ∙ suc-mul k w))
