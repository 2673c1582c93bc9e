-- Two buffers of D: their words are equal exactly when their matrices agree at every place, since packing gives back the words that were unpacked; and
-- else there is a first place, row by row, at which they differ. Assumes nothing.
use Rattle.std.proofs.Common.{if◌then◌else◌}
use mathlib.Core.Path.{◌≡◌, refl, sym, ap, ap₂, subst, ◌∙◌}
use mathlib.Core.Bool.{Bool, true, false}
use mathlib.Core.Logic.{◌↔◌, ◌≢◌}
use mathlib.Core.List.{List}
use Prim.Native.Nat.{ℕ, ◌*◌, ◌/◌, ◌%◌, ◌^◌, ◌<◌, ◌≤◌}
use native.Mathlib.Nat.{div-add-mod', div-lt_iff_lt-mul, mod-lt}
use native.Mathlib.Omega.{arith}
use lib.Arith.{digits_lt, digits_div, digits_mod}
use borrow.Author.Tests.{ltb-true, lt-ltb, le-ltb}
use lib.ListN.{length, get_or}
use lib.Seq.{ext_get_or}
use Rattle.laws.proofs.Lists.{length_tab}
use Rattle.answers.specs.Tests.{Test, somewhere, holds, first_of, Says}
use Rattle.answers.proofs.Words.{says_not, first_index, first_here, first_nowhere}
use Rattle.answers.proofs.Shows.{denied, deny}
use Rattle.kinds.specs.Kinds.{entry_of, rows_at, columns_at, one_bit_element, int4_element, Legal, Arithmetic}
use Rattle.kinds.specs.Rule.{rows_of, columns_of}
use Rattle.kinds.specs.declared.Entry.{Entry}
use Rattle.kinds.specs.Rule.{Layout}
use Rattle.kinds.proofs.Table.{layout_at, rows_are, columns_are, sane, among_≡, among_≤}
use Rattle.buffers.specs.Buffers.{Fitting, index, unpacked_of, packed, entries_needed, words_needed}
use Rattle.buffers.proofs.Places.{columns_pos}
use Rattle.buffers.proofs.Round as round
use Rattle.step_work.specs.Step.{entry_in}
use Rattle.step_work.proofs.Matrices.{legal, halves_le, word_in, entry_word}
use Rattle.records.specs.Records.{Part, bytes_of, word_at, words_in, role_in}
use Rattle.replay_text.specs.Workers.{word_no, part_words}
use Rattle.replay_text.specs.Verdicts.{ok, wrong, differs_at, compared, FirstDiffering}

-- what a test makes of it
said_ok : (b : Bool) (row column : ℕ) → (if b then wrong row column else ok) ≡ ok → b ≡ false
said_ok false row column e = refl
said_ok true row column e = let z : ◌≡◌ {A = ℕ} 0 1 = cc in absurd (omega arith)

said_wrong : (b : Bool) (x y : ℕ) {row column : ℕ} → (if b then wrong x y else ok) ≡ wrong row column → (b ≡ true) × (x ≡ row) × (y ≡ column)
said_wrong true x y e = (refl, cc, cc)
said_wrong false x y e = let z : ◌≡◌ {A = ℕ} 0 1 = cc in absurd (omega arith)

module _ (k : ℕ) (l : Legal k 2) (log right : List ℕ) where
  abbrev f : Layout
  f = layout_at k 2

  abbrev columns : ℕ
  columns = columns_at k 2

  abbrev places : ℕ
  places = entries_needed k 2

  abbrev first : ℕ
  first = first_of places (differs_at k log right)

  some_columns : 0 < columns
  some_columns = subst (λ (n : ℕ). 0 < n) (sym (columns_are k 2 l)) (columns_pos f (sane k 2 l))

  entry_place : (ws : List ℕ) (n : ℕ) → get_or (unpacked_of k 2 ws) n 0 ≡ entry_in k 2 ws (n / columns) (n % columns)
  unfolding entry_in
  entry_place ws n = ap (λ (i : ℕ). get_or (unpacked_of k 2 ws) i 0) (sym (div-add-mod' n columns))

  module _ (log_fits : Fitting 32 log) (right_fits : Fitting 32 right) (log-long : length log ≡ words_needed k 2) (right_long : length right ≡ words_needed k 2) where
    agreeing : ((n : ℕ) → n < places → entry_in k 2 log (n / columns) (n % columns) ≡ entry_in k 2 right (n / columns) (n % columns)) → log ≡ right
    agreeing same =
        sym (round.unpack_pack f (sane k 2 l) log log_fits log-long)
        ∙ ap (packed f) matrices
        ∙ round.unpack_pack f (sane k 2 l) right right_fits right_long
      where
        long : (ws : List ℕ) → length (unpacked_of k 2 ws) ≡ places
        long ws = round.unpacked_length f ws ∙ ap₂ (λ (m n : ℕ). m * n) (sym (rows_are k 2 l)) (sym (columns_are k 2 l))

        matrices : unpacked_of k 2 log ≡ unpacked_of k 2 right
        matrices =
            ext_get_or 0 (unpacked_of k 2 log) (unpacked_of k 2 right) (long log ∙ sym (long right))
            (λ n h. entry_place log n ∙ same n (subst (λ (m : ℕ). n < m) (long log) h) ∙ sym (entry_place right n))

    pub ok_when : (compared k log right ≡ ok) ↔ (log ≡ right)
    unfolding compared
    ok_when = (there, back)
      where
        there : compared k log right ≡ ok → log ≡ right
        there e = agreeing (denied (somewhere places (differs_at k log right)) (said_ok (holds (somewhere places (differs_at k log right))) _ _ e))

        back : log ≡ right → compared k log right ≡ ok
        back e = ap (λ (b : Bool). if b then wrong (first / columns) (first % columns) else ok)
            (deny (somewhere places (differs_at k log right)) (λ n h. ap (λ (ws : List ℕ). entry_in k 2 ws (n / columns) (n % columns)) e))

  -- what a search from the first place on finds: a place that differs, or none
  abbrev differing : ℕ → Test
  differing = differs_at k log right

  pub found : (n : ℕ) → n < places → Says (differing n) → ((j : ℕ) → j < n → ¬ Says (differing j)) → wrong (n / columns) (n % columns) ≡ compared k log right
  unfolding compared
  found n low here none =
      let is : n ≡ first = first_here places differing n low none here in
      ap (λ (m : ℕ). wrong (m / columns) (m % columns)) is
      ∙ sym (ap (λ (b : Bool). if b then wrong (first / columns) (first % columns) else ok) (lt-ltb first places (omega (arith, is, low))))

  pub not_found : ((j : ℕ) → j < places → ¬ Says (differing j)) → ok ≡ compared k log right
  unfolding compared
  not_found none =
      sym (ap (λ (b : Bool). if b then wrong (first / columns) (first % columns) else ok) (le-ltb first places (omega (arith, first_nowhere places differing places refl none))))

  -- the first differing place
  module _ (row column : ℕ) where
    first_one : first < places → FirstDiffering k log right (first / columns) (first % columns)
    first_one low =
        let at = (first_index places differing first low).0 refl in
        record {
          row_in = (div-lt_iff_lt-mul some_columns).1 low;
          column_in = mod-lt first some_columns;
          differ = at.0;
          agree_before = λ r c h before.
              let j = index columns (r, c) in
              let earlier : j < first = omega (arith, before, div-add-mod' first columns) in
              let same = denied (differing j) ((says_not (differing j)).1 (at.1 j earlier)) in
              rw (digits_div r h, digits_mod r h) at same;
        }

    there : compared k log right ≡ wrong row column → FirstDiffering k log right row column
    unfolding compared
    there e =
        let said = said_wrong (holds (somewhere places differing)) _ _ e in
        subst (λ (x : ℕ × ℕ). FirstDiffering k log right x.0 x.1) (ap₂ (λ (r c : ℕ). (r, c)) said.1 said.2)
        (first_one (ltb-true first places said.0))

    back : FirstDiffering k log right row column → compared k log right ≡ wrong row column
    back x =
        let n = index columns (row, column) in
        let r = digits_div row x.column_in in
        let c = digits_mod row x.column_in in
        let none : (j : ℕ) → j < n → ¬ Says (differing j)
        = λ j h ne. ne (x.agree_before (j / columns) (j % columns) (mod-lt j some_columns) (omega (arith, h, div-add-mod' j columns))) in
        let here : Says (differing n)
        = subst (λ (p : ℕ × ℕ). entry_in k 2 log p.0 p.1 ≢ entry_in k 2 right p.0 p.1) (ap₂ (λ (r c : ℕ). (r, c)) (sym r) (sym c)) x.differ in
        sym (found n (digits_lt x.row_in x.column_in) here none) ∙ ap₂ wrong r c

    pub wrong_when : (compared k log right ≡ wrong row column) ↔ FirstDiffering k log right row column
    wrong_when = (there, back)

-- an element of D is a word, and its matrix has eight columns: a place by its word
module _ (k : ℕ) (of : Arithmetic k) (line : Entry) (is : line ≡ entry_of k) where
  abbrev c_legal : Legal k 2
  c_legal = legal k of 2 (omega arith)

  pub eight : columns_at k 2 ≡ 8
  eight = among_≡ k of.low of.high one_bit_element int4_element of.is (λ e. e.n) (λ e. 8) tt

  rows_eights : rows_at k 2 ≡ line.m / 8 * 8
  rows_eights =
      among_≡ k of.low of.high one_bit_element int4_element of.is (λ e. e.m) (λ e. e.m / 8 * 8) tt ∙ ap (λ (e : Entry). e.m / 8 * 8) (sym is)

  pub places_are : entries_needed k 2 ≡ line.m / 8 * 64
  places_are = ap₂ (λ (m n : ℕ). m * n) rows_eights eight ∙ omega arith

  pub words_few : line.c ≤ 4
  words_few = subst (λ (e : Entry). e.c ≤ 4) (sym is) (among_≤ k of.low of.high one_bit_element int4_element of.is (λ e. e.c) (λ e. 4) tt)

  pub halves_few : line.m / 8 ≤ 2
  halves_few = subst (λ (e : Entry). e.m / 8 ≤ 2) (sym is) (halves_le k of)

  module _ (place : ℕ) (low : place < line.m / 8 * 64) where
    abbrev word : ℕ
    word = word_no line.c (line.m / 8) place

    word_is : word_no (entry_of k).c ((entry_of k).m / 8) place ≡ word
    word_is = ap (λ (e : Entry). word_no e.c (e.m / 8) place) (sym is)

    row_in : place / 8 < rows_of (layout_at k 2)
    row_in = subst (λ (n : ℕ). place / 8 < n) (sym rows_eights ∙ rows_are k 2 c_legal) (omega arith)

    column_in : place % 8 < columns_of (layout_at k 2)
    column_in = subst (λ (n : ℕ). place % 8 < n) (sym eight ∙ columns_are k 2 c_legal) (omega arith)

    pub word_inside : word < words_needed k 2
    word_inside = subst (λ (n : ℕ). n < words_needed k 2) word_is (word_in k of (place / 8) (place % 8) row_in column_in)

    by_word : (ws : List ℕ) → ((x : ℕ) → get_or ws x 0 < 2 ^ 32) → entry_in k 2 ws (place / columns_at k 2) (place % columns_at k 2) ≡ get_or ws word 0
    by_word ws fit =
        ap (λ (n : ℕ). entry_in k 2 ws (place / n) (place % n)) eight
        ∙ entry_word k of (place / 8) (place % 8) row_in column_in ws fit
        ∙ ap (λ (n : ℕ). get_or ws n 0) word_is

    -- so a place differs exactly when its words do
    module _ (log right : List ℕ) (log_fits : (x : ℕ) → get_or log x 0 < 2 ^ 32) (right_fits : (x : ℕ) → get_or right x 0 < 2 ^ 32) where
      pub differ_there : get_or log word 0 ≢ get_or right word 0 → Says (differs_at k log right place)
      differ_there n e = n (sym (by_word log log_fits) ∙ e ∙ by_word right right_fits)

      pub agree_there : get_or log word 0 ≡ get_or right word 0 → ¬ Says (differs_at k log right place)
      agree_there e n = n (by_word log log_fits ∙ e ∙ sym (by_word right right_fits))

-- a part has as many words as its kind needs
pub part_length : (kind : ℕ) (part : Part) (bytes : List ℕ) → length (part_words kind part bytes) ≡ words_needed kind (role_in part)
unfolding words_in
part_length kind part bytes = length_tab (words_needed kind (role_in part)) (word_at (bytes_of part bytes))
