-- Places have few digits, and what is printed for one record more. Assumes nothing.
use mathlib.Core.Path.{◌≡◌, refl, sym, ap, ◌∙◌}
use mathlib.Core.Bool.{Bool, true, false}
use mathlib.Core.List.{List, [], ◌∷◌, ◌++◌, append_assoc, append-nil}
use Prim.Native.Nat.{ℕ, zero, suc, ◌+◌, ◌*◌, ◌/◌, ◌%◌, ◌<◌, ◌≤◌}
use native.Mathlib.Omega.{arith}
use lib.ListN.{length, take, drop, get_or}
use lib.Seq.{drop-drop, take_all}
use Rattle.std.proofs.lemmas.List.{nil_from_length}
use Rattle.std.specs.List.{flat_map}
use Rattle.std.specs.Simd.{first_chunks}
use Rattle.kinds.specs.Places.{Place}
use Rattle.kinds.specs.Rule.{turn, major, minor}
use Rattle.answers.specs.Refusals.{given}
use Rattle.places.specs.PlaceCalls.{place_answer}
use Rattle.kinds.proofs.Digits.{major_lt, minor_lt}
use Rattle.kinds.proofs.Spots.{word_lt, bit_lt}
use Rattle.kinds.proofs.Table.{layout_at, sane}
use Rattle.places.proofs.ByRule.{place_legal, placed_inside}
use Rattle.lookup_text.specs.Text.{line_of, printed, short_text}
use Rattle.text.specs.Text.{decimal}
use Rattle.text.proofs.Laws.{decimal_length}

-- a number below 10 takes one digit, one below 100 at most two, and one below 1,000 at most three
pub one : (n : ℕ) → n < 10 → length (decimal n) ≤ 1
one n h = decimal_length 0 20 n h

pub two : (n : ℕ) → n < 100 → length (decimal n) ≤ 2
two n h = decimal_length 1 20 n h

pub three : (n : ℕ) → n < 1000 → length (decimal n) ≤ 3
three n h = decimal_length 2 20 n h

-- every row and column is below 1,000, every word below 10 and every bit below 100
turn_lt : (t : Bool) (n x y : ℕ) → x < n → y < n → ((turn t (x, y)).0 < n) × ((turn t (x, y)).1 < n)
turn_lt false n x y p q = (p, q)
turn_lt true n x y p q = (q, p)

pub place_small : (k r l i : ℕ) (z : Place) → place_answer k r l i ≡ given z → (z.0 < 1000) × (z.1 < 1000) × (z.2 < 10) × (z.3 < 100)
place_small k r l i z e =
    let f = layout_at k r in
    let w = sane k r (place_legal k r l i z e) in
    let p = placed_inside k r l i z e in
    let x< = major_lt f.side f.halves w.side_pos w.halves_pos l i p.0 in
    let y< = minor_lt f.side f.halves w.side_pos w.halves_pos f.spans l i p.1 in
    let xy = turn_lt f.turned 1000 (major f.side f.halves l i) (minor f.side f.halves l i) (omega arith) (omega arith) in
    let word = word_lt f.bits (f.spans * f.halves * f.side) f.words i w.width.pos w.full p.1 in
    let bit = bit_lt f.bits i in
    rw p.2 (xy.0, xy.1, omega (arith, w.words_le), omega arith)

-- whole records print before what follows them, and one to three bytes `short record`
pub printed_joined : (whole rest : List ℕ) → length whole % 4 ≡ 0 → printed (whole ++ rest) ≡ printed whole ++ printed rest
unfolding printed
printed_joined [] rest h = refl
printed_joined (a ∷ []) rest h = absurd (omega arith)
printed_joined (a ∷ b ∷ []) rest h = absurd (omega arith)
printed_joined (a ∷ b ∷ c ∷ []) rest h = absurd (omega arith)
printed_joined (a ∷ b ∷ c ∷ d ∷ whole) rest h =
    ap (λ (l : List ℕ). line_of (place_answer a b c d) ++ l) (printed_joined whole rest (omega arith))
    ∙ sym (append_assoc (line_of (place_answer a b c d)) (printed whole) (printed rest))

printed_short : (xs : List ℕ) → 0 < length xs → length xs < 4 → printed xs ≡ short_text
unfolding printed
printed_short [] a b = absurd (omega arith)
printed_short (x ∷ []) a b = refl
printed_short (x ∷ y ∷ []) a b = refl
printed_short (x ∷ y ∷ z ∷ []) a b = refl
printed_short (x ∷ y ∷ z ∷ t ∷ xs) a b = absurd (omega arith)

-- the line of one record, and what is printed record by record, with what is printed for the bytes that are left
abbrev pub record_line : (bytes : List ℕ) → List ℕ
record_line bytes = line_of (place_answer (get_or bytes 0 0) (get_or bytes 1 0) (get_or bytes 2 0) (get_or bytes 3 0))

printed_each : (n : ℕ) (xs : List ℕ) → 4 * n ≤ length xs → flat_map record_line (first_chunks 4 n xs) ++ printed (drop (n * 4) xs) ≡ printed xs
unfolding printed
printed_each zero xs h = refl
printed_each (suc n) [] h = absurd (omega arith)
printed_each (suc n) (a ∷ []) h = absurd (omega arith)
printed_each (suc n) (a ∷ b ∷ []) h = absurd (omega arith)
printed_each (suc n) (a ∷ b ∷ c ∷ []) h = absurd (omega arith)
printed_each (suc n) (a ∷ b ∷ c ∷ d ∷ xs) h =
    let four : suc n * 4 ≡ 4 + n * 4 = omega arith in
    let line = line_of (place_answer a b c d) in
    rw (four, ← drop-drop (n * 4) 4 (a ∷ b ∷ c ∷ d ∷ xs)) (append_assoc line _ _ ∙ ap (λ (l : List ℕ). line ++ l) (printed_each n xs (omega arith)))

-- all whole records, and then what is printed for the rest
module _ (xs : List ℕ) (whole : List (List ℕ)) (rest : List ℕ) (i : ℕ) (front : whole ≡ first_chunks 4 (length xs / 4) xs) (back : rest ≡ drop (length xs / 4 * 4) xs) (all : length whole ≤ i) where
  printed_whole : flat_map record_line (take i whole) ++ printed rest ≡ printed xs
  printed_whole = rw (take_all i whole all, front, back) (printed_each (length xs / 4) xs (omega arith))

  pub printed_none : length rest ≡ 0 → flat_map record_line (take i whole) ≡ printed xs
  unfolding printed
  printed_none none = sym (append-nil _) ∙ ap (λ (l : List ℕ). flat_map record_line (take i whole) ++ printed l) (sym (nil_from_length rest none)) ∙ printed_whole

  pub printed_rest : 0 < length rest → length rest < 4 → flat_map record_line (take i whole) ++ short_text ≡ printed xs
  printed_rest some few = ap (λ (l : List ℕ). flat_map record_line (take i whole) ++ l) (sym (printed_short rest some few)) ∙ printed_whole
