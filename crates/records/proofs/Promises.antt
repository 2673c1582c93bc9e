-- What document 02, K1 and K2, say of a step record, a sentence above its statement. Assumes nothing.
use mathlib.Core.Path.{◌≡◌, refl, sym, ap, ap₂, subst, ◌∙◌}
use mathlib.Core.Bool.{Bool, true, false}
use mathlib.Core.List.{List, [], ◌∷◌, ◌++◌}
use Prim.Native.Nat.{ℕ, ◌+◌, ◌-◌, ◌*◌, ◌/◌, ◌%◌, ◌^◌, ◌<◌, ◌≤◌}
use native.Mathlib.Nat.{add-zero}
use native.Mathlib.Omega.{arith}
use borrow.Author.Tests.{ltb-true, ltb-false}
use lib.Dec.{ltb}
use lib.ListN.{length, get_or, take, drop, length-drop, take-append-drop}
use lib.Seq.{length-take-le, take_all, get_or-drop, drop-drop, ext_get_or}
use Rattle.laws.specs.Fields.{field, joined}
use Rattle.laws.proofs.Fields.{field_joined}
use Rattle.laws.proofs.Lists.{get_or_tab}
use Rattle.answers.specs.Tests.{Says}
use Rattle.answers.specs.Right.{Denies}
use Rattle.answers.proofs.Words.{says_not}
use Rattle.answers.proofs.Shows.{denied}
use Rattle.buffers.specs.Buffers.{Fitting, words_needed}
use Rattle.records.specs.Records.{record_bytes, kind_in, signs_in, mode_in, reserved, Part, part_a, part_b, part_c, part_d, bytes_of, word_at, words_in, role_in, words_used, logged, tail, of_arithmetic, unused_not_zero}
use Rattle.records.proofs.Laws.{bytes_fit}

-- 'Kind, signs, mode, five zero bytes, then A (512), B (256), C (512) and D (512)': these, one after another, are the record's bytes.
behind : (from count : ℕ) (bytes : List ℕ) → drop from bytes ≡ take count (drop from bytes) ++ drop (from + count) bytes
behind from count bytes = sym (take-append-drop count (drop from bytes)) ∙ ap (λ (rest : List ℕ). take count (drop from bytes) ++ rest) (drop-drop count from bytes)

pub one_after_another : (bytes : List ℕ) → length bytes ≡ record_bytes
    → bytes ≡ take 3 bytes ++ (reserved bytes ++ (bytes_of part_a bytes ++ (bytes_of part_b bytes ++ (bytes_of part_c bytes ++ bytes_of part_d bytes))))
one_after_another bytes e =
    sym (take-append-drop 3 bytes)
    ∙ then (take 3 bytes) (behind 3 5 bytes
    ∙ then (reserved bytes) (behind 8 512 bytes
    ∙ then (bytes_of part_a bytes) (behind 520 256 bytes
    ∙ then (bytes_of part_b bytes) (behind 776 512 bytes
    ∙ then (bytes_of part_c bytes) (sym (take_all 512 (drop 1288 bytes) (omega (arith, length-drop 1288 bytes, e))))))))
  where
    then : (x : List ℕ) {y z : List ℕ} → y ≡ z → x ++ y ≡ x ++ z
    then x h = ap (λ (rest : List ℕ). x ++ rest) h

-- 'Little-endian words': byte j of a word is its eight bits from bit 8 j on.
module _ (bytes : List ℕ) (fit : (i : ℕ) → get_or bytes i 0 < 2 ^ 8) where
  word_joined : (n : ℕ) → word_at bytes n ≡ joined 8 4 (λ j. get_or bytes (4 * n + j) 0)
  unfolding word_at joined
  word_joined n = omega (arith, ap (λ (i : ℕ). get_or bytes i 0) (add-zero (4 * n)))

  pub little_endian : (n j : ℕ) → j < 4 → field 8 j (word_at bytes n) ≡ get_or bytes (4 * n + j) 0
  little_endian n j h = ap (field 8 j) (word_joined n) ∙ field_joined 8 4 (λ j. get_or bytes (4 * n + j) 0) (λ j _. fit (4 * n + j)) j h

-- bytes whose first words agree, and behind these are zero, are equal
module _ (xs ys : List ℕ) (used : ℕ) (xs-fit : (i : ℕ) → get_or xs i 0 < 2 ^ 8) (ys-fit : (i : ℕ) → get_or ys i 0 < 2 ^ 8)
    (same : words_in used xs ≡ words_in used ys)
    (xs-zero : (i : ℕ) → i < length (drop (4 * used) xs) → get_or (drop (4 * used) xs) i 0 ≡ 0)
    (ys-zero : (i : ℕ) → i < length (drop (4 * used) ys) → get_or (drop (4 * used) ys) i 0 ≡ 0) where
  same_word : (n : ℕ) → n < used → word_at xs n ≡ word_at ys n
  unfolding words_in
  same_word n h = sym (get_or_tab used (word_at xs) n 0 h) ∙ ap (λ (ws : List ℕ). get_or ws n 0) same ∙ get_or_tab used (word_at ys) n 0 h

  pub same_bytes : length xs ≡ length ys → xs ≡ ys
  same_bytes e = ext_get_or 0 xs ys e (λ i l. byte i l (ltb i (4 * used)) refl)
    where
      behind_used : (zs : List ℕ) (i : ℕ) → i < length zs → 4 * used ≤ i → ((j : ℕ) → j < length (drop (4 * used) zs) → get_or (drop (4 * used) zs) j 0 ≡ 0) → get_or zs i 0 ≡ 0
      behind_used zs i l h zero =
          let n : i ≡ 4 * used + (i - 4 * used) = omega arith in
          ap (λ (m : ℕ). get_or zs m 0) n ∙ sym (get_or-drop (4 * used) zs (i - 4 * used) 0) ∙ zero (i - 4 * used) (omega (arith, length-drop (4 * used) zs, l, h))

      byte : (i : ℕ) → i < length xs → (t : Bool) → ltb i (4 * used) ≡ t → get_or xs i 0 ≡ get_or ys i 0
      byte i l true h =
          let low = ltb-true i (4 * used) h in
          let n : i ≡ 4 * (i / 4) + i % 4 = omega arith in
          let j : i % 4 < 4 = omega arith in
          ap (λ (m : ℕ). get_or xs m 0) n
          ∙ sym (little_endian xs xs-fit (i / 4) (i % 4) j)
          ∙ ap (field 8 (i % 4)) (same_word (i / 4) (omega (arith, low)))
          ∙ little_endian ys ys-fit (i / 4) (i % 4) j
          ∙ ap (λ (m : ℕ). get_or ys m 0) (sym n)
      byte i l false h =
          let high = ltb-false i (4 * used) h in
          behind_used xs i l high xs-zero ∙ sym (behind_used ys i (omega (arith, l, e)) high ys-zero)

-- 11 leaves nothing unsaid: two records of an arithmetic kind that it does not refuse, with the same kind, signs and mode and the same words of A, B, C
-- and D, are equal.
module _ (bytes : List ℕ) (clean : ¬ Says (unused_not_zero bytes)) where
  denies : Denies (unused_not_zero bytes)
  denies = denied (unused_not_zero bytes) ((says_not (unused_not_zero bytes)).1 clean)

  tail_zero : Says (of_arithmetic (kind_in bytes)) → (part : Part) (i : ℕ) → i < length (tail part bytes) → get_or (tail part bytes) i 0 ≡ 0
  tail_zero of part_a = (denies.1 of).0
  tail_zero of part_b = (denies.1 of).1.0
  tail_zero of part_c = (denies.1 of).1.1.0
  tail_zero of part_d = (denies.1 of).1.1.1

size_of : Part → ℕ
size_of part_a = 512
size_of part_b = 256
size_of part_c = 512
size_of part_d = 512

part_long : (part : Part) (bytes : List ℕ) → length bytes ≡ record_bytes → length (bytes_of part bytes) ≡ size_of part
unfolding size_of
part_long part_a bytes e = length-take-le 512 (drop 8 bytes) (omega (arith, length-drop 8 bytes, e))
part_long part_b bytes e = length-take-le 256 (drop 520 bytes) (omega (arith, length-drop 520 bytes, e))
part_long part_c bytes e = length-take-le 512 (drop 776 bytes) (omega (arith, length-drop 776 bytes, e))
part_long part_d bytes e = length-take-le 512 (drop 1288 bytes) (omega (arith, length-drop 1288 bytes, e))

three : (xs : List ℕ) → 3 ≤ length xs → take 3 xs ≡ get_or xs 0 0 ∷ get_or xs 1 0 ∷ get_or xs 2 0 ∷ []
three [] h = absurd (omega arith)
three (x ∷ []) h = absurd (omega arith)
three (x ∷ y ∷ []) h = absurd (omega arith)
three (x ∷ y ∷ z ∷ xs) h = refl

module _ (xs ys : List ℕ) (xs-long : length xs ≡ record_bytes) (ys-long : length ys ≡ record_bytes) (xs-fit : Fitting 8 xs) (ys-fit : Fitting 8 ys)
    (of : Says (of_arithmetic (kind_in xs))) (xs-clean : ¬ Says (unused_not_zero xs)) (ys-clean : ¬ Says (unused_not_zero ys))
    (kinds : kind_in xs ≡ kind_in ys) (signs : signs_in xs ≡ signs_in ys) (modes : mode_in xs ≡ mode_in ys)
    (words : (part : Part) → logged part xs ≡ logged part ys) where
  same_head : take 3 xs ≡ take 3 ys
  same_head =
      three xs (omega (arith, xs-long))
      ∙ ap₂ ◌∷◌ kinds (ap₂ ◌∷◌ signs (ap (λ (m : ℕ). m ∷ []) modes))
      ∙ sym (three ys (omega (arith, ys-long)))

  reserved_long : (bytes : List ℕ) → length bytes ≡ record_bytes → length (reserved bytes) ≡ 5
  reserved_long bytes e = length-take-le 5 (drop 3 bytes) (omega (arith, length-drop 3 bytes, e))

  same_reserved : reserved xs ≡ reserved ys
  same_reserved =
      ext_get_or 0 (reserved xs) (reserved ys) (reserved_long xs xs-long ∙ sym (reserved_long ys ys-long))
      (λ i l. (denies xs xs-clean).0 i l ∙ sym ((denies ys ys-clean).0 i (omega (arith, l, reserved_long xs xs-long, reserved_long ys ys-long))))

  same_part : (part : Part) → bytes_of part xs ≡ bytes_of part ys
  unfolding logged
  same_part part =
      let n = words_used part xs in
      let same : words_used part ys ≡ n = ap (λ (k : ℕ). words_needed k (role_in part)) (sym kinds) in
      same_bytes (bytes_of part xs) (bytes_of part ys) n (bytes_fit xs xs-fit part) (bytes_fit ys ys-fit part)
      (words part ∙ ap (λ (m : ℕ). words_in m (bytes_of part ys)) same)
      (tail_zero xs xs-clean of part)
      (subst (λ (m : ℕ). (i : ℕ) → i < length (drop (4 * m) (bytes_of part ys)) → get_or (drop (4 * m) (bytes_of part ys)) i 0 ≡ 0) same
      (tail_zero ys ys-clean (subst (λ (k : ℕ). Says (of_arithmetic k)) kinds of) part))
      (part_long part xs xs-long ∙ sym (part_long part ys ys-long))

  pub nothing_else : xs ≡ ys
  nothing_else =
      one_after_another xs xs-long
      ∙ ap₂ ◌++◌ same_head (ap₂ ◌++◌ same_reserved (ap₂ ◌++◌ (same_part part_a) (ap₂ ◌++◌ (same_part part_b) (ap₂ ◌++◌ (same_part part_c) (same_part part_d)))))
      ∙ sym (one_after_another ys ys-long)
