-- A record's parts: what of them a kind uses has room, and has words of 32 bits. Assumes nothing.
use Rattle.std.proofs.Common.{if◌then◌else◌, ◌==◌}
use Rattle.std.specs.List.{list_any}
use mathlib.Core.Path.{◌≡◌, refl, sym, ap, subst, ◌∙◌}
use mathlib.Core.Bool.{Bool, true, false, not}
use mathlib.Core.List.{List, []}
use Prim.Native.Nat.{ℕ, ◌+◌, ◌*◌, ◌^◌, ◌<◌, ◌≤◌}
use native.Mathlib.Omega.{arith}
use borrow.Author.Tests.{ltb-true, ltb-false}
use lib.Dec.{ltb}
use lib.ListN.{length, get_or, take, drop, length-take}
use lib.Seq.{get_or-take, get_or-drop}
use Rattle.laws.proofs.Lists.{length_tab, get_or_tab}
use Rattle.answers.specs.Tests.{Says, differs}
use Rattle.answers.specs.Refusals.{number_of, detail_of, refused}
use Rattle.answers.specs.Calls.{first}
use Rattle.answers.specs.Right.{Passes}
use Rattle.answers.specs.Promised.{Replies, Tells}
use Rattle.answers.specs.declared.Refusal.{Refusal}
use Rattle.answers.proofs.Words.{says, says_not, any_is}
use Rattle.answers.proofs.Shows.{passes, handed_on, tells}
use Rattle.answers.proofs.Demand1.{reply_is}
use Rattle.kinds.specs.declared.Entry.{Entry}
use Rattle.kinds.specs.Kinds.{entry_of, Arithmetic, one_bit_element, int4_element}
use Rattle.kinds.proofs.Table.{among_≤}
use Rattle.buffers.specs.Buffers.{Fitting, words_needed}
use Rattle.step.specs.Workers.{told_line}
use Rattle.step_work.specs.declared.Selected.{Selected}
use Rattle.std.specs.Prelude.{Result, Ok, Err}
use Rattle.step_limit.proofs.Marks.{get_d_past}
use Rattle.records.specs.Records.{Part, part_a, part_b, part_c, part_d, bytes_of, word_at, words_in, words_used, logged, asks_plain, mode_for, kind_in, not_zero, record_refusals, record_call}

-- the words that an arithmetic kind uses stand within their part
module _ (k : ℕ) (ok : Arithmetic k) where
  pub room_A : 4 * words_needed k 0 ≤ 512
  room_A = among_≤ k ok.low ok.high one_bit_element int4_element ok.is (λ e. 4 * (32 * e.a)) (λ e. 512) tt

  pub room_B : 4 * words_needed k 1 ≤ 256
  room_B = among_≤ k ok.low ok.high one_bit_element int4_element ok.is (λ e. 4 * (32 * e.b)) (λ e. 256) tt

  pub room_C : 4 * words_needed k 2 ≤ 512
  room_C = among_≤ k ok.low ok.high one_bit_element int4_element ok.is (λ e. 4 * (32 * e.c)) (λ e. 512) tt

-- at every number there is an element that has a property, or none, which is 0
within : (xs : List ℕ) (P : ℕ → Type 0) → P 0 → ((i : ℕ) → i < length xs → P (get_or xs i 0)) → (i : ℕ) → P (get_or xs i 0)
within xs P none some i = either (ltb i (length xs)) refl
  where
    either : (t : Bool) → ltb i (length xs) ≡ t → P (get_or xs i 0)
    either true l = some i (ltb-true i (length xs) l)
    either false l = subst P (sym (get_d_past xs i (ltb-false i (length xs) l))) none

-- four bytes make a word of 32 bits
word_lt : (bytes : List ℕ) → ((i : ℕ) → get_or bytes i 0 < 2 ^ 8) → (n : ℕ) → word_at bytes n < 2 ^ 32
unfolding word_at
word_lt bytes fit n = omega (arith, fit (4 * n), fit (4 * n + 1), fit (4 * n + 2), fit (4 * n + 3))

module _ (bytes : List ℕ) (fit : Fitting 8 bytes) where
  part_fits : (from count i : ℕ) → get_or (take count (drop from bytes)) i 0 < 2 ^ 8
  part_fits from count =
      within (take count (drop from bytes)) (λ b. b < 2 ^ 8) (omega arith)
      (λ i l. subst (λ (b : ℕ). b < 2 ^ 8) (sym (get_or-take count (drop from bytes) i 0 (omega (arith, l, length-take count (drop from bytes))) ∙ get_or-drop from bytes i 0))
      (within bytes (λ b. b < 2 ^ 8) (omega arith) fit (from + i)))

  pub bytes_fit : (part : Part) (i : ℕ) → get_or (bytes_of part bytes) i 0 < 2 ^ 8
  bytes_fit part_a = part_fits 8 512
  bytes_fit part_b = part_fits 520 256
  bytes_fit part_c = part_fits 776 512
  bytes_fit part_d = part_fits 1288 512

  pub logged_lt : (part : Part) (x : ℕ) → get_or (logged part bytes) x 0 < 2 ^ 32
  unfolding logged words_in
  logged_lt part =
      within (logged part bytes) (λ w. w < 2 ^ 32) (omega arith)
      (λ x l. subst (λ (w : ℕ). w < 2 ^ 32) (sym (get_or_tab (words_used part bytes) (word_at (bytes_of part bytes)) x 0 (subst (λ (n : ℕ). x < n) (length_tab (words_used part bytes) (word_at (bytes_of part bytes))) l)))
      (word_lt (bytes_of part bytes) (bytes_fit part) x))

pub logged_length : (part : Part) (bytes : List ℕ) → length (logged part bytes) ≡ words_used part bytes
unfolding logged words_in
logged_length part bytes = length_tab (words_used part bytes) (word_at (bytes_of part bytes))

-- the mode that is asked for
pub for_plain : (signs mode : ℕ) → Says (asks_plain signs mode) → mode_for signs mode ≡ 0
for_plain signs mode p = ap (λ (b : Bool). if b then 0 else mode) ((says (asks_plain signs mode)).1 p)

pub for_own : (signs mode : ℕ) → ¬ Says (asks_plain signs mode) → mode_for signs mode ≡ mode
for_own signs mode n = ap (λ (b : Bool). if b then 0 else mode) ((says_not (asks_plain signs mode)).1 n)

-- what a record's judge told: where every refusal was passed, or the first that applies
module _ (bytes : List ℕ) (r : Result Selected Refusal) (reply : Replies (record_call bytes) (told_line r)) where
  pub judged : (s : Selected) → r ≡ Ok s → Passes (record_refusals bytes)
  judged s e = passes (record_refusals bytes) (entry_of (kind_in bytes)) (sym (sym (ap told_line e) ∙ reply_is reply))

  pub refused_first : {X : Type 0} (gives : X) (x : Refusal) → r ≡ Err x → refused x ≡ first (record_refusals bytes) gives
  refused_first gives x e = handed_on (record_refusals bytes) [] (entry_of (kind_in bytes)) gives (number_of x) (detail_of x) (sym (ap told_line e) ∙ reply_is reply)

-- whether a byte is not zero, as a look at each tells
pub not_zero_told : (bytes : List ℕ) (b : Bool) → b ≡ list_any (λ x. not (x == 0)) bytes → Tells (not_zero bytes) b
not_zero_told bytes b e = tells (not_zero bytes) b (e ∙ sym (any_is (λ x. not (x == 0)) (λ x. differs x 0) (λ x. refl) bytes))
