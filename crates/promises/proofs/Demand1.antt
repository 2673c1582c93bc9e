-- Demand 1, a sentence above its statement: 'Every call comes back, for every input. Bad input gets its numbered refusal from document 01; a
-- refused call writes no word anywhere, and a refused run comes back as it went in.' That the code comes back the toolchain proves, no call having
-- a `requires`. What follows is proved once for every call there may be (answers/proofs/Demand1); the calls of the bench are those of specs/Calls.
-- Assumes nothing.
use Rattle.std.proofs.Common.{if◌then◌else◌}
use mathlib.Core.Path.{◌≡◌, refl, ap, subst, ◌∙◌}
use mathlib.Core.Logic.{◌↔◌, ◌⊎◌}
use mathlib.Core.Bool.{Bool, true, false, not, ◌||◌, false≢true}
use mathlib.Core.List.{List, [], ◌∷◌}
use Prim.Native.Nat.{ℕ, suc, ◌-◌, ◌≤◌}
use native.Mathlib.Omega.{arith}
use lib.Dec.{T, eqb, eqb→eq}
use lib.IntN.{ℤ}
use lib.ListN.{length, get_or}
use Rattle.std.specs.Prelude.{Ok, Err}
use Rattle.answers.specs.Refusals.{Answer, given, refusal, told, Verdict}
use Rattle.answers.specs.Tests.{Test, is, either, within, Says, holds, first_of}
use Rattle.answers.specs.Calls.{Call, order_of, Gives, NoneSays}
use Rattle.answers.specs.Promised.{Meets, Replies, Coded}
use Rattle.answers.specs.declared.Refusal.{Refusal}
use Rattle.answers.proofs.Words.{says}
use Rattle.answers.proofs.Demand1 as every
use Rattle.laws.specs.Choice.{◌=?◌}
use Rattle.laws.proofs.Every.{all, all_at}
use Rattle.kinds.specs.Kinds.{kinds, rank, role_c, line_at, entry_of, bits, bits_at, one_bit_element, int8_element, int4_element, one_bit, integer, arithmetic}
use Rattle.kinds.specs.declared.Entry.{Entry}
use Rattle.places.specs.PlaceCalls.{place_call, find_call}
use Rattle.unpack.specs.UnpackCall.{unpack_call}
use Rattle.pack.specs.PackCall.{too_wide, pack_call}
use Rattle.template.specs.Templates.{read_call as record_read_call, write_call as record_write_call}
use Rattle.step.specs.StepCalls.{step_call, plain_call}
use Rattle.run.specs.declared.Run.{Run}
use Rattle.run.specs.RunCalls.{open_call, feed_call, read_call, marks_call}
use Rattle.scale.specs.Bytes.{chosen_bytes}
use Rattle.scale.specs.ScaleCall.{not_a_number, scale_call}
use Rattle.promises.specs.Calls.{OfBench}

module _ {X : Type 0} {call : Call X} (asked : OfBench X call) where
  -- 'Bad input gets its numbered refusal', 'given exactly when', 'where several apply, the first in order is given, and in 5 the first wrong
  -- buffer': a call is refused with a number and a detail exactly when the first of its lines that says so has them, and accepted exactly when
  -- none says so.
  module _ {old : X} {verdict : Verdict} {left : X} (m : Meets call old verdict left) where
    pub refused_when : (n d : ℕ) → (told verdict ≡ refusal n d) ↔ Gives call.refusals n d
    refused_when = every.verdict_refused_when m

    pub accepted_when : (verdict ≡ (Ok tt)) ↔ NoneSays call.refusals
    accepted_when = every.accepted_when m

    -- 'a refused call writes no word anywhere, and a refused run comes back as it went in': whatever stood there is left. A refused opening, into
    -- which no run went, leaves the run that is 0 throughout, as document 01 asks.
    pub refused_leaves : {f : Refusal} → verdict ≡ Err f → left ≡ old
    refused_leaves e = every.refused_leaves m e

    -- And an accepted call leaves what the definitions make.
    pub accepted_leaves : verdict ≡ (Ok tt) → left ≡ call.gives
    accepted_leaves e = every.accepted_leaves m e

  -- The same of place and the reverse question, which give back what they answer.
  module _ {reply : Answer X} (r : Replies call reply) where
    pub reply_refused_when : (n d : ℕ) → (reply ≡ refusal n d) ↔ Gives call.refusals n d
    reply_refused_when = every.reply_refused_when r

    pub reply_given_when : (reply ≡ given call.gives) ↔ NoneSays call.refusals
    reply_given_when = every.reply_given_when r

  -- 'Show that no second answer satisfies it': whatever two meet a call's contract are equal, in C too.
  pub no_second : {old : X} {a b : Verdict} {x y : X} → Meets call old a x → Meets call old b y → (a ≡ b) × (x ≡ y)
  no_second = every.no_second

  pub no_second_reply : {a b : Answer X} → Replies call a → Replies call b → a ≡ b
  no_second_reply = every.no_second_reply

  pub no_second_code : {old : X} {a b : ℕ} {x y : X} → Coded call old a x → Coded call old b y → (a ≡ b) × (x ≡ y)
  no_second_code = every.no_second_code

-- 'Order: place 1, 2, 6; unpack 1, 2, 5; pack 1, 2, 5, 7; step and open 1, 3, 4, 5; feed 10, 9, 5; read 10, 5; scale 8, 5.' And document 02, K4: 12
-- 'after 8 and 5'. Each buffer has a line of 5, each selector one of 8, with its number as the detail; 7 and 12 have the first index. A template record has
-- only lines of 5, and the plain step no selectors.
module _ (k r : ℕ) where
  pub place_order : (lane i : ℕ) → order_of (place_call k r lane i).refusals ≡ (1, 0) ∷ (2, 0) ∷ (6, 0) ∷ []
  place_order lane i = refl

  pub find_order : (row column : ℕ) → order_of (find_call k r row column).refusals ≡ (1, 0) ∷ (2, 0) ∷ (6, 0) ∷ []
  find_order row column = refl

  pub unpack_order : (words matrix : List ℕ)
      → order_of (unpack_call k r words matrix).refusals ≡ (1, 0) ∷ (2, 0) ∷ (5, 0) ∷ (5, 1) ∷ []
  unpack_order words matrix = refl

  pub pack_order : (matrix words : List ℕ)
      → order_of (pack_call k r matrix words).refusals
      ≡ (1, 0) ∷ (2, 0) ∷ (5, 0) ∷ (5, 1) ∷ (7, first_of (length matrix) (too_wide (bits_at k r) matrix)) ∷ []
  pack_order matrix words = refl

pub record_orders : (bytes words : List ℕ)
    → (order_of (record_read_call bytes words).refusals ≡ (5, 0) ∷ (5, 1) ∷ [])
    × (order_of (record_write_call words bytes).refusals ≡ (5, 0) ∷ (5, 1) ∷ [])
record_orders bytes words = (refl, refl)

module _ (k signs mode : ℕ) (a b c d : List ℕ) where
  pub step_order : order_of (step_call k signs mode a b c d).refusals
      ≡ (1, 0) ∷ (3, 0) ∷ (4, 0) ∷ (5, 0) ∷ (5, 1) ∷ (5, 2) ∷ (5, 3) ∷ []
  step_order = refl

  pub plain_order : order_of (plain_call k a b c d).refusals ≡ (1, 0) ∷ (3, 0) ∷ (5, 0) ∷ (5, 1) ∷ (5, 2) ∷ (5, 3) ∷ []
  plain_order = refl

  pub open_order : order_of (open_call k signs mode c).refusals ≡ (1, 0) ∷ (3, 0) ∷ (4, 0) ∷ (5, 0) ∷ []
  open_order = refl

module _ (run : Run) (a b d : List ℕ) where
  pub feed_order : order_of (feed_call run a b).refusals ≡ (10, 0) ∷ (9, 0) ∷ (5, 0) ∷ (5, 1) ∷ []
  feed_order = refl

  pub read_order : order_of (read_call run d).refusals ≡ (10, 0) ∷ (5, 0) ∷ []
  read_order = refl

  -- document 02, K12: 'marks are read in the order 10, 5'
  pub marks_order : order_of (marks_call run d).refusals ≡ (10, 0) ∷ (5, 0) ∷ []
  marks_order = refl

pub scale_order : (size side byteId threadId : ℕ) (metadata : List ℕ) (output : List ℤ)
    → order_of (scale_call size side byteId threadId metadata output).refusals
    ≡ (8, 0) ∷ (8, 1) ∷ (8, 2) ∷ (8, 3) ∷ (5, 0) ∷ (5, 1)
    ∷ (12, let chosen = chosen_bytes size side byteId threadId metadata in first_of (length chosen) (λ i. not_a_number (get_or chosen i 0)))
    ∷ []
scale_order size side byteId threadId metadata output = refl

-- 'Kinds 1 to 5 are the arithmetic kinds', kind 1 being one-bit and 2 to 5 integer; and document 02, K5, of 11 to 14: 'All four are arithmetic kinds; 13
-- and 14 take modes and signs as kind 1 does.' By these 3, 4 and 10 are given. The table's elements say so, by a test that antt computes over
-- every line.
so : (a b : Bool) → a ≡ true → T (not a || b) → b ≡ true
so true true e t = refl
so true false e t = absurd t
so false b e t = absurd (false≢true e)

module _ (of-line : Entry → Test) (of-kind : (kind : ℕ) → Test) where
  abbrev inside : ℕ → Bool
  inside j = not (holds (of-line (line_at j))) || holds (of-kind (suc j))

  abbrev outside : ℕ → Bool
  outside j = not (holds (of-kind (suc j))) || holds (of-line (line_at j))

  kinds_are : T (all kinds inside) → T (all kinds outside) → (k : ℕ) → 1 ≤ k → k ≤ kinds → Says (of-line (entry_of k)) ↔ Says (of-kind k)
  kinds_are i o k one known =
      let line = of-line (entry_of k) in
      let kind = of-kind (suc (k - 1)) in
      subst (λ (n : ℕ). Says line ↔ Says (of-kind n)) {x = suc (k - 1)} (omega arith) (
        λ p. (says kind).0 (so (holds line) (holds kind) ((says line).1 p) (all_at kinds inside i (k - 1) (omega arith))),
        λ p. (says line).0 (so (holds kind) (holds line) ((says kind).1 p) (all_at kinds outside o (k - 1) (omega arith))),
      )

pub arithmetic_kinds : (k : ℕ) → 1 ≤ k → k ≤ 14 → Says (arithmetic k) ↔ (((1 ≤ k) × (k ≤ 5)) ⊎ ((11 ≤ k) × (k ≤ 14)))
arithmetic_kinds = kinds_are (λ e. within (rank e.element) one_bit_element int4_element) (λ k. either (within k 1 5) (within k 11 14)) tt tt

pub one_bit_kinds : (k : ℕ) → 1 ≤ k → k ≤ 14 → Says (one_bit k) ↔ ((k ≡ 1) ⊎ ((13 ≤ k) × (k ≤ 14)))
one_bit_kinds = kinds_are (λ e. is (rank e.element) one_bit_element) (λ k. either (is k 1) (within k 13 14)) tt tt

pub integer_kinds : (k : ℕ) → 1 ≤ k → k ≤ 14 → Says (integer k) ↔ (((2 ≤ k) × (k ≤ 5)) ⊎ ((11 ≤ k) × (k ≤ 12)))
integer_kinds = kinds_are (λ e. within (rank e.element) int8_element int4_element) (λ k. either (within k 2 5) (within k 11 12)) tt tt

-- C/D elements have 32 bits, except 16 in kind 7 and 64 in kinds 9 and 10; document 02, K5: C as kind 1 for 11 and 12, as kind 2 for 13 and 14.
abbrev pub sum_bits_in : (kind : ℕ) → ℕ
sum_bits_in k = if k =? 7 then 16 else if (k =? 9) || (k =? 10) then 64 else 32

pub sum_bits_lem : (k : ℕ) → 1 ≤ k → k ≤ 14 → bits_at k 2 ≡ sum_bits_in k
sum_bits_lem k low high =
    let back : suc (k - 1) ≡ k = omega arith in
    eqb→eq (bits_at k 2) (sum_bits_in (suc (k - 1))) (all_at kinds (λ j. eqb (bits (line_at j) role_c) (sum_bits_in (suc j))) tt (k - 1) (omega arith))
    ∙ ap sum_bits_in back
