-- What documents 01 and 02 promise of scale bytes, a sentence above its statement. Assumes nothing.
use mathlib.Core.Path.{◌≡◌, refl, sym, ap, ap₂, subst, ◌∙◌}
use mathlib.Core.Bool.{true}
use mathlib.Core.Logic.{◌↔◌, ◌≢◌, inl, inr}
use mathlib.Core.List.{List, [], ◌∷◌, map}
use Prim.Native.Nat.{ℕ, ◌+◌, ◌*◌, ◌<◌}
use native.Mathlib.Omega.{arith}
use lib.IntN.{ℤ, pos, negsuc, sub_ℕ}
use lib.ListN.{length, get_or, set, take, length-map, get_or-map}
use lib.Signed.{◌≤ℤ◌}
use Rattle.std.specs.Prelude.{Ok}
use Rattle.laws.specs.Lists.{tab}
use Rattle.laws.proofs.Lists.{length_tab, get_d_any, get_or_tab}
use Rattle.kinds.specs.Kinds.{lanes}
use Rattle.answers.specs.Refusals.{Answer, given, refusal, told, Verdict}
use Rattle.answers.specs.Calls.{Line, ◌then◌, judgement, Gives}
use Rattle.answers.specs.Tests.{somewhere, Says, first_true, first_of}
use Rattle.answers.specs.Right.{Passes}
use Rattle.answers.specs.Promised.{Meets}
use Rattle.answers.proofs.Words.{first_somewhere}
use Rattle.answers.proofs.Demand1.{gives_after, verdict_refused_when, accepted_passing, accepted_leaves}
use Rattle.scale.specs.Bytes.{legal_size, legal_side, legal_byte_id, legal_thread_id, takes, chosen_lanes, byte_of, chosen_bytes, exponent, scaled, metadata_length, output_length}
use Rattle.scale.specs.ScaleCall.{legal_refusals, not_a_number, byte_refusals, scale_call}
use Rattle.scale.proofs.Legal.{bytes_fit}
use Rattle.scale.proofs.Laws.{same_bytes, chosen_length, chosen_small, scaled_length, exponent_range}

-- 'Bytes that were not chosen don't matter': two metadata buffers of one length that agree in the chosen bytes make the same call, so that they get the
-- same answer and the same output.
pub chosen_only : (size side byteId threadId : ℕ) (m n : List ℕ) (output : List ℤ) → length m ≡ length n
    → ((lane j : ℕ) → lane < lanes → takes side threadId lane ≡ true → j < size → byte_of (get_or m lane 0) (byteId + j) ≡ byte_of (get_or n lane 0) (byteId + j))
    → scale_call size side byteId threadId m output ≡ scale_call size side byteId threadId n output
unfolding scaled chosen_bytes chosen_lanes
chosen_only size side byteId threadId m n output e h =
    ap₂ (λ (words : ℕ) (chosen : List ℕ). record { refusals = legal_refusals size side byteId threadId words (length output) then byte_refusals chosen; gives = map exponent chosen }) e
    (same_bytes size byteId m n (takes side threadId) (tab lanes (λ l. l))
    (λ i l. subst Agree (sym (get_or_tab lanes (λ l. l) i 0 (lt i l))) (λ j k e. h i j (lt i l) e k)))
  where
    Agree : ℕ → Type 0
    Agree lane = (j : ℕ) → j < size → takes side threadId lane ≡ true → byte_of (get_or m lane 0) (byteId + j) ≡ byte_of (get_or n lane 0) (byteId + j)

    lt : (i : ℕ) → i < length (tab lanes (λ l. l)) → i < lanes
    lt i l = subst (λ (n : ℕ). i < n) (length_tab lanes (λ l. l)) l

-- 'Output: 16 times size numbers on side A, 8 times size on side B', for every thread-id that the side allows.
pub output_length_lem : (size side byteId threadId : ℕ) (m : List ℕ) → Says (legal_thread_id side threadId)
    → length (scaled size side byteId threadId m) ≡ output_length size side
output_length_lem = scaled_length

module _ (size side byteId threadId : ℕ) (metadata : List ℕ) (output : List ℤ) where
  -- the selectors and the lengths are legal
  abbrev pub LegalCall : Type 0
  LegalCall =
      Says (legal_size size) × Says (legal_side side) × Says (legal_byte_id size byteId) × Says (legal_thread_id side threadId)
      × (length metadata ≡ metadata_length) × (length output ≡ output_length size side)

  abbrev chosen : List ℕ
  chosen = chosen_bytes size side byteId threadId metadata

  -- the byte for number i of the output; those for the numbers before n are none of them 255
  abbrev pub byte_for : (i : ℕ) → ℕ
  byte_for i = get_or chosen i 0

  abbrev pub NoneBefore : (n : ℕ) → Type 0
  NoneBefore n = (i : ℕ) → i < n → byte_for i ≢ 255

  as_long : LegalCall → length chosen ≡ length output
  as_long l = chosen_length size side byteId threadId metadata l.3 ∙ sym l.5

  module _ {left : List ℤ} {verdict : Verdict} (m : Meets (scale_call size side byteId threadId metadata output) output verdict left) where
    -- '255 in a chosen byte refuses the call': it is accepted exactly when the selectors and the lengths are legal and no byte for the output is 255;
    pub accepted_exactly : (verdict ≡ Ok tt) ↔ (LegalCall × NoneBefore (length output))
    accepted_exactly = (λ e. there ((accepted_passing m).0 e), λ q. (accepted_passing m).1 (back q))
      where
        there : Passes (scale_call size side byteId threadId metadata output).refusals → LegalCall × NoneBefore (length output)
        there p =
            let l : LegalCall = search p in
            let none : NoneBefore (length chosen) = search p in
            (l, subst NoneBefore (as_long l) none)

        back : LegalCall × NoneBefore (length output) → Passes (scale_call size side byteId threadId metadata output).refusals
        back q = let none = subst NoneBefore (sym (as_long q.0)) q.1 in search (q.0, none)

    -- 'Refusals: 12, with the output index of the first such byte, after 8 and 5';
    pub not_a_number_lem : (d : ℕ) → (told verdict ≡ refusal 12 d) ↔ (LegalCall × (d < length output) × (byte_for d ≡ 255) × NoneBefore d)
    not_a_number_lem d = (λ e. there (after.0 ((verdict_refused_when m 12 d).0 e)), λ q. (verdict_refused_when m 12 d).1 (after.1 (back q)))
      where
        legal : List Line
        legal = legal_refusals size side byteId threadId (length metadata) (length output)

        after : Gives (legal then byte_refusals chosen) 12 d ↔ (Passes legal × Gives (byte_refusals chosen) 12 d)
        after = gives_after (byte_refusals chosen) 12 d legal tt

        first : (Says (somewhere (length chosen) (λ i. not_a_number (byte_for i))) × (first_of (length chosen) (λ i. not_a_number (byte_for i)) ≡ d))
            ↔ ((d < length chosen) × (byte_for d ≡ 255) × NoneBefore d)
        first = first_somewhere (length chosen) (λ i. not_a_number (byte_for i)) d

        there : Passes legal × Gives (byte_refusals chosen) 12 d → LegalCall × (d < length output) × (byte_for d ≡ 255) × NoneBefore d
        there (p, inl x) =
            let l : LegalCall = search p in
            let f = first.0 (x.0, x.2) in
            (l, subst (λ (n : ℕ). d < n) (as_long l) f.0, f.1, f.2)
        there (p, inr x) = absurd x.1

        back : LegalCall × (d < length output) × (byte_for d ≡ 255) × NoneBefore d → Passes legal × Gives (byte_refusals chosen) 12 d
        back q =
            let l = q.0 in
            let f = first.1 (subst (λ (n : ℕ). d < n) (sym (as_long l)) q.1, q.2, q.3) in
            (search l, inl (f.0, refl, f.1))

    -- 'Exponents run from -127 to 127': each number that an accepted call writes is its byte less 127, and lies there.
    pub numbers_written : verdict ≡ Ok tt → (i : ℕ) → i < length output
        → (get_or left i (pos 0) ≡ sub_ℕ (byte_for i) 127) × (sub_ℕ 0 127 ≤ℤ get_or left i (pos 0)) × (get_or left i (pos 0) ≤ℤ pos 127)
    unfolding scaled
    numbers_written e i h =
        let q = accepted_exactly.0 e in
        let l = q.0 in
        let small : byte_for i < 256 = chosen_small size side byteId threadId metadata l.3 (bytes_fit size byteId l.2).0 i (subst (λ (n : ℕ). i < n) l.5 h) in
        let n = q.1 i h in
        let range = exponent_range (byte_for i) (omega (arith, small, n)) in
        let is : get_or left i (pos 0) ≡ exponent (byte_for i) =
        ap (λ (xs : List ℤ). get_or xs i (pos 0)) (accepted_leaves m e)
        ∙ get_d_any (map exponent chosen) i (pos 0) (exponent 0) (subst (λ (n : ℕ). i < n) (sym (length-map chosen exponent ∙ as_long l)) h)
        ∙ get_or-map exponent chosen i 0 in
        (is, subst (λ (z : ℤ). sub_ℕ 0 127 ≤ℤ z) (sym is) range.0, subst (λ (z : ℤ). z ≤ℤ pos 127) (sym is) range.1)

-- Bench figures: metadata word 807F0100 (hexadecimal), size 1, byte-id 0 to 3: -127, -126, 0, 1. Size 2, byte-id 2: 0, 1. Size 2,
-- byte-id 1: refusal 8, detail 2. What lane 0 gives stands first, and every lane holds the word.
abbrev firsts : ℕ × ℕ → List ℤ
firsts f = take f.0 (scaled f.0 0 f.1 0 (tab lanes (λ lane. 2155806976)))

-- a call on side A with thread-id 0
abbrev asked : (size byteId : ℕ) → List ℕ → Answer (Unit {0})
asked size byteId metadata = judgement (scale_call size 0 byteId 0 metadata (tab (16 * size) (λ i. pos 0)))

pub figures :
    (map firsts ((1, 0) ∷ (1, 1) ∷ (1, 2) ∷ (1, 3) ∷ (2, 2) ∷ [])
    ≡ (negsuc 126 ∷ []) ∷ (negsuc 125 ∷ []) ∷ (pos 0 ∷ []) ∷ (pos 1 ∷ []) ∷ (pos 0 ∷ pos 1 ∷ []) ∷ [])
    × (asked 2 1 (tab lanes (λ lane. 2155806976)) ≡ refusal 8 2)
unfolding scaled chosen_bytes chosen_lanes tab
figures = (refl, refl)

-- Document 02, K4: metadata word FF7F0100, size 1, byte-id 3: refusal 12, detail 0; byte-id 0 to 2 are accepted. Size 4 with FF in the third byte of
-- lane 1 only: refusal 12, detail 6; the same metadata with byte-id 0, size 1: accepted.
pub figures_of_255 :
    (map (λ (byteId : ℕ). asked 1 byteId (tab lanes (λ lane. 4286513408))) (3 ∷ 0 ∷ 1 ∷ 2 ∷ []) ≡ refusal 12 0 ∷ given tt ∷ given tt ∷ given tt ∷ [])
    × (map (λ (size : ℕ). asked size 0 (set (tab lanes (λ lane. 0)) 1 16711680)) (4 ∷ 1 ∷ []) ≡ refusal 12 6 ∷ given tt ∷ [])
unfolding scaled chosen_bytes chosen_lanes tab first_true
figures_of_255 = (refl, refl)
