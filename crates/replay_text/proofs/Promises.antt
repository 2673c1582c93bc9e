-- What document 02, K2, promises of the replay of logged steps, a sentence above its statement. Assumes nothing.
use mathlib.Core.Path.{◌≡◌, refl, sym, ap, ap₂, subst, ◌∙◌}
use mathlib.Core.Logic.{◌↔◌, ◌≢◌, inl, inr, ⊎_elim}
use mathlib.Core.List.{List, [], ◌∷◌, ◌++◌}
use Prim.Native.Nat.{ℕ, ◌+◌, ◌*◌, ◌%◌, ◌<◌}
use native.Mathlib.Omega.{arith}
use lib.ListN.{length}
use Rattle.std.specs.Prelude.{Option, Some, None, Result, Ok, Err}
use Rattle.laws.proofs.Unique.{one_answer}
use Rattle.answers.specs.declared.Refusal.{Refusal}
use Rattle.answers.specs.Refusals.{Answer, given, refusal}
use Rattle.answers.specs.Tests.{Says}
use Rattle.answers.specs.Calls.{answer, order_of, Gives, NoneSays}
use Rattle.answers.specs.Right.{Passes}
use Rattle.answers.specs.Promised.{Replies}
use Rattle.answers.proofs.Shows.{passes, passing, goes_on, first_gives}
use Rattle.answers.proofs.Demand1.{refused_when, given_when, reply_is}
use Rattle.answers.proofs.Refusals.{refusal_of, refusal_back}
use Rattle.kinds.specs.Kinds.{rows_at, columns_at}
use Rattle.buffers.specs.Buffers.{Fitting}
use Rattle.step_work.specs.Step.{entry_in, result_at, stepped}
use Rattle.step_work.specs.Workers.{Ready}
use Rattle.step_work.proofs.Matrices.{legal, stepped_length, stepped_lt}
use Rattle.step.specs.StepCalls.{bad_selectors, selector_refusals, buffer_refusals, step_call, plain_call}
use Rattle.step.proofs.Accepted.{ready}
use Rattle.step.proofs.Promises.{result_at_lem}
use Rattle.records.specs.Records.{record_bytes, kind_in, signs_in, mode_in, reserved, part_a, part_b, part_c, part_d, logged, not_zero, of_arithmetic, unused_not_zero, asks_plain, mode_asked, record_refusals}
use Rattle.records.proofs.Laws.{logged_length, logged_lt, for_own, for_plain}
use Rattle.replay_text.specs.Verdicts.{right_d, Compared, ok, wrong, compared, FirstDiffering, replay_call, verdict_of, told_replay}
use Rattle.replay_text.specs.Text.{record_at, lines_of, whole_records, printed_from, printed}
use Rattle.replay_text.specs.declared.Wrong.{Wrong}
use Rattle.replay_text.proofs.Compared as two
use Rattle.replay_text.proofs.Lines as lines

module _ (bytes : List ℕ) where
  abbrev kind : ℕ
  kind = kind_in bytes

  abbrev signs : ℕ
  signs = signs_in bytes

  abbrev mode : ℕ
  mode = mode_in bytes

  -- '11, a reserved byte or unused tail not zero, comes before 1; the others keep 01's order.'
  pub record_order : order_of (record_refusals bytes) ≡ (11, 0) ∷ (1, 0) ∷ (3, 0) ∷ (4, 0) ∷ []
  record_order = refl

  -- `refused n` exactly when n is the first in order that applies.
  pub refused_exactly_when : (n d : ℕ) → (verdict_of bytes ≡ refusal n d) ↔ Gives (record_refusals bytes) n d
  unfolding verdict_of
  refused_exactly_when = refused_when (replay_call bytes)

  -- a verdict that is no refusal is what was compared
  not_refused : (x : Compared) → (verdict_of bytes ≡ given x) ↔ (NoneSays (record_refusals bytes) × (compared kind (logged part_d bytes) (right_d bytes) ≡ x))
  unfolding verdict_of
  not_refused x = (there, λ p. (given_when (replay_call bytes)).1 p.0 ∙ ap given p.1)
    where
      there : answer (replay_call bytes) ≡ given x → NoneSays (record_refusals bytes) × (compared kind (logged part_d bytes) (right_d bytes) ≡ x)
      there e =
          let is = first_gives (record_refusals bytes) (replay_call bytes).gives (sym e) in
          ((given_when (replay_call bytes)).0 (e ∙ ap given is), sym is)

  -- what was not refused has a kind and selectors that a step takes
  accepted : NoneSays (record_refusals bytes) → Passes (record_refusals bytes)
  accepted none = passes (record_refusals bytes) (replay_call bytes).gives ((given_when (replay_call bytes)).1 none)

  taken : NoneSays (record_refusals bytes) → Ready kind signs (mode_asked bytes)
  taken none = ready kind signs (mode_asked bytes) (accepted none).1

  -- 'The verdict is `ok` exactly when the record isn't refused and D is the right answer', every word of it.
  pub ok_exactly_when : Fitting 8 bytes → (verdict_of bytes ≡ given ok) ↔ (NoneSays (record_refusals bytes) × (logged part_d bytes ≡ right_d bytes))
  unfolding right_d
  ok_exactly_when fit =
      (λ e. let p = (not_refused ok).0 e in (p.0, (same p.0).0 p.1), λ p. (not_refused ok).1 (p.0, (same p.0).1 p.1))
    where
      same : NoneSays (record_refusals bytes) → (compared kind (logged part_d bytes) (right_d bytes) ≡ ok) ↔ (logged part_d bytes ≡ right_d bytes)
      same none =
          let of = (taken none).of in
          two.ok_when kind (legal kind of 2 (omega arith)) (logged part_d bytes) (right_d bytes)
          (λ x _. logged_lt bytes fit part_d x) (λ x _. stepped_lt kind of signs (mode_asked bytes) _ _ _ x)
          (logged_length part_d bytes) (stepped_length kind of signs (mode_asked bytes) _ _ _)

  -- '`wrong` with the first differing row and column in row-major order': exactly when it isn't refused, the matrices differ at (r, c), and agree
  -- at every place before it.
  pub wrong_exactly_when : (row column : ℕ)
      → (verdict_of bytes ≡ given (wrong row column)) ↔ (NoneSays (record_refusals bytes) × FirstDiffering kind (logged part_d bytes) (right_d bytes) row column)
  wrong_exactly_when row column =
      (λ e. let p = (not_refused (wrong row column)).0 e in (p.0, (same p.0).0 p.1), λ p. (not_refused (wrong row column)).1 (p.0, (same p.0).1 p.1))
    where
      same : NoneSays (record_refusals bytes)
          → (compared kind (logged part_d bytes) (right_d bytes) ≡ wrong row column) ↔ FirstDiffering kind (logged part_d bytes) (right_d bytes) row column
      same none = two.wrong_when kind (legal kind (taken none).of 2 (omega arith)) (logged part_d bytes) (right_d bytes) row column

  -- 'Work out D from its own selectors, A, B and C': the right answer is what the step gives for these words,
  module _ (none : NoneSays (record_refusals bytes)) where
    lengths : Passes (buffer_refusals kind (length (logged part_a bytes)) (length (logged part_b bytes)) (length (logged part_c bytes)) (length (logged part_d bytes)))
    lengths = (logged_length part_a bytes, (logged_length part_b bytes, (logged_length part_c bytes, (logged_length part_d bytes, tt))))

    as_asked : (m : ℕ) → mode_asked bytes ≡ m
        → answer (step_call kind signs m (logged part_a bytes) (logged part_b bytes) (logged part_c bytes) (logged part_d bytes)) ≡ given (right_d bytes)
    unfolding right_d
    as_asked m e =
        let rest = buffer_refusals kind (length (logged part_a bytes)) (length (logged part_b bytes)) (length (logged part_c bytes)) (length (logged part_d bytes)) in
        subst
        (λ (m : ℕ). answer (step_call kind signs m (logged part_a bytes) (logged part_b bytes) (logged part_c bytes) (logged part_d bytes)) ≡ given (right_d bytes))
        e
        (goes_on (selector_refusals kind signs (mode_asked bytes)) rest (right_d bytes) (accepted none).1 ∙ passing rest (right_d bytes) lengths)

    pub right_by_step : ¬ Says (asks_plain signs mode)
        → answer (step_call kind signs mode (logged part_a bytes) (logged part_b bytes) (logged part_c bytes) (logged part_d bytes)) ≡ given (right_d bytes)
    right_by_step own = as_asked mode (for_own signs mode own)

    -- and 'mode byte 255 with signs 0 asks for the plain step'.
    pub right_by_plain_step : Says (asks_plain signs mode)
        → answer (plain_call kind (logged part_a bytes) (logged part_b bytes) (logged part_c bytes) (logged part_d bytes)) ≡ given (right_d bytes)
    unfolding right_d
    right_by_plain_step plain =
        let call = plain_call kind (logged part_a bytes) (logged part_b bytes) (logged part_c bytes) (logged part_d bytes) in
        passing call.refusals call.gives ((accepted none).1.0, ((accepted none).1.1.0, lengths))
        ∙ ap given (ap₂ (λ (s m : ℕ). stepped kind s m (logged part_a bytes) (logged part_b bytes) (logged part_c bytes)) (sym plain.0) (sym (for_plain signs mode plain)))

    -- So the right matrix has at every row and column what the rules of a step say.
    pub right_at : (row column : ℕ) → row < rows_at kind 2 → column < columns_at kind 2
        → entry_in kind 2 (right_d bytes) row column
        ≡ result_at kind signs (mode_asked bytes) (logged part_a bytes) (logged part_b bytes) (logged part_c bytes) row column
    unfolding right_d
    right_at row column hr hc = result_at_lem kind signs (mode_asked bytes) (taken none) (logged part_a bytes) (logged part_b bytes) (logged part_c bytes) row column hr hc

  -- 255 with other signs is 4.
  pub plain_with_signs : mode ≡ 255 → signs ≢ 0 → Says (bad_selectors kind signs (mode_asked bytes))
  plain_with_signs e n = inl (inr (omega (arith, for_own signs mode (λ p. n p.0), e)))

  -- 'Tails are looked at only in arithmetic kinds', reserved bytes in every kind.
  pub tails_elsewhere : ¬ Says (of_arithmetic kind) → Says (unused_not_zero bytes) ↔ Says (not_zero (reserved bytes))
  tails_elsewhere other = (⊎_elim (λ r. r) (λ t. absurd (other t.0)), inl)

-- No second verdict meets the contract.
abbrev pub Replayed : Type 0
Replayed = Result (Option Wrong) Refusal

replayed_of : Answer Compared → Replayed
replayed_of (given ok) = Ok None
replayed_of (given (wrong row column)) = Ok (Some (record { row = record { 0 = row }; column = record { 0 = column } }))
replayed_of (refusal n d) = Err (refusal_of n d)

replayed_back : (a : Replayed) → replayed_of (told_replay a) ≡ a
unfolding replayed_of
replayed_back (Ok None) = refl
replayed_back (Ok (Some w)) = refl
replayed_back (Err x) = ap Err (refusal_back x)

pub one_verdict : (bytes : List ℕ) (a b : Replayed) → Replies (replay_call bytes) (told_replay a) → Replies (replay_call bytes) (told_replay b) → a ≡ b
one_verdict bytes a b r s = one_answer told_replay replayed_of replayed_back a b (answer (replay_call bytes)) (reply_is r) (reply_is s)

-- 'For each its number, from 0': the text of two stretches of whole records is the two texts one after the other, the second counted on.
pub joined : (number : ℕ) (whole rest : List ℕ) → length whole % record_bytes ≡ 0
    → printed_from number (whole ++ rest) ≡ printed_from number whole ++ printed_from (number + whole_records whole) rest
joined number whole rest w = lines.printed_joined whole rest number w

-- 'A part record at the end counts as absent', and an empty file prints nothing.
pub part_absent : (whole part : List ℕ) → length whole % record_bytes ≡ 0 → length part < record_bytes → printed (whole ++ part) ≡ printed whole
part_absent whole part w short = lines.part_absent whole part 0 w short

pub empty : printed [] ≡ []
unfolding lines_of
empty = refl

-- A verdict depends on its own record alone.
pub own_record : (before bytes after : List ℕ) (i : ℕ) → length before ≡ record_bytes * i → length bytes ≡ record_bytes
    → verdict_of (record_at (before ++ (bytes ++ after)) i) ≡ verdict_of bytes
own_record before bytes after i e n = ap verdict_of (lines.record_own before bytes after i e n)
