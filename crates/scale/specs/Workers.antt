-- The selectors of a legal call as the workers hold them, and what the workers answer. Assumes nothing.
use Rattle.std.specs.Prelude.{ℕ, ◌≡◌, List, [], ◌∷◌, map, ℤ, Result, MatchResult, is_ok}
use Rattle.answers.specs.Tests.{Test, differs, unless}
use Rattle.answers.specs.Calls.{Line, Call, ◌at◌when◌}
use Rattle.answers.specs.Right.{Told}
use Rattle.answers.specs.declared.Refusal.{Refusal}
use Rattle.scale.specs.Bytes.{legal_size, legal_side, legal_byte_id, legal_thread_id, metadata_length, output_length, exponent}
use Rattle.scale.specs.ScaleCall.{byte_refusals}
use Rattle.scale.specs.declared.selectors.Width.{Width}
use Rattle.scale.specs.declared.selectors.Width.TheVariants.{One, Two, Four}
use Rattle.scale.specs.declared.selectors.Operand.{Operand}
use Rattle.scale.specs.declared.selectors.Operand.TheVariants.{A, B}

-- the size and the side that these are
abbrev pub size_of : Width → ℕ
size_of One = 1
size_of Two = 2
size_of Four = 4

abbrev pub side_of : Operand → ℕ
side_of A = 0
side_of B = 1

-- the lanes that each quad gives
abbrev pub lanes_of : Operand → ℕ
lanes_of A = 2
lanes_of B = 1

-- a number judged by a test: it is that of what was made of it, or it is refused so
abbrev pub Judged : {X : Type 0} → Test → (X → ℕ) → (number : ℕ) → Refusal → Result X Refusal → Type 0
Judged test number_of number refusal r = Told test (is_ok r) × MatchResult r (λ x. number_of x ≡ number) (λ f. f ≡ refusal)

-- the refusals of the selectors, and those of the lengths
abbrev pub selector_refusals : (size side byteId threadId : ℕ) → List Line
selector_refusals size side byteId threadId =
    8 at 0 when unless (legal_size size)
    ∷ 8 at 1 when unless (legal_side side)
    ∷ 8 at 2 when unless (legal_byte_id size byteId)
    ∷ 8 at 3 when unless (legal_thread_id side threadId)
    ∷ []

abbrev pub length_refusals : (size side metadata output : ℕ) → List Line
length_refusals size side metadata output =
    5 at 0 when differs metadata metadata_length
    ∷ 5 at 1 when differs output (output_length size side)
    ∷ []

-- the call of chosen bytes
abbrev pub bytes_call : (chosen : List ℕ) → Call (List ℤ)
bytes_call chosen = record { refusals = byte_refusals chosen; gives = map exponent chosen }
