-- A refusal is its number and detail, so that two verdicts that are told alike are equal. Assumes nothing.
use mathlib.Core.Path.{◌≡◌, refl, ap}
use mathlib.Core.List.{[], ◌∷◌}
use Prim.Native.Nat.{ℕ, ◌<◌, ◌≤◌}
use native.Mathlib.Omega.{arith}
use lib.ListN.{get_or}
use Rattle.laws.proofs.Unique.{one_answer}
use Rattle.std.specs.Prelude.{Ok, Err}
use Rattle.answers.specs.Refusals.{Answer, given, refusal, number_of, detail_of, told, Verdict}
use Rattle.answers.specs.declared.Refusal.{Refusal}
use Rattle.answers.specs.declared.Refusal.TheVariants.{UnknownKind, UnknownRole, NotArithmetic, BadSelectors, WrongLength, Outside, TooWide, BadScale, RunFull, BadRun, UnusedNotZero, ScaleNan}

-- no two of the enum have the same; none has 0
pub refusal_of : ℕ → ℕ → Refusal
refusal_of n d =
    get_or (UnknownKind ∷ UnknownKind ∷ UnknownRole ∷ NotArithmetic ∷ BadSelectors ∷ WrongLength d ∷ Outside ∷ TooWide d ∷ BadScale d ∷ RunFull ∷ BadRun ∷ UnusedNotZero ∷ ScaleNan d ∷ []) n UnknownKind

pub refusal_back : (f : Refusal) → refusal_of (number_of f) (detail_of f) ≡ f
unfolding refusal_of
refusal_back UnknownKind = refl
refusal_back UnknownRole = refl
refusal_back NotArithmetic = refl
refusal_back BadSelectors = refl
refusal_back (WrongLength b) = refl
refusal_back Outside = refl
refusal_back (TooWide i) = refl
refusal_back (BadScale s) = refl
refusal_back RunFull = refl
refusal_back BadRun = refl
refusal_back UnusedNotZero = refl
refusal_back (ScaleNan i) = refl

-- every number is 1 to 12
pub number_range : (f : Refusal) → (0 < number_of f) × (number_of f ≤ 12)
number_range UnknownKind = (omega arith, omega arith)
number_range UnknownRole = (omega arith, omega arith)
number_range NotArithmetic = (omega arith, omega arith)
number_range BadSelectors = (omega arith, omega arith)
number_range (WrongLength b) = (omega arith, omega arith)
number_range Outside = (omega arith, omega arith)
number_range (TooWide i) = (omega arith, omega arith)
number_range (BadScale s) = (omega arith, omega arith)
number_range RunFull = (omega arith, omega arith)
number_range BadRun = (omega arith, omega arith)
number_range UnusedNotZero = (omega arith, omega arith)
number_range (ScaleNan i) = (omega arith, omega arith)

verdict_of : Answer (Unit {0}) → Verdict
verdict_of (given x) = (Ok tt)
verdict_of (refusal n d) = Err (refusal_of n d)

verdict_back : (a : Verdict) → verdict_of (told a) ≡ a
unfolding verdict_of
verdict_back (Ok tt) = refl
verdict_back (Err f) = ap Err (refusal_back f)

pub one_verdict : (a b : Verdict) (q : Answer (Unit {0})) → told a ≡ q → told b ≡ q → a ≡ b
one_verdict = one_answer told verdict_of verdict_back
