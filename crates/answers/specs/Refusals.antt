-- Document 01, 'Refusal numbers', and of 11 and 12 document 02, K2 and K4: the numbers, the details, and what a verdict tells. Assumes nothing.
use Rattle.std.specs.Prelude.{ℕ, Result, Ok, Err}
use Rattle.answers.specs.declared.Refusal.{Refusal}
use Rattle.answers.specs.declared.Refusal.TheVariants.{UnknownKind, UnknownRole, NotArithmetic, BadSelectors, WrongLength, Outside, TooWide, BadScale, RunFull, BadRun, UnusedNotZero, ScaleNan}

-- What a call answers, in this paper's numbers: what it gives, or a refusal, which is its number and detail.
pub data Answer (X : Type 0) : Type 0 where
  given : X → Answer X
  refusal : (number detail : ℕ) → Answer X

abbrev pub number_of : Refusal → ℕ
number_of UnknownKind = 1
number_of UnknownRole = 2
number_of NotArithmetic = 3
number_of BadSelectors = 4
number_of (WrongLength buffer) = 5
number_of Outside = 6
number_of (TooWide index) = 7
number_of (BadScale selector) = 8
number_of RunFull = 9
number_of BadRun = 10
number_of UnusedNotZero = 11
number_of (ScaleNan index) = 12

abbrev pub detail_of : Refusal → ℕ
detail_of UnknownKind = 0
detail_of UnknownRole = 0
detail_of NotArithmetic = 0
detail_of BadSelectors = 0
detail_of (WrongLength buffer) = buffer
detail_of Outside = 0
detail_of (TooWide index) = index
detail_of (BadScale selector) = selector
detail_of RunFull = 0
detail_of BadRun = 0
detail_of UnusedNotZero = 0
detail_of (ScaleNan index) = index

abbrev pub refused : {X : Type 0} → Refusal → Answer X
refused f = refusal (number_of f) (detail_of f)

-- what each case of a result means
abbrev pub told : {X : Type 0} → Result X Refusal → Answer X
told (Ok x) = given x
told (Err f) = refused f

-- the result of a call that gives nothing back but what it writes
abbrev pub Verdict : Type 0
Verdict = Result (Unit {0}) Refusal

-- It writes nothing: what a buffer holds on return, from what an accepted call makes of it and what it held before.
abbrev pub after : {X B : Type 0} → Answer X → (new old : B) → B
after (given x) new old = new
after (refusal number detail) new old = old
