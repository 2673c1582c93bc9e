-- Document 01, 'Refusal numbers': a call as a value, its refusals in their order and what it gives where none applies. Assumes nothing.
use Rattle.std.specs.Prelude.{ℕ, ◌≡◌, ◌⊎◌, List, [], ◌∷◌, if◌then◌else◌}
use Rattle.answers.specs.Refusals.{Answer, given, refusal, after}
use Rattle.answers.specs.Tests.{Test, somewhere, holds, Says, first_of}

-- a line of the table: when it is given, its number and its detail
pub record Line : Type 0 where
  pub test : Test
  pub number : ℕ
  pub detail : ℕ

infix 80 ◌when◌
infix 80 ◌at◌when◌
infix 80 ◌at_first_below◌when◌
-- with no detail; with a detail; with the first index below a number as the detail
abbrev pub ◌when◌ : (number : ℕ) → Test → Line
◌when◌ number t = record { test = t; number = number; detail = 0 }

abbrev pub ◌at◌when◌ : (number detail : ℕ) → Test → Line
◌at◌when◌ number detail t = record { test = t; number = number; detail = detail }

abbrev pub ◌at_first_below◌when◌ : (number n : ℕ) → (ℕ → Test) → Line
◌at_first_below◌when◌ number n t = record { test = somewhere n t; number = number; detail = first_of n t }

-- lines that several calls begin with, and the rest
infixr 60 ◌then◌
abbrev pub ◌then◌ : List Line → List Line → List Line
◌then◌ [] rest = rest
◌then◌ (l ∷ ls) rest = l ∷ (ls then rest)

-- number and detail of each, in order
abbrev pub order_of : List Line → List (ℕ × ℕ)
order_of [] = []
order_of (l ∷ ls) = (l.number, l.detail) ∷ order_of ls

-- 'Where several apply, the first in order is given.'
abbrev pub first : {X : Type 0} → List Line → X → Answer X
first [] x = given x
first (l ∷ ls) x = if holds l.test then refusal l.number l.detail else first ls x

pub record Call (X : Type 0) : Type 0 where
  pub refusals : List Line
  pub gives : X

abbrev pub answer : {X : Type 0} → Call X → Answer X
answer call = first call.refusals call.gives

-- the same call, giving what f makes of it
abbrev pub giving : {X Y : Type 0} → (X → Y) → Call X → Call Y
giving f call = record { refusals = call.refusals; gives = f call.gives }

-- its judgement alone, and that of its lines
abbrev pub judged_by : List Line → Answer (Unit {0})
judged_by ls = first ls tt

abbrev pub judgement : {X : Type 0} → Call X → Answer (Unit {0})
judgement call = judged_by call.refusals

-- what it leaves: what it gives, or, where it refuses, old, which it was given
abbrev pub left_by : {X : Type 0} → Call X → (old : X) → X
left_by call old = after (judgement call) call.gives old

-- the first of the lines that says so has this number and detail: it does, and no earlier one does
abbrev pub Gives : List Line → (number detail : ℕ) → Type 0
Gives [] n d = ⊥
Gives (l ∷ ls) n d = (Says l.test × (l.number ≡ n) × (l.detail ≡ d)) ⊎ ((¬ Says l.test) × Gives ls n d)

-- none of them says so
abbrev pub NoneSays : List Line → Type 0
NoneSays [] = Unit {0}
NoneSays (l ∷ ls) = (¬ Says l.test) × NoneSays ls
