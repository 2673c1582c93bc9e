-- That an answer is the first in order, said line by line as implications between numbers: in this form the toolchain's own search closes the
-- returns of a function that judges. No promise rests on these words: `told_is` and `reply_is` say the same with `first`. Assumes nothing.
use Rattle.std.specs.Prelude.{ℕ, ◌<◌, ◌≤◌, ◌≡◌, Bool, true, false, ◌≢◌, List, [], ◌∷◌}
use Rattle.laws.specs.Choice.{◌=?◌}
use Rattle.answers.specs.Refusals.{Answer, given, refusal}
use Rattle.answers.specs.Tests.{Test, over, under, reaches, is, differs, either, both, unless, somewhere, Says, first_of}
use Rattle.answers.specs.Calls.{Line}

-- Q, if a test holds, or if it does not: an implication for each number compared, a pair where there are two cases
abbrev pub If : Bool → Test → Type 0 → Type 0
If true (over x most) Q = most < x → Q
If false (over x most) Q = x ≤ most → Q
If true (under x least) Q = x < least → Q
If false (under x least) Q = least ≤ x → Q
If true (reaches x limit) Q = limit ≤ x → Q
If false (reaches x limit) Q = x < limit → Q
If true (is x y) Q = x ≡ y → Q
If false (is x y) Q = x ≢ y → Q
If true (differs x needed) Q = x ≢ needed → Q
If false (differs x needed) Q = x ≡ needed → Q
If true (either t u) Q = If true t Q × If true u Q
If false (either t u) Q = If false t (If false u Q)
If true (both t u) Q = If true t (If true u Q)
If false (both t u) Q = If false t Q × If false u Q
If true (unless t) Q = If false t Q
If false (unless t) Q = If true t Q
If true (somewhere n t) Q = first_of n t < n → Q
If false (somewhere n t) Q = n ≤ first_of n t → Q

-- what a test says where it does not hold
abbrev pub Denies : Test → Type 0
Denies (over x most) = x ≤ most
Denies (under x least) = least ≤ x
Denies (reaches x limit) = x < limit
Denies (is x y) = x ≢ y
Denies (differs x needed) = x ≡ needed
Denies (either t u) = Denies t × Denies u
Denies (both t u) = Says t → Denies u
Denies (unless t) = Says t
Denies (somewhere n t) = (i : ℕ) → i < n → Denies (t i)

abbrev pub choose : Bool → Type 0 → Type 0 → Type 0
choose true P Q = P
choose false P Q = Q

-- Refused with n and d, a line with another number does not apply; where one with this number applies, its detail is d, and where it does
-- not, it is so for the rest;
abbrev pub Refuses : List Line → (n d : ℕ) → Type 0
Refuses [] n d = ⊥
Refuses (l ∷ ls) n d =
    choose (l.number =? n)
    (If true l.test (l.detail ≡ d) × If false l.test (Refuses ls n d))
    (If true l.test ⊥ × Refuses ls n d)

-- accepted, no line applies.
abbrev pub Accepts : List Line → Type 0
Accepts [] = Unit {0}
Accepts (l ∷ ls) = If true l.test ⊥ × Accepts ls

-- an answer that is right
abbrev pub Right : {X : Type 0} → List Line → Answer X → Type 0
Right ls (given x) = Accepts ls
Right ls (refusal n d) = Refuses ls n d

-- what was given is x
abbrev pub Given : {X : Type 0} → Answer X → X → Type 0
Given (given y) x = y ≡ x
Given (refusal n d) x = Unit {0}

-- every line is denied: what an accepted call may go by
abbrev pub Passes : List Line → Type 0
Passes [] = Unit {0}
Passes (l ∷ ls) = Denies l.test × Passes ls

-- what a function that only tests returned is not wrong
abbrev pub Told : Test → Bool → Type 0
Told test true = If false test ⊥
Told test false = If true test ⊥
