-- Document 01, 'Bench figures': those with a star, as one table under one statement. Assumes nothing.
use Rattle.std.specs.Prelude.{◌≡◌, List, [], ◌∷◌, ℕ, ◌<◌, ℤ, pos, negsuc, length}
use Rattle.laws.specs.Integers.{int32}
use Rattle.laws.specs.Lists.{tab}
use Rattle.kinds.specs.Kinds.{bits_at, columns_at, rows_at}
use Rattle.answers.specs.Refusals.{given}
use Rattle.kinds.specs.Places.{with_word_and_bit}
use Rattle.places.specs.PlaceCalls.{place_answer, find_answer}
use Rattle.buffers.specs.Buffers.{words_needed}
use Rattle.step_work.specs.Step.{entry_in, stepped}
use Rattle.step.specs.StepCalls.{step_answer}

-- A figure: the place of an element; the reverse question; a step on buffers whose words are all the same, with the number of D.
pub data Figure : Type 0 where
  place : (kind role lane element row column : ℕ) → Figure
  find : (kind role row column lane element : ℕ) → Figure
  step : (kind signs mode wordA wordB wordC : ℕ) → (result : ℤ) → Figure

-- the buffer of a kind and a role with the same word throughout
unfoldable pub uniform : (kind role word : ℕ) → List ℕ
uniform kind role w = tab (words_needed kind role) (λ _. w)

-- the step is accepted
abbrev pub Accepted : (kind signs mode : ℕ) → (a b c : List ℕ) → Type 0
Accepted kind signs mode a b c = step_answer kind signs mode (length a) (length b) (length c) (words_needed kind 2) ≡ given tt

-- D has the number at every row and column
abbrev pub Everywhere : (kind : ℕ) → (d : List ℕ) → (result : ℤ) → Type 0
Everywhere kind d z =
    (row column : ℕ) → row < rows_at kind 2 → column < columns_at kind 2 → int32 (entry_in kind 2 d row column) ≡ z

abbrev pub Steps : (kind signs mode : ℕ) → (a b c : List ℕ) → (result : ℤ) → Type 0
Steps kind signs mode a b c z = Accepted kind signs mode a b c × Everywhere kind (stepped kind signs mode a b c) z

-- what the figure says
abbrev pub Right : Figure → Type 0
Right (place kind role lane i row column) = place_answer kind role lane i ≡ given (with_word_and_bit (bits_at kind role) i (row, column))
Right (find kind role row column lane i) = find_answer kind role row column ≡ given (lane, i)
Right (step kind signs mode a b c z) = Steps kind signs mode (uniform kind 0 a) (uniform kind 1 b) (uniform kind 2 c) z

abbrev pub AllRight : List Figure → Type 0
AllRight [] = Unit {0}
AllRight (f ∷ fs) = Right f × AllRight fs

-- The number -n - 1 is negsuc n, and the word 0x8080_8080 holds -128 four times.
abbrev pub starred : List Figure
starred =
    place 5 0 0 16 0 32
    ∷ place 3 0 5 9 1 21
    ∷ place 6 0 5 1 1 3
    ∷ place 8 0 5 1 9 1
    ∷ place 3 1 31 7 31 7
    ∷ place 2 2 6 3 9 5
    ∷ place 10 1 6 0 2 1
    ∷ find 4 0 9 13 5 13
    ∷ find 9 0 15 7 31 3
    ∷ step 3 0 0 0x8080_8080 0x8080_8080 0 (pos 524_288)
    ∷ step 3 0 0 0x8080_8080 0x8080_8080 2_147_483_647 (negsuc 2_146_959_360)
    ∷ step 3 0 1 0x8080_8080 0x8080_8080 2_147_483_647 (pos 2_147_483_647)
    ∷ step 1 0 0 0xFFFF_FFFF 0 0 (pos 128)
    ∷ step 1 0 1 0xFFFF_FFFF 0 0 (pos 0)
    ∷ step 1 0 0 0xFFFF_FFFF 0 2_147_483_647 (negsuc 2_147_483_520)
    ∷ []
