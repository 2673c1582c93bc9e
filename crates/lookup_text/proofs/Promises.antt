-- What document 01, 'The lookup program', promises of what is printed, a sentence above its statement. Assumes nothing.
use mathlib.Core.Path.{◌≡◌, refl}
use mathlib.Core.List.{List, [], ◌∷◌, ◌++◌}
use Prim.Native.Nat.{ℕ, ◌%◌}
use lib.ListN.{length}
use Rattle.kinds.specs.Places.{place_of, word_within, lowest_bit}
use Rattle.places.specs.PlaceCalls.{place_answer}
use Rattle.text.specs.Text.{decimal_in}
use Rattle.lookup_text.specs.Text.{line_of, printed}
use Rattle.lookup_text.proofs.Laws as laws

-- Read in pieces that end at whole records, an input prints what it prints read at once.
pub printed_joined : (whole rest : List ℕ) → length whole % 4 ≡ 0
    → printed (whole ++ rest) ≡ printed whole ++ printed rest
printed_joined = laws.printed_joined

-- The input of document 01's example prints `15 63 3 28`, `9 1 1 0`, `0 0 0 0` (document 02, K9) and `short record`, each with a newline.
pub example : printed (5 ∷ 0 ∷ 31 ∷ 31 ∷ 8 ∷ 0 ∷ 5 ∷ 1 ∷ 11 ∷ 0 ∷ 0 ∷ 0 ∷ 1 ∷ [])
    ≡ 49 ∷ 53 ∷ 32 ∷ 54 ∷ 51 ∷ 32 ∷ 51 ∷ 32 ∷ 50 ∷ 56 ∷ 10
    ∷ 57 ∷ 32 ∷ 49 ∷ 32 ∷ 49 ∷ 32 ∷ 48 ∷ 10
    ∷ 48 ∷ 32 ∷ 48 ∷ 32 ∷ 48 ∷ 32 ∷ 48 ∷ 10
    ∷ 115 ∷ 104 ∷ 111 ∷ 114 ∷ 116 ∷ 32 ∷ 114 ∷ 101 ∷ 99 ∷ 111 ∷ 114 ∷ 100 ∷ 10 ∷ []
unfolding printed line_of decimal_in place_answer place_of word_within lowest_bit
example = refl
