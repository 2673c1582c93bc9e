-- What the workers answer. Assumes nothing.
use Rattle.std.specs.Prelude.{ℕ, [], ◌∷◌}
use Rattle.answers.specs.Tests.{Test, is, both}
use Rattle.answers.specs.Calls.{◌when◌, Call}
use Rattle.kinds.specs.Places.{Place, with_word_and_bit}
use Rattle.kinds.specs.Rule.{Layout, elements_of, majors, minors, place_in, holder_in}
use Rattle.places.specs.PlaceCalls.{element_outside, entry_outside}

-- place and the reverse question in a layout, the latter by its major and minor number
abbrev pub place_call_in : Layout → (lane i : ℕ) → Call Place
place_call_in f lane i = record { refusals = 6 when element_outside (elements_of f) lane i ∷ []; gives = with_word_and_bit f.bits i (place_in f lane i) }

abbrev pub find_call_in : Layout → ℕ × ℕ → Call (ℕ × ℕ)
find_call_in f x = record { refusals = 6 when entry_outside (majors f) (minors f) x.0 x.1 ∷ []; gives = holder_in f x }

-- K10: the tables are for kind 5's A
abbrev pub tabled : (kind role : ℕ) → Test
tabled k r = both (is k 5) (is r 0)
