-- Document 01, 'The lookup program', and document 02, K9: what it prints, as a list of bytes. Assumes nothing.
use Rattle.std.specs.Prelude.{ℕ, List, [], ◌∷◌, ◌++◌}
use Rattle.text.specs.Text.{decimal, space, newline, refused_line}
use Rattle.answers.specs.Refusals.{Answer, given, refusal}
use Rattle.kinds.specs.Places.{Place}
use Rattle.places.specs.PlaceCalls.{place_answer}

-- `short record`, and a newline
abbrev pub short_text : List ℕ
short_text = 115 ∷ 104 ∷ 111 ∷ 114 ∷ 116 ∷ space ∷ 114 ∷ 101 ∷ 99 ∷ 111 ∷ 114 ∷ 100 ∷ newline ∷ []

-- For each record it prints row, column, word and bit, with a space between two, and a newline, or `refused` with a space and the number.
unfoldable pub line_of : Answer Place → List ℕ
line_of (given x) = decimal x.0 ++ (space ∷ decimal x.1) ++ (space ∷ decimal x.2) ++ (space ∷ decimal x.3) ++ (newline ∷ [])
line_of (refusal number detail) = refused_line number

-- Records of 4 bytes, no header: kind, role, lane, element. One to three bytes left at the end print `short record`. Empty input prints
-- nothing.
unfoldable pub printed : List ℕ → List ℕ
printed [] = []
printed (_ ∷ []) = short_text
printed (_ ∷ _ ∷ []) = short_text
printed (_ ∷ _ ∷ _ ∷ []) = short_text
printed (kind ∷ role ∷ lane ∷ element ∷ rest) = line_of (place_answer kind role lane element) ++ printed rest
