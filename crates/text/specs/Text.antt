-- A text put into a buffer, a number as text, and the words that the programs print, in ASCII. Assumes nothing.
use Rattle.std.specs.Prelude.{ℕ, zero, suc, ◌+◌, ◌/◌, ◌%◌, ◌≤◌, ◌≡◌, List, [], ◌∷◌, ◌++◌, length, take, drop, if◌then◌else◌}
use Rattle.laws.specs.Choice.{◌<?◌}
use Rattle.text.specs.declared.Text.{Text}

abbrev pub digit : ℕ → ℕ
digit n = 48 + n

-- a number in decimal, with no zero in front, of at most so many digits
unfoldable pub decimal_in : (most n : ℕ) → List ℕ
decimal_in zero n = []
decimal_in (suc most) n = if n <? 10 then digit n ∷ [] else decimal_in most (n / 10) ++ (digit (n % 10) ∷ [])

-- a 64-bit number, which has at most 20 digits
abbrev pub decimal : ℕ → List ℕ
decimal n = decimal_in 20 n

abbrev pub space : ℕ
space = 32

abbrev pub newline : ℕ
newline = 10

-- `refused`, a space and a number, and a newline
abbrev pub refused_text : List ℕ
refused_text = 114 ∷ 101 ∷ 102 ∷ 117 ∷ 115 ∷ 101 ∷ 100 ∷ space ∷ []

unfoldable pub refused_line : (number : ℕ) → List ℕ
refused_line number = refused_text ++ decimal number ++ (newline ∷ [])

-- a text was put into a buffer at a place: before the new end stands what stood before the place, and the text; behind it, what stood there
pub record Put (text : List ℕ) (before : List ℕ) (at : ℕ) (after : List ℕ) (end : ℕ) : Type 0 where
  pub says : take end after ≡ take at before ++ text
  pub ends : end ≡ at + length text
  pub behind : drop end after ≡ drop end before
  pub keeps : length after ≡ length before

-- so many bytes more fit behind a text
abbrev pub HasRoom : (n : ℕ) → Text → Type 0
HasRoom n text = text.len + n ≤ length text.out.now

-- bytes were pushed behind a text, in the same buffer
pub record Pushed (bytes : List ℕ) (old new : Text) : Type 0 where
  pub put : Put bytes old.out.now old.len new.out.now new.len
  pub same_buffer : new.out.ghost_name ≡ old.out.ghost_name
