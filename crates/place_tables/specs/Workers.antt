-- What eight entries of a table are. Assumes nothing.
use Rattle.std.specs.Prelude.{ℕ, zero, suc, ◌*◌, ◌/◌, ◌≡◌, List, [], ◌∷◌, get_or}
use Rattle.laws.specs.Choice.{NoneBelow}

-- so many numbers that a rule gives, from n on
abbrev pub in_a_row : (count : ℕ) → (rule : ℕ → ℕ) → (n : ℕ) → List ℕ
in_a_row zero rule n = []
in_a_row (suc k) rule n = rule n ∷ in_a_row k rule (suc n)

-- which eight they are, by where the first of them stands in the reverse
abbrev pub number_of : (reverse : ℕ → ℕ) → (eight : List ℕ) → ℕ
number_of reverse eight = reverse (get_or eight 0 0) / 8

-- The eight entries from 8 n on of the table that a rule gives: they are the rule's from 8 times their number on, and n is that number, if
-- what is none of the numbers before the last is the last. In this form the prover closes every branch by computing alone.
pub record EightOf (rule reverse : ℕ → ℕ) (n : ℕ) (eight : List ℕ) : Type 0 where
  pub number_is : (NoneBelow 127 n → n ≡ 127) → n ≡ number_of reverse eight
  pub entries_are : eight ≡ in_a_row 8 rule (8 * number_of reverse eight)
