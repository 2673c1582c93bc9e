-- What the numbers of every layout of the table have. Assumes nothing.
use Rattle.std.specs.Prelude.{ℕ, ◌*◌, ◌/◌, ◌<◌, ◌≤◌, ◌≡◌}
use Rattle.kinds.specs.Kinds.{word_bits}
use Rattle.kinds.specs.Rule.{Layout}

-- a width at which elements fill words evenly, or a word's double
pub record Width (b : ℕ) : Type 0 where
  pub pos : 0 < b
  pub le : b ≤ 64
  pub narrow : (b ≡ 64 → ⊥) → b * (word_bits / b) ≡ word_bits

pub record Sane (bits words side halves spans : ℕ) : Type 0 where
  pub width : Width bits
  pub words_pos : 0 < words
  pub words_le : words ≤ 8
  pub side_pos : 0 < side
  pub side_le : side ≤ 32
  pub halves_pos : 0 < halves
  pub halves_le : halves ≤ 2
  pub spans_pos : 0 < spans
  pub spans_le : spans ≤ 2
  pub groups_le : spans * halves ≤ 4
  pub elements_le : spans * halves * side ≤ 128
  pub minors_le : spans * 4 * side ≤ 256
  pub full : bits * (spans * halves * side) ≡ word_bits * words
  pub narrow_side : bits < word_bits → side ≡ word_bits / bits
  pub wide_side : word_bits ≤ bits → side ≤ 2

abbrev pub Laid : Layout → Type 0
Laid f = Sane f.bits f.words f.side f.halves f.spans
