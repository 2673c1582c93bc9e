-- Document 02, K3: what the workers of the four-bit kinds ask for. Assumes nothing.
use Rattle.std.specs.Prelude.{ℕ, ◌+◌, ◌*◌, ◌/◌, ◌%◌, ◌^◌, ◌<◌, ◌≡◌, List, get_or}
use Rattle.kinds.specs.Rule.{minors}
use Rattle.kinds.specs.declared.Layouts.{Layouts}
use Rattle.step_products.specs.declared.Offsets.{Offsets}

-- bit i of a digit, over a whole byte
abbrev pub spread_bit : (i digit : ℕ) → ℕ
spread_bit i digit = 255 * (digit / 2 ^ i % 2)

-- the four planes of the digits y, one after another
abbrev pub Planes : (y p : List ℕ) → Type 0
Planes y p = (i j : ℕ) → i < 4 → j < 512 → get_or p (i * 512 + j) 0 ≡ spread_bit i (get_or y j 0)

-- n digits from i on have four bits
abbrev pub Small : (n i : ℕ) → List ℕ → Type 0
Small n i x = (k : ℕ) → k < n → get_or x (i + k) 0 < 16

-- layouts, offsets and digits of a four-bit kind
pub record Nibbled (l : Layouts) (h : Offsets) (x y : List ℕ) : Type 0 where
  pub side : l.a.side ≡ 8
  pub spans_pos : 0 < l.a.spans
  pub offset_a : h.a < 16
  pub offset_b : h.b < 16
  pub rows : (row : ℕ) → row < l.c.halves * 8 → Small (minors l.a) (row * minors l.a) x
  pub columns : (column : ℕ) → column < 8 → Small (minors l.a) (column * minors l.a) y
