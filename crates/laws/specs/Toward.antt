-- A buffer filled in any order, toward a list that it is to hold. Assumes nothing.
use Rattle.std.specs.Prelude.{◌≡◌, List, ℕ, zero, suc, ◌+◌, ◌*◌, ◌<◌, length, get_or, set}

-- xs holds at x what u holds there
abbrev pub Alike : (u xs : List ℕ) → ℕ → Type 0
Alike u xs x = get_or xs x 0 ≡ get_or u x 0

-- a buffer that was xs and is ys: like u at every index of P, and still like u wherever it was
pub record Brings (u : List ℕ) (P : ℕ → Type 0) (xs ys : List ℕ) : Type 0 where
  pub same : length ys ≡ length xs
  pub keeps : (x : ℕ) → Alike u xs x → Alike u ys x
  pub puts : (x : ℕ) → P x → Alike u ys x

-- the indices that P k has, for some k below n
abbrev pub Below : (n : ℕ) → (ℕ → ℕ → Type 0) → ℕ → Type 0
Below n P x = (k : ℕ) × (k < n) × P k x

-- the index y alone
abbrev pub At : ℕ → ℕ → Type 0
At y x = x ≡ y

-- xs with v 0, .., v (n - 1) stored from base on, step apart
unfoldable pub stores : (base step n : ℕ) → (ℕ → ℕ) → List ℕ → List ℕ
stores base step zero v xs = xs
stores base step (suc n) v xs = set (stores base step n v xs) (base + n * step) (v n)
