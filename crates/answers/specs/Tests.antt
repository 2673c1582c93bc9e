-- Document 01, 'Refusal numbers': a test of the table as a value, which says something in words, and computes. Assumes nothing.
use Rattle.std.specs.Prelude.{ℕ, zero, suc, ◌<◌, ◌≤◌, ◌≡◌, Bool, not, ◌&&◌, ◌||◌, ◌⊎◌, ◌≢◌, if◌then◌else◌}
use Rattle.laws.specs.Choice.{◌<?◌, ◌≤?◌, ◌=?◌}

pub data Test : Type 0 where
  over : (x most : ℕ) → Test
  under : (x least : ℕ) → Test
  reaches : (x limit : ℕ) → Test
  is : (x y : ℕ) → Test
  differs : (x needed : ℕ) → Test
  either : Test → Test → Test
  both : Test → Test → Test
  unless : Test → Test
  somewhere : (n : ℕ) → (ℕ → Test) → Test

-- low to high
abbrev pub within : (x low high : ℕ) → Test
within x low high = both (reaches x low) (reaches high x)

-- what it says
abbrev pub Says : Test → Type 0
Says (over x most) = most < x
Says (under x least) = x < least
Says (reaches x limit) = limit ≤ x
Says (is x y) = x ≡ y
Says (differs x needed) = x ≢ needed
Says (either t u) = Says t ⊎ Says u
Says (both t u) = Says t × Says u
Says (unless t) = ¬ Says t
Says (somewhere n t) = (i : ℕ) × (i < n) × Says (t i)

-- the first of 0, 1, .., n - 1 where f is true, or n where none is
unfoldable pub first_true : (n : ℕ) → (ℕ → Bool) → ℕ
first_true zero f = 0
first_true (suc n) f = if f 0 then 0 else suc (first_true n (λ i. f (suc i)))

-- whether it does
abbrev pub holds : Test → Bool
holds (over x most) = most <? x
holds (under x least) = x <? least
holds (reaches x limit) = limit ≤? x
holds (is x y) = x =? y
holds (differs x needed) = not (x =? needed)
holds (either t u) = holds t || holds u
holds (both t u) = holds t && holds u
holds (unless t) = not (holds t)
holds (somewhere n t) = first_true n (λ i. holds (t i)) <? n

-- the first index below n whose test holds, or n where none does
abbrev pub first_of : (n : ℕ) → (ℕ → Test) → ℕ
first_of n t = first_true n (λ i. holds (t i))
